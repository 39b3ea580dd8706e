-- `trunks::pack_spans`: the spans passed have their places, and the others can be packed after them.
use Rattle.std.proofs.Common.{◌≡◌, drop}
use Rattle.trunks.specs.Packing.{fresh_packing, packed, Packable}
use Rattle.trunks.proofs.pack_spans.Given as goal

abbrev pub invariant-loop-span : goal.invariant-loop-span
invariant-loop-span l = record {
  fit : Packable l.packing (drop l.span-index l.spans);
  so_far : packed fresh_packing l.spans ≡ packed l.packing (drop l.span-index l.spans);
}
