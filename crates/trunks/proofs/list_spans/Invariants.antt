-- `trunks::list_spans`: the spans of the pins passed are listed, no more than there are pins.
use Rattle.std.proofs.Common.{◌≤◌}
use Rattle.arrayvec.specs.ArrayVec.{array_vec_len}
use Rattle.nets.specs.Tables.{span_from}
use Rattle.trunks.specs.Listing.{pin_number, SpansListed}
use Rattle.trunks.proofs.list_spans.Given as goal

abbrev pub invariant-loop-q : goal.invariant-loop-q
invariant-loop-q l = record {
  few : array_vec_len l.list ≤ l.q;
  listed : SpansListed (pin_number l.pins.north l.pins.south)
      (λ m. span_from l.spans.columns.first l.spans.columns.last l.spans.columns.one l.spans.columns.two l.spans.tracks.one
      l.spans.tracks.two m l.n) l.q l.list.items;
}
