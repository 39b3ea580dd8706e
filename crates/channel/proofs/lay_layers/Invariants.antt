-- `channel::lay_layers`: l layers are laid, and the next one starts at `from`.
use Rattle.std.proofs.Common.{◌≡◌, length}
use Rattle.channel.proofs.Layers.{Stacked}
use Rattle.channel.proofs.lay_layers.Given as goal

abbrev pub invariant-loop-l : goal.invariant-loop-l
invariant-loop-l l = record {
  same : length l.one ≡ length l.three;
  stacked : Stacked l.one l.three (length l.one) l.tracks l.fn.frame.k.0 l.size l.from l.l l.initial.wiring l.wiring;
}
