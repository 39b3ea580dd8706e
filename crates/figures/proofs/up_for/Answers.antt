-- `figures::up_for` meets its contract: a box has it, and no other kind.
use Rattle.std.proofs.Common.{refl, sym, ◌∙◌}
use Rattle.terms.proofs.Laws.{of_box}
use Rattle.figures.proofs.up_for.Goals as goal

pub returns-then-kind-eq-BOX : goal.returns-then-kind-eq-BOX
returns-then-kind-eq-BOX c = record {
  small = c.density.ensures.small;
  tracks = λ s t n hs ht. c.density.ensures.tracks refl s t n hs ht ∙ sym (of_box c.args.kind 0 0 0 _ 0 c.if-kind-eq-BOX.true);
}
