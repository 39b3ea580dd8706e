-- From a pin to the cell that it touches, and on.
use mathlib.Core.Bool.{Bool, true, false, not, beq, true≢false}
use Rattle.std.proofs.Common.{◌≡◌, refl, sym, ◌∙◌}
use Rattle.check_sweep.proofs.Settling.{grown_none, grown_then}
use Rattle.check_step.proofs.Steps.{in_buffer}
use Rattle.check_walk.proofs.Starting.{begun}
use Rattle.check_walk.proofs.begin.Goals as goal

same_direction : (a b : Bool) → not (beq a b) ≡ false → a ≡ b
same_direction true true e = refl
same_direction true false e = absurd (true≢false e)
same_direction false true e = absurd (true≢false e)
same_direction false false e = refl

pub returns-then-is_flat-flat : goal.returns-then-is_flat-flat
returns-then-is_flat-flat c = grown_none

pub returns-then-not-claim : goal.returns-then-not-claim
returns-then-not-claim c =
    begun c.args.x.pins.now c.requires.1 (sym c.is_horizontal-is_flat.ensures ∙ same_direction c.is_horizontal-is_flat.result c.args.flat c.if-is_flat-flat.false) c.claim.ensures
    (in_buffer c.args.x.shape c.args.x.size c.requires.0 c.requires.1.cell).1

pub returns : goal.returns
returns c =
    grown_then
    (begun c.args.x.pins.now c.requires.1 (sym c.is_horizontal-is_flat.ensures ∙ same_direction c.is_horizontal-is_flat.result c.args.flat c.if-is_flat-flat.false) c.claim.ensures
    (in_buffer c.args.x.shape c.args.x.size c.requires.0 c.requires.1.cell).1)
    c.walk.ensures
