-- The two pins that a cell can touch in its layer's direction.
use Rattle.std.proofs.Common.{refl, sym, ◌∙◌, subst, eqb-true}
use Rattle.grid.specs.Grid.{grid_of}
use Rattle.check_step.specs.Step.{Tip, north_tip, south_tip, west_tip, east_tip}
use Rattle.check_step.proofs.Growing.{met_none, met_then}
use Rattle.check_step.proofs.meet.Goals as goal

pub returns-then-c-ne0 : goal.returns-then-c-ne0
returns-then-c-ne0 c = met_none

pub meet_pin-requires-clause-tip : goal.meet_pin-requires-clause-tip
meet_pin-requires-clause-tip c =
    λ e. subst (Tip (grid_of c.args.x.frame) _ c.args.c.i c.args.c.j) (sym c.if-is_horizontal.true ∙ c.is_horizontal.ensures) (west_tip refl (eqb-true _ _ e))

pub meet_pin-requires-then-is_horizontal-clause-tip : goal.meet_pin-requires-then-is_horizontal-clause-tip
meet_pin-requires-then-is_horizontal-clause-tip c =
    λ e. subst (Tip (grid_of c.args.x.frame) _ c.args.c.i c.args.c.j) (sym c.if-is_horizontal.true ∙ c.is_horizontal.ensures) (east_tip refl (eqb-true _ _ e ∙ c.column_count.ensures))

pub meet_pin-requires-else-is_horizontal-clause-tip : goal.meet_pin-requires-else-is_horizontal-clause-tip
meet_pin-requires-else-is_horizontal-clause-tip c =
    λ e. subst (Tip (grid_of c.args.x.frame) _ c.args.c.i c.args.c.j) (sym c.if-is_horizontal.false ∙ c.is_horizontal.ensures) (south_tip refl (eqb-true _ _ e))

pub meet_pin-requires-else-is_horizontal-2-clause-tip : goal.meet_pin-requires-else-is_horizontal-2-clause-tip
meet_pin-requires-else-is_horizontal-2-clause-tip c =
    λ e. subst (Tip (grid_of c.args.x.frame) _ c.args.c.i c.args.c.j) (sym c.if-is_horizontal.false ∙ c.is_horizontal.ensures) (north_tip refl (eqb-true _ _ e ∙ c.track_count.ensures))

pub returns-then-is_horizontal : goal.returns-then-is_horizontal
returns-then-is_horizontal c = met_then c.meet_pin.ensures c.meet_pin-then-is_horizontal.ensures

pub returns-else-is_horizontal : goal.returns-else-is_horizontal
returns-else-is_horizontal c = met_then c.meet_pin-else-is_horizontal.ensures c.meet_pin-else-is_horizontal-2.ensures
