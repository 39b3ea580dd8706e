-- The first column that is ready, where the column left is not.
use Rattle.std.proofs.Common.{arith, rules, ◌≡◌, false}
use Rattle.two_layer_law.specs.Moves.{ready}
use Rattle.two_layer_cuts.specs.Rows.{item}
use Rattle.two_layer_plan.proofs.Moving.{next_first}
use Rattle.two_layer_plan.proofs.next_move.Goals as goal
use Rattle.two_layer_plan.proofs.next_move.Goals.{else-goal-left-ne0-via-then-goal-left-ne0+else-cut-left-eq0}
use Rattle.two_layer_plan.proofs.next_move.Goals.{else-goal-left-ne0-via-else-goal-left-ne0}
use Rattle.std.proofs.lemmas.Grind.{common_steps}

pub returns-in-Some : goal.returns-in-Some
returns-in-Some c =
    let wanted = item c.args.goal.now in
    let cut = item c.args.cut.now in
    let not_left : ready wanted cut c.args.left ≡ false = elim c.else-goal-left-ne0.branch [
      | else-goal-left-ne0-via-then-goal-left-ne0+else-cut-left-eq0 w ↦ grind (arith, common_steps)
      | else-goal-left-ne0-via-else-goal-left-ne0 w ↦ grind (arith, common_steps)
    ] in
    let least_is = c.in-Some.ensures.first (ready wanted cut) (λ k b e. search rules) in
    λ at. next_first c.args.n wanted cut at c.args.left c.in-Some.first not_left least_is (omega (arith, c.in-Some.ensures.within))
