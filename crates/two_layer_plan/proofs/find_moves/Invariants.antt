-- The moves made are the definition's, and so is the state.
use Rattle.std.proofs.Common.{ℕ, ◌≤◌, ◌≡◌, length, get_or}
use Rattle.terms.specs.Limits.{byte_values}
use Rattle.two_layer_law.specs.Moves.{MoveState}
use Rattle.two_layer_cuts.specs.Rows.{operations_in, Row}
use Rattle.two_layer_plan.specs.States.{state_of, Agree}
use Rattle.two_layer_plan.proofs.Moving.{Moving}
use Rattle.two_layer_plan.proofs.find_moves.Given as goal

abbrev pub invariant-loop : goal.invariant-loop
invariant-loop l = record {
  many : length (operations_in l.made) ≡ l.counter;
  room : length l.at ≡ byte_values;
  inside : l.left ≤ l.n;
  near : (m : ℕ) → get_or l.at m 0 ≤ l.n;
  moving : (goal' : ℕ → ℕ) (st : MoveState) → Row l.n goal' l.goal → Agree l.n st (state_of l.fn.cut l.fn.at 0)
      → Moving l.n goal' st (operations_in l.made) l.cut l.at l.left;
}
