-- The columns passed do not pass the test.
use Rattle.std.specs.Prelude.{ℕ, ◌≡◌, Bool}
use Rattle.counting.specs.Counting.{least}
use Rattle.two_layer_cuts.specs.Rows.{item}
use Rattle.two_layer_plan.proofs.first_column.Given as goal

abbrev pub invariant-loop-i : goal.invariant-loop-i
invariant-loop-i g l =
    (t : ℕ → Bool) → ((c : ℕ) (b : Bool) → goal.F-post g l.test (item l.goal c) (item l.cut c) b → b ≡ t c) → least t l.i ≡ 0
