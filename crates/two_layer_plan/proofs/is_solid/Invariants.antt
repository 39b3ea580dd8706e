-- The columns passed are tested.
use Rattle.std.specs.Prelude.{◌≡◌, not, ◌&&◌, eqb, leb}
use Rattle.counting.specs.Counting.{some, every}
use Rattle.two_layer_cuts.specs.Rows.{item}
use Rattle.two_layer_plan.proofs.is_solid.Given as goal

abbrev pub invariant-loop-i : goal.invariant-loop-i
invariant-loop-i l =
    (l.full ≡ every (λ c. leb 1 (item l.cut c) && leb 1 (item l.goal c)) l.i)
    × (l.crooked ≡ some (λ c. not (eqb (item l.cut c) (item l.goal c))) l.i)
