-- The operations that a two-layer channel gets: what `find_plan` promises of them.
--
--   MovesFound a b n moves   none where a channel of length n whose sides are a and b is solid, and else those of the definition `moves_of`
--   Planned a b n plan       the operations of that channel, as Moves has them: nets are gathered in a solid one too
use Rattle.std.specs.Prelude.{ℕ, ◌≡◌, true, false, Option, None, Some}
use Rattle.two_layer_law.specs.Cuts.{Same}
use Rattle.two_layer_law.specs.Moves.{leads, solid_test, Gathered, moves_of, start_of, moves}
use Rattle.two_layer_cuts.specs.declared.list.Operations.{Operations}
use Rattle.two_layer_cuts.specs.Rows.{operations_in, ops_of}
use Rattle.two_layer_plan.specs.declared.Plan.{Plan}

abbrev pub MovesFound : (ℕ → ℕ) → (ℕ → ℕ) → ℕ → Option Operations → Type 0
MovesFound a b n None = solid_test a b n ≡ true
MovesFound a b n (Some made) =
    (solid_test a b n ≡ false) × Same (ops_of (operations_in made)) (moves_of n (leads b a n) (start_of a b n) (moves a b n))

pub record Planned (a b : ℕ → ℕ) (n : ℕ) (plan : Plan) : Type 0 where
  pub norths : Gathered a b n (ops_of (operations_in plan.norths))
  pub souths : Gathered b a n (ops_of (operations_in plan.souths))
  pub moves : MovesFound a b n plan.moves
