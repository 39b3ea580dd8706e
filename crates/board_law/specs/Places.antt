-- The places of a board: "each one number, 256 × side (0 north, 1 south, 2 west, 3 east) + the place on it from 1" (document 02, job 7).
--
--   side_number s     "0 north, 1 south, 2 west, 3 east"
--   place_number s a  "256 × side .. + the place on it"
--   side_in v, place_in v
--                     the side that a number says, and the place on it
--   is_place q v      the number is a place on a side that the board's kind has: it is not "outside the board's sides"
--   listed l v        the number is in the list
use Rattle.std.specs.Prelude.{ℕ, ◌+◌, ◌-◌, ◌*◌, Bool, false, cond, ◌&&◌, ◌||◌, List, [], ◌∷◌, eqb, ltb}
use Rattle.terms.specs.Limits.{byte_values, within}
use Rattle.terms.specs.Kinds.{Side, north, south, west, east, has_side}
use Rattle.grid.specs.Grid.{places}
use Rattle.problem.specs.declared.Problem.{Problem}
use Rattle.problem.specs.Problem.{shape_of}

abbrev pub side_number : Side → ℕ
side_number north = 0
side_number south = 1
side_number west = 2
side_number east = 3

abbrev pub place_number : Side → ℕ → ℕ
place_number s a = byte_values * side_number s + a

abbrev pub side_in : ℕ → Side
side_in v =
    cond (ltb v (place_number south 0)) north (cond (ltb v (place_number west 0)) south (cond (ltb v (place_number east 0)) west east))

abbrev pub place_in : ℕ → ℕ
place_in v = v - place_number (side_in v) 0

unfoldable pub is_place : Problem → ℕ → Bool
is_place q v = has_side q.kind (side_in v) && within (place_in v) (places (shape_of q) (side_in v))

unfoldable pub listed : List ℕ → ℕ → Bool
listed [] v = false
listed (x ∷ l) v = eqb x v || listed l v
