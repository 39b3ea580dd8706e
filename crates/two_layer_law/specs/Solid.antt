-- Which two-layer channels have no wiring: "Call it solid when all 2n places are filled, every net has one north and one south pin, and
-- some net's pins are in different columns."
--
--   filled p n     "all 2n places are filled"
--   paired p       "every net has one north and one south pin"
--   crooked p n    "some net's pins are in different columns"
--   solid p n      all three, of a channel of length n with the pins p
use Rattle.std.specs.Prelude.{ℕ, Bool, not, ◌&&◌, eqb, leb}
use Rattle.counting.specs.Counting.{some, every}
use Rattle.terms.specs.Limits.{largest_net}
use Rattle.terms.specs.Kinds.{north, south}
use Rattle.grid.specs.Legal.{Pins}
use Rattle.problem.specs.Problem.{pin_count_on, pin_count}

unfoldable pub filled : Pins → ℕ → Bool
filled p n = every (λ c. leb 1 (p north c) && leb 1 (p south c)) n

unfoldable pub paired : Pins → Bool
paired p = not (some (λ m. leb 1 (pin_count p m) && not (eqb (pin_count_on p m north) 1 && eqb (pin_count_on p m south) 1)) largest_net)

unfoldable pub crooked : Pins → ℕ → Bool
crooked p n = some (λ m. some (λ a. some (λ b. eqb (p north a) m && eqb (p south b) m && not (eqb a b)) n) n) largest_net

unfoldable pub solid : Pins → ℕ → Bool
solid p n = filled p n && paired p && crooked p n
