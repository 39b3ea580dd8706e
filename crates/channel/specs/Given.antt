-- What laying a row or a channel asks of the caller.
--
--   Given north south n w h k x    sizes that a ticket can have, pins that are nets' or empty, as many tracks as across asks of
--                                  h trunk layers, and a buffer x that holds the grid
use Rattle.std.specs.Prelude.{ℕ, ◌*◌, ◌≤◌, List, length, get_or}
use Rattle.counting.specs.Counting.{In}
use Rattle.grid.specs.Grid.{upright}
use Rattle.terms.specs.Limits.{largest_net, longest_side, most_trunk_layers}
use Rattle.grid.specs.Legal.{column_pins}
use Rattle.density.specs.Density.{across}

pub record Given (north south : List ℕ) (n w h k : ℕ) (x : List ℕ) : Type 0 where
  pub columns : In n longest_side
  pub tracks : In w longest_side
  pub trunks : In h most_trunk_layers
  pub norths : (a : ℕ) → get_or north a 0 ≤ largest_net
  pub souths : (a : ℕ) → get_or south a 0 ≤ largest_net
  pub passed : across (upright n w k) (column_pins north south) ≤ h * w
  pub room : n * w * k ≤ length x
