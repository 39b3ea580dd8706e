-- What `lay_box` asks, and the grid of the wiring that it promises.
--
--   box_layers n w                   "exactly 2q + 4 layers, q = longer side/shorter side, rounded up"
--   box_grid n w                     the grid of the wiring that is laid; "The first is vertical where n ≥ w, otherwise horizontal"
--   BoxPins north south west east n w wiring    the sides hold nets or 0 at their places, and the buffer is long enough
use Rattle.std.specs.Prelude.{ℕ, ◌+◌, ◌*◌, ◌≤◌, ◌<◌, min, max, List, ltb, length, get_or}
use Rattle.counting.specs.Counting.{In, ceil}
use Rattle.grid.specs.Grid.{Grid}
use Rattle.terms.specs.Limits.{largest_net, longest_side}

abbrev pub box_layers : ℕ → ℕ → ℕ
box_layers n w = 2 * ceil (max n w) (min n w) + 4

abbrev pub box_grid : ℕ → ℕ → Grid
box_grid n w = record { n = n; w = w; k = box_layers n w; first = ltb n w }

pub record BoxPins (north south west east : List ℕ) (n w : ℕ) (wiring : List ℕ) : Type 0 where
  pub long : In n longest_side
  pub wide : In w longest_side
  pub norths : (i : ℕ) → i < n → get_or north i 0 ≤ largest_net
  pub souths : (i : ℕ) → i < n → get_or south i 0 ≤ largest_net
  pub wests : (j : ℕ) → j < w → get_or west j 0 ≤ largest_net
  pub easts : (j : ℕ) → j < w → get_or east j 0 ≤ largest_net
  pub room : n * w * box_layers n w ≤ length wiring
