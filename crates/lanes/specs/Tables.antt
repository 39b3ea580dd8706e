-- The tables of a box's pins, net by net, and what the assignment of lanes asks of them.
--
--   most_lanes                no box has more lanes
--   Nets side                 a side, whose places hold nets or 0
--   tallies a b c d m         the pins of net m; a to d are the counts of north, south, west and east
--   Asked ..                  lanes 1 to top are enough for the nets that get one, and there is one beside each place of the side `own`
use Rattle.std.specs.Prelude.{ℕ, ◌+◌, ◌-◌, ◌*◌, ◌≤◌, ◌<◌, List, Bool, length, get_or}
use Rattle.terms.specs.Limits.{longest_side, largest_net, net_entries, byte_values}
use Rattle.grid.specs.Legal.{nets}
use Rattle.switchbox_law.specs.Rules.{Tally, four, wanted}

abbrev pub most_lanes : ℕ
most_lanes = 2 * longest_side

pub record Nets (side : List ℕ) : Type 0 where
  pub short : length side ≤ longest_side
  pub small : (i : ℕ) → i < length side → get_or side i 0 ≤ largest_net

abbrev pub tallies : List ℕ → List ℕ → List ℕ → List ℕ → ℕ → Tally
tallies a b c d m = four (get_or a m 0) (get_or b m 0) (get_or c m 0) (get_or d m 0)

pub record Asked (a b c d own : List ℕ) (top : ℕ) (first : Bool) : Type 0 where
  pub most : top ≤ most_lanes
  pub side : Nets own
  pub beside : length own ≤ top
  pub fits : (m : ℕ) → m < net_entries → get_or a m 0 + get_or b m 0 ≤ byte_values - 1
  pub room : nets (wanted first (tallies a b c d)) ≤ top
