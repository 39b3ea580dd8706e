-- A box whose sides are four lists of nets, place by place, in the order north, south, west, east, and that an orientation turns and
-- mirrors. No promise of a public call cites this.
--
--   corner_at a b c d m    net m is on just the sides of the counts a and b; c and d are those of the sides across
--   Sides o a b c d n w    the ticket's sides a to d: the box that o makes of it has n columns and w tracks
--   standing n w           the grid in which a box with n ≥ w is laid
--   Canonical ..           such a box with n ≥ w, for which the buffer is long enough; ca to cd are the counts of the sides a to d; "the
--                          nets on just north and east" in the moved box are "the most numerous corner kind"
use Rattle.std.specs.Prelude.{ℕ, ◌+◌, ◌*◌, ◌≤◌, ◌≡◌, List, Bool, ◌&&◌, ltb, eqb, length, get_or}
use Rattle.counting.specs.Counting.{ceil}
use Rattle.terms.specs.Kinds.{Side}
use Rattle.grid.specs.Grid.{Grid, upright}
use Rattle.grid.specs.Legal.{entry, pins_of}
use Rattle.grid.specs.Motion.{Orientation}
use Rattle.orientation.specs.Lookup.{by_side, own_list, on_lines}
use Rattle.switchbox_law.specs.Rules.{MostNorthEast}
use Rattle.nets.specs.Tables.{pin_count_to, NetTable}
use Rattle.lanes.specs.Tables.{Nets}

abbrev pub corner_at : List ℕ → List ℕ → List ℕ → List ℕ → ℕ → Bool
corner_at a b c d m = ltb 0 (get_or a m 0) && ltb 0 (get_or b m 0) && eqb (get_or c m 0) 0 && eqb (get_or d m 0) 0

pub record Sides (o : Orientation) (a b c d : List ℕ) (n w : ℕ) : Type 0 where
  pub nets : (s : Side) → Nets (by_side a b c d s)
  pub long : (s : Side) → length (own_list o a b c d s) ≡ by_side n n w w s

abbrev pub standing : ℕ → ℕ → Grid
standing n w = upright n w (2 * ceil n w + 4)

pub record Canonical (o : Orientation) (a b c d ca cb cc cd : List ℕ) (n w : ℕ) (wiring : List ℕ) : Type 0 where
  pub sides : Sides o a b c d n w
  pub counts : (s : Side) → NetTable (pin_count_to (entry (by_side a b c d s)) (length (by_side a b c d s))) (by_side ca cb cc cd s)
  pub narrow : 1 ≤ w
  pub oblong : w ≤ n
  pub room : (2 * ceil n w + 4) * (n * w) ≤ length wiring
  pub corner : MostNorthEast (standing n w) (on_lines o (pins_of a b c d))
