-- A net's span, in the words of document 02's job 2.
--
--   Reach g p at m low high   of the pins of net m, low is the least and high the greatest place along the grid, `at`, a column or a track;
--                             both are 0 where it has no pin
--   SpanOf g p m x            x is net m's span: "leftmost to rightmost column", and "exactly how many pins it has on each side"
use Rattle.std.specs.Prelude.{ℕ, ◌≤◌, ◌≡◌, ◌≢◌}
use Rattle.counting.specs.Counting.{In}
use Rattle.terms.specs.Kinds.{Side, north, south, west, east}
use Rattle.grid.specs.Grid.{Grid, Node, pin, places, column_of}
use Rattle.grid.specs.Legal.{Pins}
use Rattle.problem.specs.Problem.{pin_count_on}
use Rattle.nets.specs.declared.Span.{Span}

-- a pin of net m at the place x along the grid
pub record PinAt (g : Grid) (p : Pins) (at : Node → ℕ) (m x : ℕ) : Type 0 where
  pub side : Side
  pub place : ℕ
  pub on : In place (places g side)
  pub net : p side place ≡ m
  pub there : at (pin side place) ≡ x

pub record Reach (g : Grid) (p : Pins) (at : Node → ℕ) (m low high : ℕ) : Type 0 where
  pub least : (s : Side) (a : ℕ) → In a (places g s) → p s a ≡ m → low ≤ at (pin s a)
  pub greatest : (s : Side) (a : ℕ) → In a (places g s) → p s a ≡ m → at (pin s a) ≤ high
  pub lowest : (s : Side) (a : ℕ) → In a (places g s) → p s a ≡ m → PinAt g p at m low
  pub highest : (s : Side) (a : ℕ) → In a (places g s) → p s a ≡ m → PinAt g p at m high
  pub none : ((s : Side) (a : ℕ) → In a (places g s) → p s a ≢ m) → (low ≡ 0) × (high ≡ 0)

pub record SpanOf (g : Grid) (p : Pins) (m : ℕ) (x : Span) : Type 0 where
  pub net : x.net ≡ m
  pub columns : Reach g p (column_of g) m x.left x.right
  pub norths : x.north ≡ pin_count_on p m north
  pub souths : x.south ≡ pin_count_on p m south
  pub wests : x.west ≡ pin_count_on p m west
  pub easts : x.east ≡ pin_count_on p m east
