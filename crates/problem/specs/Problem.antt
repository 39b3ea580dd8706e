-- The problem that a ticket states: kind, n, byte 2, the number of nets, and the pins. What follows a reading speaks of it alone.
--
--   pins_in ps         the four lists as the grid's pins
--   pin_count_on p m s, pin_count p m
--                      how many pins hold net m, on side s and on all
--   net_count p        "the number of nets": how many have a pin
--   filled_on p s, filled p
--                      "pins P (all of them)": how many places hold a pin, on side s and on all
--   lone_net p         "a net with one pin (the smallest such net)", 0 where there is none
--   width_of q         "for a box, its w"; the other kinds have no width of their own, and 1 stands there
--   shape_of q         a grid of the problem's length and width; its layers play no part
--   Another g p s a    a pin of the grid that holds the net at place a of side s and is another; "Each net has at least two pins."
--   Good q             what every ticket that Read accepts states: the header's ranges, and pins that are nets or empty, none past a
--                      side's end, none on a side that the kind lacks, no net with one pin
use Rattle.std.specs.Prelude.{ℕ, ◌+◌, ◌≤◌, ◌<◌, ◌≡◌, ◌≢◌, true, false, leb, eqb}
use Rattle.counting.specs.Counting.{In, count, least}
use Rattle.terms.specs.Limits.{longest_side, largest_net}
use Rattle.terms.specs.Kinds.{Side, north, south, west, east, by_kind, is_kind, has_side, largest_byte2}
use Rattle.grid.specs.Grid.{Grid, pin, places, upright}
use Rattle.grid.specs.Legal.{Pins as GridPins, nets, pins_of}
use Rattle.problem.specs.declared.Pins.{Pins}
use Rattle.problem.specs.declared.Problem.{Problem}

abbrev pub pins_in : Pins → GridPins
pins_in ps = pins_of ps.north ps.south ps.west ps.east

abbrev pub pin_count_on : GridPins → ℕ → Side → ℕ
pin_count_on p m s = count (λ a. eqb (p s a) m) longest_side

unfoldable pub pin_count : GridPins → ℕ → ℕ
pin_count p m = pin_count_on p m north + pin_count_on p m south + pin_count_on p m west + pin_count_on p m east

abbrev pub net_count : GridPins → ℕ
net_count p = nets (λ m. leb 1 (pin_count p m))

abbrev pub filled_on : GridPins → Side → ℕ
filled_on p s = count (λ a. leb 1 (p s a)) longest_side

unfoldable pub filled : GridPins → ℕ
filled p = filled_on p north + filled_on p south + filled_on p west + filled_on p east

abbrev pub lone_net : GridPins → ℕ
lone_net p = least (λ m. eqb (pin_count p m) 1) largest_net

abbrev pub width_of : Problem → ℕ
width_of q = by_kind q.kind 1 1 1 q.byte2 1

abbrev pub shape_of : Problem → Grid
shape_of q = upright q.n.0 (width_of q) 1

pub record Another (g : Grid) (p : GridPins) (s : Side) (a : ℕ) : Type 0 where
  pub side : Side
  pub place : ℕ
  pub on : In place (places g side)
  pub net : p side place ≡ p s a
  pub different : pin side place ≢ pin s a

pub record Good (q : Problem) : Type 0 where
  pub kind : is_kind q.kind ≡ true
  pub columns : In q.n.0 longest_side
  pub byte2 : In q.byte2 (largest_byte2 q.kind)
  pub numbered : (s : Side) (a : ℕ) → pins_in q.pins s a ≤ largest_net
  pub ends : (s : Side) (a : ℕ) → places (shape_of q) s < a → pins_in q.pins s a ≡ 0
  pub bare : (s : Side) → has_side q.kind s ≡ false → (a : ℕ) → pins_in q.pins s a ≡ 0
  pub several : (s : Side) (a : ℕ) → pins_in q.pins s a ≢ 0 → Another (shape_of q) (pins_in q.pins) s a
  pub nets : q.nets ≡ net_count (pins_in q.pins)
