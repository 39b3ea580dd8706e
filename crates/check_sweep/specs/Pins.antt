-- The pin list, the edges from pins, and all edges together, by index. Cited by the contracts of inner
-- functions alone; Check's promise speaks of the grid's own joins.
--
--   south_start, west_start, east_start, pin_places
--                      where the places of these sides start in the pin list, in which those of north come first, and its length
--   pin_at s a         the place of pin a of side s in the pin list
--   PinRun first start gap count  from each of count pins from first on, to the points from start on in steps of gap
--   Ends, EndsOf       from the pins that a layer at q, or layer l + 1, touches
--   PinJoins g         from all pins
--   Inner E            the edges E between points, as edges between spots
--   Edges g            all edges
use Rattle.std.specs.Prelude.{ℕ, ◌+◌, ◌*◌, ◌-◌, Bool, true, false, ◌⊎◌}
use Rattle.terms.specs.Kinds.{Side, north, south, west, east}
use Rattle.terms.specs.Limits.{longest_side, widest_grid}
use Rattle.grid.specs.Grid.{Grid}
use Rattle.check_link.specs.Edges.{horizontal, Only, Below, Points}
use Rattle.check_sweep.specs.Reached.{Spot, a_pin, a_point}

abbrev pub south_start : ℕ
south_start = longest_side

abbrev pub west_start : ℕ
west_start = 2 * longest_side

abbrev pub east_start : ℕ
east_start = 2 * longest_side + widest_grid

abbrev pub pin_places : ℕ
pin_places = 2 * longest_side + 2 * widest_grid

abbrev pub pin_at : Side → ℕ → ℕ
pin_at north a = a - 1
pin_at south a = south_start + (a - 1)
pin_at west a = west_start + (a - 1)
pin_at east a = east_start + (a - 1)

abbrev pub PinRun : ℕ → ℕ → ℕ → ℕ → Spot → Spot → Type 0
PinRun first start gap count = Below (λ t. Only (a_pin (first + t)) (a_point (start + t * gap))) count

-- west and east of a horizontal layer; south and north of a vertical one
abbrev pub Ends : ℕ → ℕ → ℕ → Bool → Spot → Spot → Type 0
Ends q n w true a b = PinRun west_start q n w a b ⊎ PinRun east_start (q + (n - 1)) n w a b
Ends q n w false a b = PinRun south_start q 1 n a b ⊎ PinRun 0 (q + (n * w - n)) 1 n a b

abbrev pub EndsOf : Grid → ℕ → Spot → Spot → Type 0
EndsOf g l = Ends (l * (g.n * g.w)) g.n g.w (horizontal g.first l)

abbrev pub PinJoins : Grid → Spot → Spot → Type 0
PinJoins g = Below (EndsOf g) g.k

abbrev pub Inner : (ℕ → ℕ → Type 0) → Spot → Spot → Type 0
Inner E (a_point a) (a_point b) = E a b
Inner E (a_point a) (a_pin b) = ⊥
Inner E (a_pin a) b = ⊥

abbrev pub Edges : Grid → Spot → Spot → Type 0
Edges g a b = Inner (Points g) a b ⊎ PinJoins g a b
