-- When a wiring is legal, which wirings a ticket has, and where a buffer holds a wiring.
--
--   Pins                 the net at each place of each side, 0 where it is empty; "A pin place is empty or holds a net number"
--   Wiring               the net at each column, track and layer; "A wiring gives each point 0 or a net number"
--   holds p x u          the net at node u, a pin or a point
--   Held g p x m u       u is in the grid and holds net m
--   Linked g p x m u v   a chain of joined nodes from u to v that all hold net m; "one joined piece"
--   Legal g p x          "every nonzero point holds a net of the ticket and, for each net, its pins and points form one joined piece"
--   nets t               how many nets pass the test t; "the largest number of nets any column must pass"
--   GridOf kind n w g    g is the grid of a wiring of a ticket; "A wiring of a ticket has the ticket's n and, for a box, its w. Its other
--                        counts are any numbers from 1 up, and its first layer has either direction"
--   index g i j l        "point (i, j, l) at ((l - 1) × w + (j - 1)) × n + i - 1"
--   wiring_of g buffer   the wiring that a buffer holds
--   entry list a         entry a of a list, counted from 1 as places are; 0 outside
--   pins_of n s w e      the pins whose nets are listed, place by place, side by side
--   column_pins n s      the same with none to the west and the east
use Rattle.std.specs.Prelude.{ℕ, ◌+◌, ◌*◌, ◌-◌, ◌≤◌, ◌≡◌, ◌≢◌, Bool, List, [], ◌∷◌, get_or}
use Rattle.counting.specs.Counting.{count}
use Rattle.terms.specs.Kinds.{Side, north, south, west, east, box}
use Rattle.terms.specs.Limits.{largest_net}
use Rattle.grid.specs.Grid.{Grid, Node, pin, point, Inside, Joined}

abbrev pub Pins : Type 0
Pins = Side → ℕ → ℕ

abbrev pub Wiring : Type 0
Wiring = ℕ → ℕ → ℕ → ℕ

abbrev pub holds : Pins → Wiring → Node → ℕ
holds p x (pin s a) = p s a
holds p x (point i j l) = x i j l

pub record Held (g : Grid) (p : Pins) (x : Wiring) (m : ℕ) (u : Node) : Type 0 where
  pub inside : Inside g u
  pub net : holds p x u ≡ m

pub data Linked (g : Grid) (p : Pins) (x : Wiring) (m : ℕ) : Node → Node → Type 0 where
  stay : {u : Node} → Held g p x m u → Linked g p x m u u
  step : {u v z : Node} → Linked g p x m u v → Joined g v z → Held g p x m z → Linked g p x m u z

pub record Legal (g : Grid) (p : Pins) (x : Wiring) : Type 0 where
  pub known : (m i j l : ℕ) → m ≢ 0 → Held g p x m (point i j l) → (s : Side) × (a : ℕ) × Held g p x m (pin s a)
  pub whole : (m : ℕ) (u v : Node) → m ≢ 0 → Held g p x m u → Held g p x m v → Linked g p x m u v

abbrev pub nets : (ℕ → Bool) → ℕ
nets t = count t largest_net

-- for a row and a channel w is not read
pub record GridOf (kind n w : ℕ) (g : Grid) : Type 0 where
  pub length : g.n ≡ n
  pub width : kind ≡ box → g.w ≡ w
  pub columns : 1 ≤ g.n
  pub tracks : 1 ≤ g.w
  pub layers : 1 ≤ g.k

abbrev pub index : Grid → ℕ → ℕ → ℕ → ℕ
index g i j l = ((l - 1) * g.w + (j - 1)) * g.n + i - 1

abbrev pub wiring_of : Grid → List ℕ → Wiring
wiring_of g buffer i j l = get_or buffer (index g i j l) 0

abbrev pub entry : List ℕ → ℕ → ℕ
entry list a = get_or (0 ∷ list) a 0

abbrev pub pins_of : List ℕ → List ℕ → List ℕ → List ℕ → Pins
pins_of n s w e north = entry n
pins_of n s w e south = entry s
pins_of n s w e west = entry w
pins_of n s w e east = entry e

abbrev pub column_pins : List ℕ → List ℕ → Pins
column_pins n s = pins_of n s [] []
