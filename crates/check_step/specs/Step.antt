-- What a step of the walk does: what it marks is reached (Grown), and no more is promised.
-- Cited by the contracts of inner functions alone; Check's promise speaks of the grid's own joins.
--
--   Cell                (src) a point on the way: its place in the buffer, its column, track and layer from 0, how many directions were tried
--   On g c              cell c is a point of the grid, at its place in the buffer
--   Tip g a i j h       pin a of the pin list touches column i, track j of the horizontal layers (h: true) or of the vertical ones
--   Stepped g c r       r is a cell, at a place that is joined to c's
--   TookEntry x m m' b v d   entry b holds v and had no mark, and m' is m with the mark d there
--   Claimed .. r        that where r says so, and nothing else where it does not
--   Moved g x m m' r    r is a cell or none, and what a step over the points marked is reached, whatever the pins
--   Met g p s s' q v    what point q marked among the pins is reached, where q is marked and holds v
--   Walked g ..         r is a cell or none, and what was marked is reached
--   Ready g x m c v     a step from cell c can begin: it is marked, and holds v
use Rattle.std.specs.Prelude.{ℕ, ◌+◌, ◌*◌, ◌<◌, ◌≡◌, ◌⊎◌, ◌≢◌, Bool, true, false, List, set, Option, IfSome}
use Rattle.grid.specs.Grid.{Grid}
use Rattle.check_link.specs.Marks.{at}
use Rattle.check_sweep.specs.Reached.{a_point, val, two, Grown}
use Rattle.check_sweep.specs.Pins.{Edges, south_start, west_start, east_start}
use Rattle.check_step.specs.declared.Cell.{Cell}

pub record On (g : Grid) (c : Cell) : Type 0 where
  pub column : c.i < g.n
  pub track : c.j < g.w
  pub layer : c.l < g.k
  pub is : c.q ≡ c.l * (g.n * g.w) + c.j * g.n + c.i

pub data Tip (g : Grid) (a i j : ℕ) : Bool → Type 0 where
  north_tip : a ≡ i → j + 1 ≡ g.w → Tip g a i j false
  south_tip : a ≡ south_start + i → j ≡ 0 → Tip g a i j false
  west_tip : a ≡ west_start + j → i ≡ 0 → Tip g a i j true
  east_tip : a ≡ east_start + j → i + 1 ≡ g.n → Tip g a i j true

pub record Stepped (g : Grid) (c r : Cell) : Type 0 where
  pub cell : On g r
  pub near : Edges g (a_point c.q) (a_point r.q) ⊎ Edges g (a_point r.q) (a_point c.q)

pub record TookEntry (x m m' : List ℕ) (b v d : ℕ) : Type 0 where
  pub free : at m b ≡ 0
  pub same : at x b ≡ v
  pub made : m' ≡ set m b d

pub record Claimed (x m m' : List ℕ) (b v d : ℕ) (r : Bool) : Type 0 where
  pub yes : r ≡ true → TookEntry x m m' b v d
  pub no : r ≡ false → m' ≡ m

pub record Moved (g : Grid) (x m m' : List ℕ) (r : Option Cell) : Type 0 where
  pub cell : IfSome r (On g)
  pub grown : (p s : List ℕ) → Grown (val p x) (two s m) (two s m') (Edges g)

pub record Met (g : Grid) (p s s' : List ℕ) (q v : ℕ) : Type 0 where
  pub grown : (x m : List ℕ) → at x q ≡ v → at m q ≢ 0 → Grown (val p x) (two s m) (two s' m) (Edges g)

pub record Walked (g : Grid) (p s s' x m m' : List ℕ) (r : Option Cell) : Type 0 where
  pub cell : IfSome r (On g)
  pub grown : Grown (val p x) (two s m) (two s' m') (Edges g)

pub record Ready (g : Grid) (x m : List ℕ) (c : Cell) (v : ℕ) : Type 0 where
  pub cell : On g c
  pub marked : at m c.q ≢ 0
  pub holds : at x c.q ≡ v
