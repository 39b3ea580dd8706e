-- The edges between points, as the sweep's loops go over them: the joins of the grid, by index. Cited by the contracts of inner
-- functions alone; Check's promise speaks of the grid's own joins.
--
--   horizontal f l     layer l + 1 is horizontal
--   Only a b           the one edge from a to b
--   Below F top        the edges of F 0, F 1, .. F (top - 1)
--   When is E          the edges E, or none
--   Run start count gap    from each of count points from start on, to the point gap further
--   Along q n w flat   within a layer at q
--   UpOf, AlongOf, LayerOf g l   from layer l + 1 to the next, within it, and both
--   Points g           of all layers
--   AllShut x m .. r   no edge of a run asks for a mark, just where r is false
--   Shape g            the counts are those that Check takes
use Rattle.std.specs.Prelude.{ℕ, ◌+◌, ◌*◌, ◌-◌, ◌%◌, ◌<◌, Bool, true, false, ◌≡◌, ◌⊎◌, List, ltb, eqb}
use Rattle.counting.specs.Counting.{In}
use Rattle.terms.specs.Limits.{longest_side, widest_grid, most_layers}
use Rattle.grid.specs.Grid.{Grid}
use Rattle.check_link.specs.Marks.{at, Shut}

abbrev pub horizontal : Bool → ℕ → Bool
horizontal true l = eqb (l % 2) 0
horizontal false l = eqb (l % 2) 1

abbrev pub Only : {A : Type 0} → A → A → A → A → Type 0
Only a b c d = (c ≡ a) × (d ≡ b)

abbrev pub Below : {A : Type 0} → (ℕ → A → A → Type 0) → ℕ → A → A → Type 0
Below F top a b = (j : ℕ) × (j < top) × F j a b

abbrev pub When : Bool → (ℕ → ℕ → Type 0) → ℕ → ℕ → Type 0
When is E a b = (is ≡ true) × E a b

abbrev pub Run : ℕ → ℕ → ℕ → ℕ → ℕ → Type 0
Run start count gap = Below (λ t. Only (start + t) (start + t + gap)) count

-- w tracks of n points, from q on
abbrev pub Rows : ℕ → ℕ → ℕ → ℕ → ℕ → Type 0
Rows q n w = Below (λ j. Run (q + j * n) (n - 1) 1) w

-- along the tracks of a horizontal layer, along the columns of a vertical one
abbrev pub Along : ℕ → ℕ → ℕ → Bool → ℕ → ℕ → Type 0
Along q n w true = Rows q n w
Along q n w false = Run q (n * w - n) n

abbrev pub UpOf : Grid → ℕ → ℕ → ℕ → Type 0
UpOf g l = When (ltb (l + 1) g.k) (Run (l * (g.n * g.w)) (g.n * g.w) (g.n * g.w))

abbrev pub AlongOf : Grid → ℕ → ℕ → ℕ → Type 0
AlongOf g l = Along (l * (g.n * g.w)) g.n g.w (horizontal g.first l)

abbrev pub LayerOf : Grid → ℕ → ℕ → ℕ → Type 0
LayerOf g l a b = UpOf g l a b ⊎ AlongOf g l a b

abbrev pub Points : Grid → ℕ → ℕ → Type 0
Points g = Below (LayerOf g) g.k

pub record AllShut (x m : List ℕ) (start count gap : ℕ) (r : Bool) : Type 0 where
  pub none : r ≡ false → (a b : ℕ) → Run start count gap a b → Shut (at x a) (at x b) (at m a) (at m b) (at m a) (at m b)
  pub some : ((a b : ℕ) → Run start count gap a b → Shut (at x a) (at x b) (at m a) (at m b) (at m a) (at m b)) → r ≡ false

pub record Shape (g : Grid) : Type 0 where
  pub long : In g.n longest_side
  pub wide : In g.w widest_grid
  pub deep : In g.k most_layers
