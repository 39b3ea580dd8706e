-- What the inner functions of Check find, by index. Cited by their contracts alone: Check's own promise is in Check.antt.
--
--   PinsListed g p list   the list has the pins p of the grid, each at its place, and no others
--   Firsts p s            each net's first pin is marked in s, and no other
--   Marking g p x s m     the marks s and m began with the first pins and have settled
--   Torn g p x r          r is the smallest net with a spot that settled marks leave out, or 0
--   Judges g list x r     r is what Check finds, whatever the pins that the list has
use Rattle.std.specs.Prelude.{ℕ, ◌≤◌, ◌≡◌, ◌≢◌, List}
use Rattle.counting.specs.Counting.{In}
use Rattle.terms.specs.Kinds.{Side}
use Rattle.terms.specs.Limits.{longest_side, widest_grid, largest_net}
use Rattle.terms.specs.declared.Refusal.{Refusal}
use Rattle.grid.specs.Grid.{Grid, places}
use Rattle.grid.specs.Legal.{Pins}
use Rattle.check_link.specs.Marks.{at}
use Rattle.check_sweep.specs.Reached.{val, two, Settled}
use Rattle.check_sweep.specs.Pins.{pin_at, Edges}
use Rattle.check_scan.specs.Scan.{First, LowestOf}
use Rattle.checker.specs.Check.{Judged}

pub record PinsListed (g : Grid) (p : Pins) (list : List ℕ) : Type 0 where
  pub long : In g.n longest_side
  pub wide : In g.w widest_grid
  pub there : (s : Side) (a : ℕ) → In a (places g s) → p s a ≡ at list (pin_at s a)
  pub back : (b : ℕ) → at list b ≢ 0 → (s : Side) × (a : ℕ) × In a (places g s) × (pin_at s a ≡ b)
  pub small : (b : ℕ) → at list b ≤ largest_net

pub record Firsts (p s : List ℕ) : Type 0 where
  pub first : (a : ℕ) → at s a ≢ 0 → First p a
  pub marked : (a : ℕ) → First p a → at s a ≢ 0

pub record Marking (g : Grid) (p x s m : List ℕ) : Type 0 where
  pub s₀ : List ℕ
  pub m₀ : List ℕ
  pub firsts : Firsts p s₀
  pub clear : (q : ℕ) → at m₀ q ≡ 0
  pub settled : Settled (val p x) (two s₀ m₀) (two s m) (Edges g)

pub record Torn (g : Grid) (p x : List ℕ) (r : ℕ) : Type 0 where
  pub s : List ℕ
  pub m : List ℕ
  pub marking : Marking g p x s m
  pub lowest : LowestOf p s x m r

pub record Judges (g : Grid) (list x : List ℕ) (r : Refusal) : Type 0 where
  pub judged : (p : Pins) → PinsListed g p list → Judged g p x r
