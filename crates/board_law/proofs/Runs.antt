-- The places that must pass a net are one run, from its least to its greatest place between the ends of the grid: the tables' laws (crate
-- figures) tell what passes it, and `in_run` is the same in each of the four ways that a net with pins can lie.
use Prim.Native.Nat.{ℕ, suc, ◌+◌, ◌≤◌, ◌<◌, min, max}
use mathlib.Core.Path.{◌≡◌, refl, sym, ap, ap₂, ◌∙◌, subst}
use mathlib.Core.Logic.{by_cases}
use mathlib.Core.Bool.{Bool, true, ◌&&◌, ◌||◌, and-true, and-false, or-false, and-eq-true_iff}
use native.Mathlib.Decide.{ℕ_discrete}
use native.Mathlib.Omega.{arith}
use lib.Dec.{eqb, leb, ltb}
use borrow.Author.Tests.{eq-eqb, ne_eqb, eqb-true, le-leb, lt-leb, leb-true}
use Rattle.counting.specs.Counting.{In}
use Rattle.terms.specs.Kinds.{Side}
use Rattle.terms.proofs.Laws.{within_of}
use Rattle.grid.specs.Grid.{Grid, Node}
use Rattle.grid.specs.Legal.{Pins}
use Rattle.density.specs.Density.{passes_at, box_passes_at}
use Rattle.density.proofs.Pinned.{same, leb_iff}
use Rattle.nets.specs.Spans.{Reach}
use Rattle.nets.specs.Tables.{low_of, high_of}
use Rattle.figures.specs.Crossings.{nowhere}
use Rattle.figures.proofs.Passes.{passes_reach}
use Rattle.figures.proofs.Alone.{Tells, all_near, all_far}
use Rattle.figures.proofs.Ways.{Columns, Course, over, near_alone, far_alone, still, course, ends_near, begins_far}
use Rattle.board_law.specs.Runs.{run_from, in_run}

-- ---- the run of a net, by where it lies

leb_same : (a b c d : ℕ) → (a ≤ b → c ≤ d) → (c ≤ d → a ≤ b) → leb a b ≡ leb c d
leb_same a b c d f g = same _ _ (leb_iff a b) (λ e. g ((leb_iff c d).0 e), λ h. (leb_iff c d).1 (f h))

eqb_between : (c x : ℕ) → eqb c x ≡ (leb x c && leb c x)
eqb_between c x = same _ _ (eqb-true c x, eq-eqb c x) (there, λ e. rw (le-leb x c (omega arith)) (le-leb c x (omega arith)))
  where
    there : (leb x c && leb c x) ≡ true → c ≡ x
    there e = let b = (and-eq-true_iff (leb x c) (leb c x)).0 e in omega (arith, leb-true x c b.0, leb-true c x b.1)

-- by its least and its greatest place, as `passes_reach` tells it
abbrev passes_by : ℕ → ℕ → ℕ → Bool
passes_by low high c = leb low c && leb c high && ltb low high

module _ (n c : ℕ) (i : In c n) where
  run_over : {low high : ℕ} → low < high → high ≤ n + 1 → passes_by low high c ≡ in_run low high n c
  run_over {low} {high} less fits =
      rw (le-leb (suc low) high less, and-true (leb low c && leb c high), ne_eqb low high (λ e. omega arith))
      (ap₂ ◌&&◌ (leb_same low c (run_from low n) c (λ h. omega arith) (λ h. omega arith))
      (leb_same c high c (max (run_from low n) (min (max high 1) n)) (λ h. omega arith) (λ h. omega arith)))

  run_still : (x : ℕ) → In x n → passes_by x x c ≡ in_run x x n c
  run_still x j =
      rw (lt-leb (suc x) x (omega arith), eq-eqb x x refl, within_of x n j, lt-leb c 0 i.0)
      (and-false (leb x c && leb c x) ∙ sym (and-false (leb (run_from x n) c)))

  between_same : (x a b : ℕ) → x ≡ a → x ≡ b → (leb x c && leb c x) ≡ (leb a c && leb c b)
  between_same x a b e f = ap₂ (λ (y z : ℕ). leb y c && leb c z) e f

  run_near : eqb c 1 ≡ in_run 0 0 n c
  run_near = eqb_between c 1 ∙ between_same 1 (run_from 0 n) (max (run_from 0 n) (min 1 n)) (omega arith) (omega arith)

  run_far : eqb c n ≡ in_run (n + 1) (n + 1) n c
  run_far =
      rw (lt-leb (n + 1) n (omega arith), and-false (leb 1 (n + 1)), and-false (eqb (n + 1) (n + 1)))
      (eqb_between c n ∙ between_same n (run_from (n + 1) n) (max (run_from (n + 1) n) (min (max (n + 1) 1) n)) (omega arith) (omega arith))

  -- no pins at the ends
  plain_run : {low high : ℕ} → In low n → low ≤ high → high ≤ n → passes_by low high c ≡ in_run low high n c
  plain_run {low} {high} on order fits = by_cases (ℕ_discrete low high)
      (λ e. subst (λ (z : ℕ). passes_by low z c ≡ in_run low z n c) e (run_still low on))
      (λ ne. run_over (omega (arith, ne)) (omega arith))

-- f and l are the net's first and last place between the ends, v and u the number of its pins on the near and on the far side
module _ {f l v u n : ℕ} (small : n + 1 < nowhere) where
  box_run : {low high x y : ℕ} (c : ℕ) → In c n → Course f l v u n low high x y
      → (v ≡ 0 → u ≡ 0 → In low n × (low ≤ high) × (high ≤ n))
      → (passes_by low high c || (eqb c 1 && eqb y 0) || (eqb c n && eqb x (n + 1))) ≡ in_run low high n c
  box_run {low} {high} c i (over less fits a b) between =
      (simp (ne_eqb high 0 (λ e. omega arith), ne_eqb low (n + 1) (λ e. omega arith), and-false, or-false)) ∙ run_over n c i less fits
  box_run c i (near_alone a b d) between =
      (simp (lt-leb c 0 i.0, ne_eqb 0 (n + 1) (λ e. omega arith), and-true, and-false, or-false)) ∙ run_near n c i
  box_run c i (far_alone a b d) between =
      (simp (lt-leb (n + 1) c (omega arith), ne_eqb (n + 1) 0 (λ e. omega arith), eq-eqb (n + 1) (n + 1) refl, and-true, and-false))
      ∙ run_far n c i
  box_run {low} {high} c i (still back none_near none_far) between =
      let (on, order, fits) = between none_near none_far in
      (simp (ne_eqb nowhere (n + 1) (λ e. omega arith), and-false, or-false)) ∙ plain_run n c i on order fits

-- ---- the same of a net on a grid

-- what the tables say of a net m that has a pin, along the sides a and b of n places each
pub record Lies (g : Grid) (p : Pins) (along : Node → ℕ) (m : ℕ) (a b near far : Side) (n f l v u : ℕ) : Type 0 where
  pub reach : Reach g p along m (low_of f v u (n + 1)) (high_of l u (n + 1))
  pub tells : Tells g p m a b near far f l v u
  pub columns : Columns f l n
  pub pinned : 1 ≤ f + v + u
  pub small : n + 1 < nowhere

module _ {g : Grid} {p : Pins} {along : Node → ℕ} {m : ℕ} {a b near far : Side} {n f l v u : ℕ}
    (k : Lies g p along m a b near far n f l v u) (c : ℕ) (i : In c n) where
  abbrev low : ℕ
  low = low_of f v u (n + 1)

  abbrev high : ℕ
  high = high_of l u (n + 1)

  -- where it has no pins at the ends
  between : v ≡ 0 → u ≡ 0 → In low n × (low ≤ high) × (high ≤ n)
  between z o = rw (z, o, ne_eqb f 0 (λ e. omega (arith, k.pinned))) (omega (arith, k.pinned, k.columns.order, k.columns.fits))

  pub box_passed : box_passes_at g p along near far n c m ≡ in_run low high n c
  unfolding box_passes_at
  box_passed =
      let way = course f l v u n k.columns in
      let on_near = all_near k.tells ∙ sym (ends_near k.small way) in
      let on_far = all_far k.tells ∙ sym (begins_far k.small way) in
      rw (passes_reach g p along m c k.reach, on_near, on_far) (box_run k.small c i way between)

  pub plain_passed : v ≡ 0 → u ≡ 0 → passes_at g p along c m ≡ in_run low high n c
  plain_passed z o =
      let (on, order, fits) = between z o in passes_reach g p along m c k.reach ∙ plain_run n c i on order fits
