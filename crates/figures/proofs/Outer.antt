-- The first and the last column of a box: the nets that begin on the near side or at column 1 are those that column 1 must pass, and
-- likewise at the other end. The only column passes both, and each net counts once.
use Prim.Native.Nat.{ℕ, suc, ◌+◌, ◌-◌, ◌≤◌, ◌<◌, max}
use mathlib.Core.Path.{◌≡◌, refl, sym, ap, ap₂, ◌∙◌, subst}
use mathlib.Core.Logic.{by_cases}
use mathlib.Core.Bool.{Bool, true, false, not, ◌&&◌, ◌||◌, and-false, or-true, or-false}
use mathlib.Core.List.{List}
use native.Mathlib.Decide.{ℕ_discrete}
use native.Mathlib.Omega.{arith}
use lib.Dec.{eqb, leb}
use borrow.Author.Tests.{eq-eqb, ne_eqb, le-leb, lt-leb}
use Rattle.counting.specs.Counting.{bit, most}
use Rattle.counting.proofs.Sums.{bit_le, sum_same, sum_add, sum_le}
use Rattle.counting.proofs.Counts.{count_same, most_outer}
use Rattle.terms.specs.Limits.{largest_net}
use Rattle.grid.specs.Legal.{nets}
use Rattle.figures.specs.Crossings.{at, nowhere, Way, crosses, all_near, all_far, nowhere_at_all, comes_to, EndsCounted, EndsAt}
use Rattle.figures.specs.Crossings.{goes_over, box_over, now_at}
use Rattle.figures.proofs.Sweep.{TwoPins, beginning, ending}

-- ---- one net

abbrev Over : ℕ → ℕ → ℕ → ℕ → Bool
Over n c x y = (leb x c && leb c y) || (eqb c 1 && eqb y 0) || (eqb c n && eqb x (n + 1))

module _ {n : ℕ} (small : n + 1 < nowhere) where
  at_first : {x y : ℕ} → 1 < n → Way n x y → bit (Over n 1 x y) ≡ bit (eqb x 0) + bit (eqb x 1)
  at_first {x} {y} two (crosses l h) = rw (ne_eqb 1 n (λ q. omega arith), le-leb 1 y (omega arith), ne_eqb y 0 (λ q. omega arith))
      (by_cases (ℕ_discrete x 0)
      (λ q. simp (le-leb x 1 (omega arith), eq-eqb x 0 q, ne_eqb x 1 (λ r. omega arith)))
      (λ ne. rw (ne_eqb x 0 ne) (by_cases (ℕ_discrete x 1)
      (λ q. simp (le-leb x 1 (omega arith), eq-eqb x 1 q))
      (λ no. simp (lt-leb x 1 (omega (arith, ne, no)), ne_eqb x 1 no)))))
  at_first two all_near = refl
  at_first two all_far =
      rw (
        ne_eqb 1 n (λ q. omega arith),
        lt-leb (n + 1) 1 (omega arith),
        ne_eqb (n + 1) 0 (λ q. omega arith),
        ne_eqb (n + 1) 1 (λ q. omega arith),
      ) refl
  at_first two nowhere_at_all = rw (ne_eqb 1 n (λ q. omega arith)) refl

  at_last : {x y : ℕ} → 1 < n → Way n x y → bit (Over n n x y) ≡ bit (eqb y (n + 1)) + bit (eqb y n)
  at_last {x} {y} two (crosses l h) =
      rw (ne_eqb n 1 (λ q. omega arith), eq-eqb n n refl, le-leb x n (omega arith), ne_eqb x (n + 1) (λ q. omega arith))
      (by_cases (ℕ_discrete y (n + 1))
      (λ q. simp (le-leb n y (omega arith), eq-eqb y (n + 1) q, ne_eqb y n (λ r. omega arith)))
      (λ ne. rw (ne_eqb y (n + 1) ne) (by_cases (ℕ_discrete y n)
      (λ q. simp (le-leb n y (omega arith), eq-eqb y n q))
      (λ no. simp (lt-leb n y (omega (arith, ne, no)), ne_eqb y n no)))))
  at_last two all_near =
      rw (
        ne_eqb n 1 (λ q. omega arith),
        eq-eqb n n refl,
        lt-leb n 0 (omega arith),
        ne_eqb 0 (n + 1) (λ q. omega arith),
        ne_eqb 0 n (λ q. omega arith),
      ) (simp and-false)
  at_last two all_far =
      rw (ne_eqb n 1 (λ q. omega arith), eq-eqb n n refl, eq-eqb (n + 1) (n + 1) refl, ne_eqb (n + 1) n (λ q. omega arith)) (simp or-true)
  at_last two nowhere_at_all = rw (
    ne_eqb n 1 (λ q. omega arith),
    eq-eqb n n refl,
    lt-leb nowhere n (omega arith),
    ne_eqb nowhere (n + 1) (λ q. omega arith),
    ne_eqb nowhere n (λ q. omega arith),
  ) refl

-- the only column
at_only : {x y : ℕ} → Way 1 x y → bit (Over 1 1 x y) + bit (eqb x 0 && not (eqb y 0)) ≡ bit (eqb y 2) + bit (eqb y 1) + bit (eqb x 0)
at_only {x} {y} (crosses l h) = by_cases (ℕ_discrete y 2)
    (λ q. rw q (by_cases (ℕ_discrete x 0)
    (λ z. rw z refl)
    (λ ne. let one : x ≡ 1 = omega (arith, ne) in rw one refl)))
    (λ ne. let e : y ≡ 1 = omega (arith, ne) in let z : x ≡ 0 = omega arith in rw (e, z) refl)
at_only all_near = refl
at_only all_far = refl
at_only nowhere_at_all = refl

-- ---- all nets

bit_and : (a b : Bool) → bit (a && b) ≤ bit a
bit_and true b = bit_le b
bit_and false b = omega arith

module _ {a b from to : List ℕ} {n coming near far : ℕ} (small : n + 1 < nowhere) (h : EndsAt a b n from to)
    (k : EndsCounted from to (n + 1) largest_net coming near far) where
  first_over : {x y : ℕ} → 1 < n → TwoPins a b 0 x y → nets (box_over from to n 1) ≡ near + now_at from x y 1
  first_over long p =
      sum_same _ _ largest_net (λ m i. at_first small long (h.way m i))
      ∙ sum_add (λ m. bit (eqb (at from m) 0)) (λ m. bit (eqb (at from m) 1)) largest_net
      ∙ ap₂ (λ (i j : ℕ). i + j) (sym k.begin) (beginning (omega arith) h (omega arith) p)

  -- z is the last column, counted from 0
  module _ {x y z : ℕ} (last : suc z ≡ n) (p : TwoPins a b z x y) where
    stops : nets (λ m. eqb (at to m) n) ≡ now_at to x y n
    stops = subst (λ (c : ℕ). nets (λ m. eqb (at to m) c) ≡ now_at to x y c) last (ending (omega arith) h (omega arith) p)

    last_over : 1 < n → nets (box_over from to n n) ≡ far + now_at to x y n
    last_over long =
        sum_same _ _ largest_net (λ m i. at_last small long (h.way m i))
        ∙ sum_add (λ m. bit (eqb (at to m) (n + 1))) (λ m. bit (eqb (at to m) n)) largest_net
        ∙ ap₂ (λ (i j : ℕ). i + j) (sym k.end) stops

    only_over : n ≡ 1 → nets (box_over from to n n) + coming ≡ far + now_at to x y n + near
    only_over one =
        let sums = sum_same (λ m. bit (box_over from to n n m) + bit (comes_to from to m))
        (λ m. bit (eqb (at to m) (n + 1)) + bit (eqb (at to m) n) + bit (eqb (at from m) 0)) largest_net
        (λ m i. rw one (at_only (rw one at (h.way m i)))) in
        omega (
          arith,
          sums,
          sum_add (λ m. bit (box_over from to n n m)) (λ m. bit (comes_to from to m)) largest_net,
          sum_add (λ m. bit (eqb (at to m) (n + 1)) + bit (eqb (at to m) n)) (λ m. bit (eqb (at from m) 0)) largest_net,
          sum_add (λ m. bit (eqb (at to m) (n + 1))) (λ m. bit (eqb (at to m) n)) largest_net,
          k.comes,
          k.begin,
          k.end,
          stops,
        )

  pub coming_few : coming ≤ near
  coming_few = omega (
    arith,
    k.begin,
    k.comes,
    sum_le (λ m. bit (comes_to from to m)) (λ m. bit (eqb (at from m) 0)) largest_net
        (λ m e. bit_and (eqb (at from m) 0) (not (eqb (at to m) 0))),
  )

  -- the larger of the two: i nets begin at column 1, j nets end at column n
  module _ {x y u v z i j : ℕ} (last : z + 1 ≡ n) (p : TwoPins a b 0 x y) (q : TwoPins a b z u v) (ei : i ≡ now_at from x y 1)
      (ej : j ≡ now_at to u v n) where
    pub outer_two : 1 < n → max (near + i) (far + j) ≡ max (nets (box_over from to n 1)) (nets (box_over from to n n))
    outer_two long = omega (arith, first_over long p, last_over (omega arith) q long, ei, ej)

    pub outer_one : n ≡ 1 → far + j + (near - coming) ≡ max (nets (box_over from to n 1)) (nets (box_over from to n n))
    outer_one one = omega (
      arith,
      coming_few,
      only_over (omega arith) q one,
      ej,
      ap (λ (c : ℕ). nets (box_over from to n c)) (sym one),
    )

-- ---- all columns: only the first and the last pass more nets than those that go over them

bit_or : (a b : Bool) → bit a ≤ bit (a || b)
bit_or true b = omega arith
bit_or false b = omega arith

pub outer : (from to : List ℕ) (n : ℕ) → 1 ≤ n
    → max (most (λ c. nets (goes_over from to c)) n) (max (nets (box_over from to n 1)) (nets (box_over from to n n)))
    ≡ most (λ c. nets (box_over from to n c)) n
outer from to n one = most_outer (λ c. nets (goes_over from to c)) (λ c. nets (box_over from to n c)) n one
    (λ c. sum_le _ _ largest_net (λ m i. more c m))
    (λ c ne no. count_same (box_over from to n c) (goes_over from to c) largest_net (λ m i. simp (ne_eqb c 1 ne, ne_eqb c n no, or-false)))
  where
    more : (c m : ℕ) → bit (goes_over from to c m) ≤ bit (box_over from to n c m)
    more c m = omega (
      arith,
      bit_or (goes_over from to c m) (eqb c 1 && eqb (at to m) 0),
      bit_or (goes_over from to c m || (eqb c 1 && eqb (at to m) 0)) (eqb c n && eqb (at from m) (n + 1)),
    )
