-- At how many places one of two sides holds each net: what one more place changes.
use Prim.Native.Nat.{ℕ, ◌+◌, ◌≤◌}
use mathlib.Core.Path.{◌≡◌, refl, sym, ap, ◌∙◌}
use mathlib.Core.Logic.{◌≢◌, by_cases}
use mathlib.Core.Bool.{Bool, true, false, not, ◌||◌, or-false}
use mathlib.Core.List.{List}
use native.Mathlib.Decide.{ℕ_discrete}
use native.Mathlib.Numerals.{add-one}
use native.Mathlib.Omega.{arith}
use lib.Dec.{eqb}
use lib.ListN.{get_or, set}
use borrow.Author.Tests.{eq-eqb, ne_eqb}
use Rattle.counting.specs.Counting.{bit, sum, count}
use Rattle.counting.proofs.Sums.{bit_le, sum_none, sum_more, sum_le, sum_same, sum_add, double_count}
use Rattle.counting.proofs.Counts.{count_le}
use Rattle.terms.specs.Limits.{largest_net}
use Rattle.grid.specs.Legal.{entry}
use Rattle.nets.specs.Tables.{pin_count_to, holds_at, NetTable}
use Rattle.nets.proofs.Tabling.{Table, empty, table_none, table_more}
use Rattle.figures.specs.Crossings.{at}

bit_or : (a b : Bool) → bit (a || b) ≤ bit a + bit b
bit_or true b = omega arith
bit_or false b = omega arith

module _ (xs ys : List ℕ) where
  -- at how many of the places 1 to c
  abbrev pub held : ℕ → ℕ → ℕ
  held c m = count (holds_at (entry xs) (entry ys) m) c

  pub held_none : Table (held 0) empty
  held_none = table_none (held 0) (λ m. sum_none (λ c. bit (holds_at (entry xs) (entry ys) m c)))

  more : (c m : ℕ) → held (c + 1) m ≡ held c m + bit (eqb (get_or xs c 0) m || eqb (get_or ys c 0) m)
  more c m = sum_more (λ c. bit (holds_at (entry xs) (entry ys) m c)) c
      ∙ ap (λ (a : ℕ). held c m + bit (holds_at (entry xs) (entry ys) m a)) (add-one c)

  -- the first of a place's two nets is entered
  abbrev pub entered : List ℕ → ℕ → List ℕ
  entered list v = set list v (get_or list v 0 + 1)

  module _ (list : List ℕ) (c v u : ℕ) (ev : v ≡ get_or xs c 0) (eu : u ≡ get_or ys c 0) (lv : v ≤ largest_net) (lu : u ≤ largest_net)
      (h : Table (held c) list) where
    pub held_le : get_or list v 0 ≤ c
    held_le = omega (arith, h.is v lv, count_le (holds_at (entry xs) (entry ys) v) c)

    one : Table (λ m. held c m + bit (eqb v m)) (entered list v)
    one = table_more _ _ list v _ lv (λ m ne. omega (arith, ap bit (ne_eqb v m (λ q. ne (sym q)))))
        (omega (arith, h.is v lv, ap bit (eq-eqb v v refl))) h

    pub entered_le : get_or (entered list v) u 0 ≤ c + 1
    entered_le = omega (arith, one.is u lu, count_le (holds_at (entry xs) (entry ys) u) c, bit_le (eqb v u))

    pub held_more : {z : ℕ} → z ≡ bit (not (eqb v u)) → Table (held (c + 1)) (set (entered list v) u (get_or (entered list v) u 0 + z))
    held_more {z} e = table_more _ _ (entered list v) u _ lu other here one
      where
        other : (m : ℕ) → m ≢ u → held (c + 1) m ≡ held c m + bit (eqb v m)
        other m ne = more c m ∙ rw (← ev, ← eu, ne_eqb u m (λ q. ne (sym q)), or-false) refl

        here : get_or (entered list v) u 0 + z ≡ held (c + 1) u
        here = by_cases (ℕ_discrete v u)
            (λ q. let none : z ≡ 0 = e ∙ rw (eq-eqb v u q) refl in
            let all : bit (eqb (get_or xs c 0) u || eqb (get_or ys c 0) u) ≡ 1 = rw (← ev, eq-eqb v u q) refl in
            omega (arith, one.is u lu, more c u, ap bit (eq-eqb v u q)))
            (λ ne. let once : z ≡ 1 = e ∙ rw (ne_eqb v u ne) refl in
            let all : bit (eqb (get_or xs c 0) u || eqb (get_or ys c 0) u) ≡ 1 = rw (← ev, ne_eqb v u ne, ← eu, eq-eqb u u refl) refl in
            omega (arith, one.is u lu, more c u, ap bit (ne_eqb v u ne)))

-- ---- all nets together: a side has no more pins than places, and so do two

few : (f : ℕ → ℕ) (list : List ℕ) (top : ℕ) → NetTable f list → sum f largest_net ≤ top → sum (at list) largest_net ≤ top
few f list top t h = omega (arith, sum_same (at list) f largest_net t.is)

pub one_side : (a : ℕ → ℕ) (w : ℕ) {list : List ℕ} → NetTable (pin_count_to a w) list → sum (at list) largest_net ≤ w
one_side a w {list} t = few _ list w t (double_count a w largest_net)

pub two_sides : (a b : ℕ → ℕ) (w : ℕ) {list : List ℕ} → NetTable (λ m. count (holds_at a b m) w) list → sum (at list) largest_net ≤ w + w
two_sides a b w {list} t = few _ list (w + w) t (omega (
  arith,
  sum_le (λ m. count (holds_at a b m) w) (λ m. pin_count_to a w m + pin_count_to b w m) largest_net (λ m i. omega (
    arith,
    sum_le (λ c. bit (holds_at a b m c)) (λ c. bit (eqb (a c) m) + bit (eqb (b c) m)) w (λ c j. bit_or (eqb (a c) m) (eqb (b c) m)),
    sum_add (λ c. bit (eqb (a c) m)) (λ c. bit (eqb (b c) m)) w,
  )),
  sum_add (pin_count_to a w) (pin_count_to b w) largest_net,
  double_count a w largest_net,
  double_count b w largest_net,
))
