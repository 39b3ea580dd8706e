-- Tables of nets are filled place by place: what one more place of two sides changes in them, and what clearing entry 0 leaves.
use Prim.Native.Nat.{ℕ, suc, ◌+◌, ◌≤◌}
use mathlib.Core.Path.{◌≡◌, refl, sym, ap, ◌∙◌}
use mathlib.Core.Logic.{◌≢◌, by_cases}
use mathlib.Core.Bool.{Bool, true, false, cond, ◌||◌}
use mathlib.Core.List.{List}
use native.Mathlib.Omega.{arith}
use native.Mathlib.Numerals.{add-one}
use native.Mathlib.Decide.{ℕ_discrete}
use lib.Dec.{eqb}
use lib.ListN.{length, get_or, set, length-set, replicate}
use lib.Seq.{get_or-set_same, get_or-set_other}
use borrow.Author.Tests.{eq-eqb, ne_eqb}
use Rattle.counting.specs.Counting.{bit, least}
use Rattle.counting.proofs.Sums.{sum_none, sum_more}
use Rattle.counting.proofs.Counts.{count_le}
use Rattle.counting.proofs.Lists.{zeros_at}
use Rattle.terms.specs.Limits.{largest_net, net_entries}
use Rattle.grid.specs.Legal.{entry}
use Rattle.nets.specs.declared.PinTable.{PinTable}
use Rattle.nets.specs.Tables.{pin_count_to, first_held, last_held, NetTable, Tabled, blank_table}

-- entry m of the list is f m, for each net m and for 0
pub record Table (f : ℕ → ℕ) (list : List ℕ) : Type 0 where
  pub size : length list ≡ net_entries
  pub is : (m : ℕ) → m ≤ largest_net → get_or list m 0 ≡ f m

-- ---- one table

abbrev pub empty : List ℕ
empty = replicate net_entries 0

pub table_none : (f : ℕ → ℕ) → ((m : ℕ) → f m ≡ 0) → Table f empty
table_none f z = record { size = refl; is = λ m l. zeros_at net_entries m ∙ sym (z m) }

-- one entry changes
pub table_more : (f f' : ℕ → ℕ) (list : List ℕ) (v x : ℕ) → v ≤ largest_net → ((m : ℕ) → m ≢ v → f' m ≡ f m) → x ≡ f' v → Table f list
    → Table f' (set list v x)
table_more f f' list v x l same e h = record {
  size = simp length-set h.size;
  is = λ m b. by_cases (ℕ_discrete m v)
      (λ q. rw q (get_or-set_same list v x 0 (omega (arith, h.size)) ∙ e))
      (λ q. get_or-set_other list v m x 0 q ∙ h.is m b ∙ sym (same m q));
}

table_same : (f f' : ℕ → ℕ) (list : List ℕ) → ((m : ℕ) → f m ≡ f' m) → Table f list → Table f' list
table_same f f' list e h = record { size = h.size; is = λ m b. h.is m b ∙ e m }

-- what stands at 0 is no net's
pub net_table : (f : ℕ → ℕ) (list : List ℕ) → Table f list → NetTable f (set list 0 0)
net_table f list h = record {
  size = simp length-set h.size;
  none = get_or-set_same list 0 0 0 (omega (arith, h.size));
  is = λ m i. get_or-set_other list 0 m 0 0 (λ z. omega arith) ∙ h.is m i.1;
}

-- the first of net v is x, unless it has one
abbrev first_at : (ℕ → ℕ) → ℕ → ℕ → ℕ → ℕ
first_at f v x m = cond (eqb (f m) 0) (cond (eqb v m) x 0) (f m)

first_more : (f : ℕ → ℕ) (list : List ℕ) (v x y : ℕ) → v ≤ largest_net → y ≡ cond (eqb (get_or list v 0) 0) x (get_or list v 0) → Table f list
    → Table (first_at f v x) (set list v y)
first_more f list v x y l e h = table_more f (first_at f v x) list v y l other here h
  where
    kept : (k : ℕ) → cond (eqb k 0) 0 k ≡ k
    kept k = by_cases (ℕ_discrete k 0) (λ z. rw z) (λ nz. rw (ne_eqb k 0 nz))

    other : (m : ℕ) → m ≢ v → first_at f v x m ≡ f m
    other m d = rw (ne_eqb v m (λ q. d (sym q))) (kept (f m))

    here : y ≡ first_at f v x v
    here = e ∙ rw (h.is v l, eq-eqb v v refl)

-- the last of net v is x
abbrev last_at : (ℕ → ℕ) → ℕ → ℕ → ℕ → ℕ
last_at f v x m = cond (eqb v m) x (f m)

last_more : (f : ℕ → ℕ) (list : List ℕ) (v x : ℕ) → v ≤ largest_net → Table f list → Table (last_at f v x) (set list v x)
last_more f list v x l h =
    table_more f (last_at f v x) list v x l (λ m d. rw (ne_eqb v m (λ q. d (sym q)))) (rw (eq-eqb v v refl)) h

-- two changes are those of one test
first_two : (p q : Bool) (k x : ℕ) → cond (eqb (cond (eqb k 0) (cond p (suc x) 0) k) 0) (cond q (suc x) 0) (cond (eqb k 0) (cond p (suc x) 0) k)
    ≡ cond (eqb k 0) (cond (p || q) (suc x) 0) k
first_two p q k x = by_cases (ℕ_discrete k 0) (λ z. rw z (none p)) (λ nz. rw (ne_eqb k 0 nz, ne_eqb k 0 nz))
  where
    none : (p : Bool) → cond (eqb (cond p (suc x) 0) 0) (cond q (suc x) 0) (cond p (suc x) 0) ≡ cond (p || q) (suc x) 0
    none true = rw (ne_eqb (suc x) 0 (λ z. omega arith))
    none false = refl

last_two : (p q : Bool) (x k : ℕ) → cond q x (cond p x k) ≡ cond (p || q) x k
last_two true true x k = refl
last_two true false x k = refl
last_two false q x k = refl

-- ---- one place more of a side

module _ (xs : List ℕ) where
  counts_none : Table (pin_count_to (entry xs) 0) empty
  counts_none = table_none (pin_count_to (entry xs) 0) (λ m. sum_none (λ c. bit (eqb (entry xs c) m)))

  more : (c m : ℕ) → pin_count_to (entry xs) (c + 1) m ≡ pin_count_to (entry xs) c m + bit (eqb (get_or xs c 0) m)
  more c m = sum_more (λ c. bit (eqb (entry xs c) m)) c ∙ ap (λ (v : ℕ). pin_count_to (entry xs) c m + bit (eqb v m)) (rw add-one)

  counts_more : (list : List ℕ) (c v : ℕ) → v ≡ get_or xs c 0 → v ≤ largest_net → Table (pin_count_to (entry xs) c) list
      → Table (pin_count_to (entry xs) (c + 1)) (set list v (get_or list v 0 + 1))
  counts_more list c v e l h = table_more _ _ list v _ l
      (λ m d. omega (arith, more c m, ap bit (ne_eqb (get_or xs c 0) m (λ q. d (sym q ∙ sym e)))))
      (omega (arith, more c v, ap bit (eq-eqb (get_or xs c 0) v (sym e)), h.is v l)) h

  -- no count is above the number of places
  pub counts_le : (list : List ℕ) (c v : ℕ) → v ≤ largest_net → Table (pin_count_to (entry xs) c) list → get_or list v 0 ≤ c
  counts_le list c v l h = omega (arith, h.is v l, count_le (λ a. eqb (entry xs a) v) c)

-- ---- all four tables

-- what places 1 to c tell
pub record Passed (xs ys : List ℕ) (c : ℕ) (t : PinTable) : Type 0 where
  pub one : Table (pin_count_to (entry xs) c) t.one
  pub two : Table (pin_count_to (entry ys) c) t.two
  pub first : Table (first_held (entry xs) (entry ys) c) t.first
  pub last : Table (last_held (entry xs) (entry ys) c) t.last

module _ (xs ys : List ℕ) where
  pub passed_none : Passed xs ys 0 blank_table
  unfolding least last_held
  passed_none = record {
    one = counts_none xs;
    two = counts_none ys;
    first = table_none (first_held (entry xs) (entry ys) 0) (λ m. refl);
    last = table_none (last_held (entry xs) (entry ys) 0) (λ m. refl);
  }

  firsts_more : (list : List ℕ) (c v u x y : ℕ) → v ≡ get_or xs c 0 → u ≡ get_or ys c 0 → v ≤ largest_net → u ≤ largest_net
      → x ≡ cond (eqb (get_or list v 0) 0) (c + 1) (get_or list v 0)
      → y ≡ cond (eqb (get_or (set list v x) u 0) 0) (c + 1) (get_or (set list v x) u 0)
      → Table (first_held (entry xs) (entry ys) c) list → Table (first_held (entry xs) (entry ys) (c + 1)) (set (set list v x) u y)
  unfolding least
  firsts_more list c v u x y ev eu lv lu ex ey h =
      table_same _ _ _ (λ m. rw (add-one, ev, eu) (first_two (eqb (get_or xs c 0) m) (eqb (get_or ys c 0) m) (first_held (entry xs) (entry ys) c m) c))
      (first_more _ _ u (c + 1) y lu ey (first_more _ list v (c + 1) x lv ex h))

  lasts_more : (list : List ℕ) (c v u : ℕ) → v ≡ get_or xs c 0 → u ≡ get_or ys c 0 → v ≤ largest_net → u ≤ largest_net
      → Table (last_held (entry xs) (entry ys) c) list
      → Table (last_held (entry xs) (entry ys) (c + 1)) (set (set list v (c + 1)) u (c + 1))
  unfolding last_held
  lasts_more list c v u ev eu lv lu h =
      table_same _ _ _ (λ m. rw (add-one, ev, eu) (last_two (eqb (get_or xs c 0) m) (eqb (get_or ys c 0) m) (suc c) (last_held (entry xs) (entry ys) c m)))
      (last_more _ _ u (c + 1) lu (last_more _ list v (c + 1) lv h))

  pub passed_more : (t : PinTable) (c v u x y : ℕ) → v ≡ get_or xs c 0 → u ≡ get_or ys c 0 → v ≤ largest_net → u ≤ largest_net
      → x ≡ cond (eqb (get_or t.first v 0) 0) (c + 1) (get_or t.first v 0)
      → y ≡ cond (eqb (get_or (set t.first v x) u 0) 0) (c + 1) (get_or (set t.first v x) u 0) → Passed xs ys c t
      → Passed xs ys (c + 1) (record {
        one = set t.one v (get_or t.one v 0 + 1);
        two = set t.two u (get_or t.two u 0 + 1);
        first = set (set t.first v x) u y;
        last = set (set t.last v (c + 1)) u (c + 1);
      })
  passed_more t c v u x y ev eu lv lu ex ey h = record {
    one = counts_more xs t.one c v ev lv h.one;
    two = counts_more ys t.two c u eu lu h.two;
    first = firsts_more t.first c v u x y ev eu lv lu ex ey h.first;
    last = lasts_more t.last c v u ev eu lv lu h.last;
  }

  pub cleared : (n : ℕ) (t : PinTable) → Passed xs ys n t → Tabled (entry xs) (entry ys) n
      (record { one = set t.one 0 0; two = set t.two 0 0; first = set t.first 0 0; last = set t.last 0 0 })
  cleared n t h = record {
    one = net_table _ t.one h.one;
    two = net_table _ t.two h.two;
    first = net_table _ t.first h.first;
    last = net_table _ t.last h.last;
  }
