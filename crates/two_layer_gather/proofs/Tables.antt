-- Tables and rows are filled entry by entry: what one more column of a side changes in them.
use Prim.Native.Nat.{ℕ, suc, ◌+◌, ◌<◌}
use mathlib.Core.Path.{◌≡◌, refl, sym, ap, ◌∙◌}
use mathlib.Core.Logic.{◌≢◌, by_cases}
use mathlib.Core.List.{List}
use mathlib.Core.Bool.{Bool, true, false, cond, ◌&&◌}
use native.Mathlib.Omega.{arith}
use native.Mathlib.Numerals.{add-one}
use native.Mathlib.Decide.{ℕ_discrete}
use lib.Dec.{eqb, leb}
use lib.ListN.{get_or, set, length-set, replicate}
use lib.Seq.{get_or-set_same, get_or-set_other}
use borrow.Author.Tests.{eq-eqb, ne_eqb}
use Rattle.counting.specs.Counting.{least}
use Rattle.counting.proofs.Lists.{zeros_at}
use Rattle.terms.specs.Limits.{byte_values}
use Rattle.grid.specs.Legal.{entry}
use Rattle.two_layer_law.specs.Moves.{first_on, last_on, held_on, leads}
use Rattle.two_layer_cuts.specs.Rows.{Row, column_entries}
use Rattle.two_layer_gather.specs.Tables.{Table}
use Rattle.counting.proofs.Tests.{some_least}

abbrev blank : List ℕ
blank = replicate byte_values 0

table_none : (f : ℕ → ℕ) → ((m : ℕ) → f m ≡ 0) → Table f blank
table_none f z = record { size = refl; is = λ m l. zeros_at byte_values m ∙ sym (z m) }

-- one entry changes
pub table_more : (f f' : ℕ → ℕ) (list : List ℕ) (v x : ℕ) → v < byte_values → ((m : ℕ) → m ≢ v → f' m ≡ f m) → x ≡ f' v → Table f list
    → Table f' (set list v x)
table_more f f' list v x l same e h = record {
  size = simp length-set h.size;
  is = λ m b. by_cases (ℕ_discrete m v)
      (λ q. rw q (get_or-set_same list v x 0 (omega (arith, h.size)) ∙ e))
      (λ q. get_or-set_other list v m x 0 q ∙ h.is m b ∙ sym (same m q));
}

module _ (xs : List ℕ) where
  -- ---- first columns

  pub firsts_none : Table (first_on (entry xs) 0) blank
  unfolding least
  firsts_none = table_none (first_on (entry xs) 0) (λ m. refl)

  pub firsts_more : (list : List ℕ) (c v x : ℕ) → v ≡ get_or xs c 0 → v < byte_values
      → x ≡ cond (eqb (get_or list v 0) 0) (c + 1) (get_or list v 0) → Table (first_on (entry xs) c) list
      → Table (first_on (entry xs) (c + 1)) (set list v x)
  unfolding least
  firsts_more list c v x e l new h = rw add-one (table_more _ (first_on (entry xs) (suc c)) list v x l other (new ∙ here) h)
    where
      kept : (k : ℕ) → cond (eqb k 0) 0 k ≡ k
      kept k = by_cases (ℕ_discrete k 0) (λ z. rw z) (λ nz. rw (ne_eqb k 0 nz))

      other : (m : ℕ) → m ≢ v → first_on (entry xs) (suc c) m ≡ first_on (entry xs) c m
      other m d = rw (ne_eqb (get_or xs c 0) m (λ q. d (sym q ∙ sym e))) (kept (first_on (entry xs) c m))

      here : cond (eqb (get_or list v 0) 0) (c + 1) (get_or list v 0) ≡ first_on (entry xs) (suc c) v
      here = rw (h.is v l, eq-eqb (get_or xs c 0) v (sym e), add-one)

  -- ---- last columns

  pub lasts_none : Table (last_on (entry xs) 0) blank
  unfolding last_on
  lasts_none = table_none (last_on (entry xs) 0) (λ m. refl)

  pub lasts_more : (list : List ℕ) (c v : ℕ) → v ≡ get_or xs c 0 → v < byte_values → Table (last_on (entry xs) c) list
      → Table (last_on (entry xs) (c + 1)) (set list v (c + 1))
  unfolding last_on
  lasts_more list c v e l h = rw add-one
      (table_more _ (last_on (entry xs) (suc c)) list v (suc c) l
      (λ m d. rw (ne_eqb (get_or xs c 0) m (λ q. d (sym q ∙ sym e))))
      (rw (eq-eqb (get_or xs c 0) v (sym e))) h)

-- ---- rows

cond_same : (b : Bool) (x : ℕ) → cond b x x ≡ x
cond_same true x = refl
cond_same false x = refl

abbrev blank_row : List ℕ
blank_row = replicate column_entries 0

pub row_none : (f : ℕ → ℕ) → f 0 ≡ 0 → Row 0 f blank_row
row_none f z = record { size = refl; is = λ c l. zeros_at column_entries c ∙ sym (ap f (omega arith) ∙ z) }

pub row_more : (n : ℕ) (f : ℕ → ℕ) (list : List ℕ) (x : ℕ) → n + 1 < column_entries → x ≡ f (n + 1) → Row n f list
    → Row (n + 1) f (set list (n + 1) x)
row_more n f list x l e h = record {
  size = simp length-set h.size;
  is = λ c b. by_cases (ℕ_discrete c (n + 1))
      (λ q. rw q (get_or-set_same list (n + 1) x 0 (omega (arith, h.size)) ∙ e))
      (λ q. get_or-set_other list (n + 1) c x 0 q ∙ h.is c (omega (arith, q)));
}

-- ---- leads

pub lead_zero : (xs : List ℕ) (b : ℕ → ℕ) (n : ℕ) → leads (entry xs) b n 0 ≡ 0
unfolding leads
lead_zero xs b n = cond_same (eqb (first_on (entry xs) n 0) 0 && held_on b n 0) 0

-- the other side holds a net that has a first column there
pub holds_first : (b : ℕ → ℕ) (n : ℕ) (other : List ℕ) (m : ℕ) → m < byte_values → Table (first_on b n) other
    → leb 1 (get_or other m 0) ≡ held_on b n m
holds_first b n other m l h = ap (leb 1) (h.is m l) ∙ sym (some_least (λ c. eqb (b c) m) n)

pub lead_more : (xs first other : List ℕ) (b : ℕ → ℕ) (n c m w : ℕ) (k : Bool) (x : ℕ) → m ≡ get_or xs c 0 → m < byte_values
    → w ≡ get_or first m 0 → k ≡ (eqb w (c + 1) && leb 1 (get_or other m 0)) → x ≡ cond k (get_or xs c 0) 0
    → Table (first_on (entry xs) n) first → Table (first_on b n) other → x ≡ leads (entry xs) b n (c + 1)
unfolding leads
lead_more xs first other b n c m w k x e l ew ek ex f o =
    ex ∙ rw (ek, ew, holds_first b n other m l o, f.is m l, e, add-one)
