-- Lists with an entry for each net are filled net by net; a count goes the same way.
use Prim.Native.Nat.{ℕ, ◌+◌, ◌-◌, ◌≤◌, ◌<◌}
use mathlib.Core.Path.{◌≡◌, sym, ◌∙◌, subst}
use mathlib.Core.Logic.{by_cases}
use mathlib.Core.Bool.{Bool, true, false}
use mathlib.Core.List.{List}
use native.Mathlib.Decide.{ℕ_discrete}
use native.Mathlib.Omega.{arith}
use mir.Val.{bool_byte}
use lib.Dec.{eqb}
use lib.ListN.{length, set, length-set}
use lib.Seq.{get_or-set_same, get_or-set_other}
use Rattle.counting.specs.Counting.{bit, count}
use Rattle.counting.proofs.Sums.{sum_none, sum_more}
use Rattle.counting.proofs.Counts.{count_le}
use Rattle.terms.specs.Limits.{largest_net, net_entries}
use Rattle.figures.specs.Crossings.{at, PerNet, comes_to, EndsCounted}

-- the nets below m have their entries
pub record Filled (v : ℕ) (f : ℕ → ℕ) (m : ℕ) (list : List ℕ) : Type 0 where
  pub size : length list ≡ net_entries
  pub none : at list 0 ≡ v
  pub is : (k : ℕ) → 1 ≤ k → k < m → at list k ≡ f k

pub filled_none : {v : ℕ} {f : ℕ → ℕ} {list : List ℕ} → length list ≡ net_entries → at list 0 ≡ v → Filled v f 1 list
filled_none e z = record { size = e; none = z; is = λ k one h. absurd (omega arith) }

pub filled_more : {v : ℕ} {f : ℕ → ℕ} {m : ℕ} {list : List ℕ} {x : ℕ} → 1 ≤ m → m < net_entries → x ≡ f m → Filled v f m list
    → Filled v f (m + 1) (set list m x)
filled_more {v} {f} {m} {list} {x} one h e r = record {
  size = length-set list m x ∙ r.size;
  none = get_or-set_other list m 0 x 0 (λ q. omega arith) ∙ r.none;
  is = λ k first below.
      by_cases (ℕ_discrete m k)
      (λ q. subst (λ v. at (set list m x) v ≡ f v) q (get_or-set_same list m x 0 (omega (arith, r.size)) ∙ e))
      (λ ne. get_or-set_other list m k x 0 (λ q. ne (sym q)) ∙ r.is k first (omega arith));
}

pub filled_all : {v : ℕ} {f : ℕ → ℕ} {m : ℕ} {list : List ℕ} → net_entries ≤ m → Filled v f m list → PerNet v f largest_net list
filled_all h r = record { size = r.size; none = r.none; is = λ k i. r.is k i.0 (omega arith) }

-- ---- a count: one more net is counted

pub one_most : (b : Bool) {x : ℕ} → x ≡ bool_byte b → x ≤ 1
one_most true e = omega (arith, e)
one_most false e = omega (arith, e)

pub counted_more : (t : ℕ → Bool) {m total x : ℕ} → 1 ≤ m → total ≡ count t (m - 1) → x ≡ bit (t m) → total + x ≡ count t (m + 1 - 1)
counted_more t {m} one e h =
    let here : m - 1 + 1 ≡ m = omega arith in
    let same : m + 1 - 1 ≡ m = omega arith in
    rw same (omega (arith, e, h, rw here at (sum_more (λ v. bit (t v)) (m - 1))))

-- ---- three counts at once

module _ {from to : List ℕ} {past : ℕ} where
  pub ends_none : EndsCounted from to past 0 0 0 0
  ends_none = record { comes = sym (sum_none _); begin = sym (sum_none _); end = sym (sum_none _) }

  module _ {m coming near far : ℕ} (r : EndsCounted from to past m coming near far) where
    pub ends_few : (coming ≤ m) × (near ≤ m) × (far ≤ m)
    ends_few = omega (
      arith,
      r.comes,
      r.begin,
      r.end,
      count_le (comes_to from to) m,
      count_le (λ v. eqb (at from v) 0) m,
      count_le (λ v. eqb (at to v) past) m,
    )

  pub ends_more : {m coming near far : ℕ} → 1 ≤ m → EndsCounted from to past (m - 1) coming near far → {x y z : ℕ}
      → x ≡ bit (comes_to from to m) → y ≡ bit (eqb (at from m) 0) → z ≡ bit (eqb (at to m) past)
      → EndsCounted from to past (m + 1 - 1) (coming + x) (near + y) (far + z)
  ends_more one r ex ey ez = record {
    comes = counted_more (comes_to from to) one r.comes ex;
    begin = counted_more (λ v. eqb (at from v) 0) one r.begin ey;
    end = counted_more (λ v. eqb (at to v) past) one r.end ez;
  }
