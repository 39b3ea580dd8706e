-- Laws of the definitions of specs/Stages, as the loops over the net bytes use them.
use Prim.Native.Nat.{ℕ, zero, suc, ◌+◌, ◌-◌, ◌≤◌, ◌<◌}
use mathlib.Core.Bool.{true, false, and-eq-true_iff}
use mathlib.Core.List.{List}
use mathlib.Core.Path.{◌≡◌, refl, ap, ◌∙◌}
use native.Mathlib.Nat.{not-suc-le-zero}
use native.Mathlib.Omega.{arith}
use lib.Dec.{leb}
use lib.ListN.{length}
use borrow.Author.Tests.{lt-ltb, le-ltb, le-leb, leb-true}
use Rattle.terms.specs.Limits.{largest_net}
use Rattle.ticket_sides.specs.Format.{byte}
use Rattle.ticket_sides.specs.Stages.{stop, go_on, is_net, nets_of}
use Rattle.ticket_sides.specs.declared.Cursor.{Cursor}

pub at_refused : {r : Cursor} {k p : ℕ} → r ≡ stop k p → r.at ≡ 0
at_refused e = ap (λ (c : Cursor). c.at) e

pub at_going : {r : Cursor} {i : ℕ} → r ≡ go_on i → r.at ≡ i
at_going e = ap (λ (c : Cursor). c.at) e

-- ---- net bytes

pub net_in : (least b : ℕ) → is_net least b ≡ true → (least ≤ b) × (b ≤ largest_net)
net_in least b e = let (l, h) = (and-eq-true_iff (leb least b) (leb b largest_net)).0 e in (leb-true least b l, leb-true b largest_net h)

pub net_of_lem : (least b : ℕ) → (least ≤ b) × (b ≤ largest_net) → is_net least b ≡ true
net_of_lem least b i = rw (le-leb least b i.0, le-leb b largest_net i.1)

module _ (least : ℕ) (s : List ℕ) (i : ℕ) where
  pub nets_end : (k : ℕ) → k ≤ 0 → nets_of least s i k ≡ go_on i
  unfolding nets_of
  nets_end zero h = refl
  nets_end (suc k) h = absurd (not-suc-le-zero h)

  pub nets_missing : (k : ℕ) → 0 < k → length s ≤ i → nets_of least s i k ≡ stop 1 (length s)
  unfolding nets_of
  nets_missing zero h l = absurd (not-suc-le-zero h)
  nets_missing (suc k) h l = simp (le-ltb i (length s) l)

  pub nets_bad : (k : ℕ) → 0 < k → i < length s → is_net least (byte s i) ≡ false → nets_of least s i k ≡ stop 7 i
  unfolding nets_of
  nets_bad zero h l e = absurd (not-suc-le-zero h)
  nets_bad (suc k) h l e = simp (lt-ltb i (length s) l, e)

  pub nets_more : (k : ℕ) → 0 < k → i < length s → is_net least (byte s i) ≡ true → nets_of least s i k ≡ nets_of least s (i + 1) (k - 1)
  unfolding nets_of
  nets_more zero h l e = absurd (not-suc-le-zero h)
  nets_more (suc k) h l e =
      let q : suc k - 1 ≡ k = omega arith in
      simp (lt-ltb i (length s) l, e, q)

-- `count` net bytes from byte `from` on, of which none, or i, are passed
pub nets_start : (least : ℕ) (s : List ℕ) (from count : ℕ) → nets_of least s from count ≡ nets_of least s (from + 0) (count - 0)
nets_start least s from count =
    let a : from ≡ from + 0 = omega arith in
    let b : count ≡ count - 0 = omega arith in
    ap (λ (x : ℕ). nets_of least s x count) a ∙ ap (nets_of least s (from + 0)) b

module _ (least : ℕ) (s : List ℕ) (from count i : ℕ) where
  pub nets_pass : i < count → from + count ≤ length s → is_net least (byte s (from + i)) ≡ true
      → nets_of least s (from + i) (count - i) ≡ nets_of least s (from + (i + 1)) (count - (i + 1))
  nets_pass h l e =
      let a : from + i + 1 ≡ from + (i + 1) = omega arith in
      let b : count - i - 1 ≡ count - (i + 1) = omega arith in
      nets_more least s (from + i) (count - i) (omega arith) (omega arith) e
      ∙ ap (λ (x : ℕ). nets_of least s x (count - i - 1)) a
      ∙ ap (nets_of least s (from + (i + 1))) b

  pub nets_passed : i ≡ count → nets_of least s (from + i) (count - i) ≡ go_on (from + count)
  nets_passed e = nets_end least s (from + i) (count - i) (omega arith) ∙ ap go_on (ap (λ (x : ℕ). from + x) e)
