-- The smallest number that passes a test, by induction on the top: how code finds it, and what it says.
use Prim.Native.Nat.{ℕ, zero, suc, ◌+◌, ◌≤◌, ◌<◌}
use mathlib.Core.Path.{◌≡◌, refl, sym, ap, ◌∙◌}
use mathlib.Core.Logic.{◌≢◌, by_cases}
use mathlib.Core.Bool.{Bool, true, false}
use native.Mathlib.Omega.{arith}
use native.Mathlib.Numerals.{add-one}
use native.Mathlib.Decide.{ℕ_discrete}
use lib.Dec.{eqb}
use borrow.Author.Tests.{eqb-false, ne_eqb}
use Rattle.counting.specs.Counting.{In, least}
use Rattle.counting.proofs.Sums.{split}

module _ (t : ℕ → Bool) where
  -- ---- as a loop goes

  pub least_start : least t 0 ≡ 0
  unfolding least
  least_start = refl

  -- v + 1 fails too
  pub least_more : (v : ℕ) → least t v ≡ 0 → t (v + 1) ≡ false → least t (v + 1) ≡ 0
  unfolding least
  least_more v e f = rw (add-one, e, ← add-one, f)

  -- v + 1 is the first that passes
  pub least_here : (v top : ℕ) → v < top → least t v ≡ 0 → t (v + 1) ≡ true → least t top ≡ v + 1
  unfolding least
  least_here v zero h e f = absurd (omega arith)
  least_here v (suc top) h e f =
      by_cases (ℕ_discrete v top)
      (λ q. let at : t (suc top) ≡ true = ap t (ap suc (sym q) ∙ sym (add-one v)) ∙ f in rw (← q, e, q, at) (sym (add-one top)))
      (λ ne. rw (least_here v top (omega arith) e f, ne_eqb (v + 1) 0 (λ z. omega arith)))

  -- ---- what it says

  pub least_in : (top v : ℕ) → least t top ≡ v → v ≢ 0 → In v top × (t v ≡ true)
  unfolding least
  least_in zero v e ne = absurd (ne (sym e))
  least_in (suc top) v e ne =
      by_cases (ℕ_discrete (least t top) 0)
      (λ z. split (t (suc top))
      (λ h. let q : suc top ≡ v = rw (z, h) at e in (omega arith, ap t (sym q) ∙ h))
      (λ h. absurd (ne (sym (rw (z, h) at e)))))
      (λ nz. let r = least_in top v (rw (ne_eqb (least t top) 0 nz) at e) ne in (omega arith, r.1))

  pub least_zero : (top a : ℕ) → least t top ≡ 0 → In a top → t a ≡ false
  unfolding least
  least_zero zero a e i = absurd (omega arith)
  least_zero (suc top) a e i =
      by_cases (ℕ_discrete (least t top) 0)
      (λ z. by_cases (ℕ_discrete a (suc top))
      (λ q. split (t (suc top)) (λ h. absurd (omega (arith, rw (z, h) at e))) (λ h. ap t q ∙ h))
      (λ ne. least_zero top a z (omega arith)))
      (λ nz. absurd (nz (rw (ne_eqb (least t top) 0 nz) at e)))

  pub least_before : (top a : ℕ) → In a top → t a ≡ true → (1 ≤ least t top) × (least t top ≤ a)
  unfolding least
  least_before zero a i e = absurd (omega arith)
  least_before (suc top) a i e =
      by_cases (ℕ_discrete a (suc top))
      (λ q. split (eqb (least t top) 0)
      (λ z. rw (z, ← q, e) (omega arith))
      (λ z. let ne = eqb-false _ _ z in let (j, h) = least_in top (least t top) refl ne in rw z (omega arith)))
      (λ ne. let (one, le) = least_before top a (omega arith) e in rw (ne_eqb (least t top) 0 (omega arith)) (one, le))

  pub least_le : (top : ℕ) → least t top ≤ top
  unfolding least
  least_le zero = omega arith
  least_le (suc top) =
      by_cases (ℕ_discrete (least t top) 0)
      (λ z. rw z (split (t (suc top)) (λ e. rw e (omega arith)) (λ e. rw e (omega arith))))
      (λ nz. rw (ne_eqb (least t top) 0 nz) (omega (arith, least_le top)))

  pub least_none : (top : ℕ) → ((a : ℕ) → In a top → t a ≡ false) → least t top ≡ 0
  unfolding least
  least_none zero h = refl
  least_none (suc top) h = rw (least_none top (λ a i. h a (omega arith)), h (suc top) (omega arith))

  pub least_first : (top a : ℕ) → In a top → t a ≡ true → ((b : ℕ) → In b top → b < a → t b ≡ false) → least t top ≡ a
  unfolding least
  least_first zero a i e h = absurd (omega arith)
  least_first (suc top) a i e h =
      by_cases (ℕ_discrete a (suc top))
      (λ q. rw (least_none top (λ b j. h b (omega arith) (omega arith)), ← q, e))
      (λ ne. let l = least_first top a (omega arith) e (λ b j. h b (omega arith)) in rw (l, ne_eqb a 0 (omega arith)))

-- the test is asked at 1 to top alone
pub least_same : (t t' : ℕ → Bool) (top : ℕ) → ((a : ℕ) → In a top → t a ≡ t' a) → least t top ≡ least t' top
unfolding least
least_same t t' zero e = refl
least_same t t' (suc top) e = rw (e (suc top) (omega arith), least_same t t' top (λ a i. e a (omega arith)))
