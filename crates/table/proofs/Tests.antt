-- Tests that decide: each is true just where its statement holds.
use Prim.Native.Nat.{ℕ}
use mathlib.Core.Path.{◌≡◌, refl, sym, ap, ◌∙◌}
use mathlib.Core.Logic.{◌⊎◌, inl, inr, ◌↔◌, ⊎_elim}
use mathlib.Core.Bool.{Bool, true, false, cond, not, ◌&&◌, ◌||◌, true≢false, false≢true}
use mathlib.Core.List.Memᴰ.{cases_cons}
use mathlib.Core.List.Memᴰ.{head}
use mathlib.Core.List.Memᴰ.{tail}
use mathlib.Core.List.{List, [], ◌∷◌, Memᴰ as Mem}
use mathlib.Core.List.Memᴰ.{not-nil}
use lib.Dec.{eqb}
use borrow.Author.Tests.{eq-eqb, eqb-true}
use Rattle.table.specs.Decide.{any, keep}

abbrev pub Tests : Bool → Type 0 → Type 0
Tests b X = (b ≡ true) ↔ X

pub fails : {b : Bool} {X : Type 0} → Tests b X → b ≡ false → X → ⊥
fails t e x = true≢false (sym (t.1 x) ∙ e)

pub tests_eq : (a b : ℕ) → Tests (eqb a b) (a ≡ b)
tests_eq a b = (eqb-true a b, eq-eqb a b)

pub tests_not : (b : Bool) {X : Type 0} → Tests b X → Tests (not b) (X → ⊥)
tests_not true t = (λ e. absurd (false≢true e), λ n. absurd (n (t.0 refl)))
tests_not false t = (λ e. fails t refl, λ n. refl)

pub tests_and : (a b : Bool) {X Y : Type 0} → Tests a X → Tests b Y → Tests (a && b) (X × Y)
tests_and true b s t = (λ e. (s.0 refl, t.0 e), λ h. t.1 h.1)
tests_and false b s t = (λ e. absurd (false≢true e), λ h. s.1 h.0)

pub tests_or : (a b : Bool) {X Y : Type 0} → Tests a X → Tests b Y → Tests (a || b) (X ⊎ Y)
tests_or true b s t = (λ e. inl (s.0 refl), λ h. refl)
tests_or false b s t = (λ e. inr (t.0 e), λ h. ⊎_elim (λ x. absurd (fails s refl x)) t.1 h)

pub tests_as : {b : Bool} {X Y : Type 0} → (X → Y) → (Y → X) → Tests b X → Tests b Y
tests_as f g t = (λ e. f (t.0 e), λ y. t.1 (g y))

module _ {A : Type 0} (t : A → Bool) where
  pub tests_any : (l : List A) → Tests (any t l) ((a : A) × Mem a l × (t a ≡ true))
  tests_any [] = (λ e. absurd (false≢true e), λ h. absurd (not-nil h.1))
  tests_any (b ∷ l) =
      tests_as (⊎_elim (λ e. (b, head refl, e)) (λ h. (h.0, tail h.1, h.2)))
      (λ h. ⊎_elim (λ q. inl (ap t (sym q) ∙ h.2)) (λ m. inr (h.0, m, h.2)) (cases_cons h.1))
      (tests_or (t b) (any t l) (λ e. e, λ e. e) (tests_any l))

  pub kept : (l : List A) {a : A} → Mem a (keep t l) ↔ (Mem a l × (t a ≡ true))
  kept [] = (λ m. absurd (not-nil m), λ h. h.0)
  kept (b ∷ l) {a} = pick (t b) refl (kept l)
    where
      pick : (c : Bool) → t b ≡ c → Mem a (keep t l) ↔ (Mem a l × (t a ≡ true)) → Mem a (cond c (b ∷ keep t l) (keep t l)) ↔ (Mem a (b ∷ l) × (t a ≡ true))
      pick true e f = (
        λ m. ⊎_elim (λ q. (head q, ap t q ∙ e)) (λ n. (tail (f.0 n).0, (f.0 n).1)) (cases_cons m),
        λ h. ⊎_elim (λ q. head q) (λ n. tail (f.1 (n, h.1))) (cases_cons h.0),
      )
      pick false e f = (
        λ m. (tail (f.0 m).0, (f.0 m).1),
        λ h. ⊎_elim (λ q. absurd (true≢false (sym h.1 ∙ ap t q ∙ e))) (λ n. f.1 (n, h.1)) (cases_cons h.0),
      )
