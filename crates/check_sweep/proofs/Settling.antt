-- Marks that grow by sweeps are all reached, and when a sweep adds none, all that is reached is marked.
use Prim.Native.Nat.{ℕ}
use mathlib.Core.Path.{◌≡◌, sym, ◌∙◌}
use mathlib.Core.Logic.{◌≢◌, ⊎_elim}
use native.Mathlib.Omega.{arith}
use Rattle.check_link.specs.Marks.{State, Added, Swept}
use Rattle.check_sweep.specs.Reached.{Reach, here, on, back, Aged, Grown, Settled}
use Rattle.check_link.proofs.Sweeping.{kept}

module _ {A : Type 0} {v : A → ℕ} {E : A → A → Type 0} where
  pub grown_none : {σ : State A} → Grown v σ σ E
  grown_none = record { sound = λ a h. here h; keep = λ a h. h }

  -- what is reached from reached marks is reached
  further : {μ μ₁ : A → ℕ} → ((a : A) → μ₁ a ≢ 0 → Reach v μ E a) → {a : A} → Reach v μ₁ E a → Reach v μ E a
  further s (here h) = s _ h
  further s (on r e q) = on (further s r) e q
  further s (back r e q) = back (further s r) e q

  pub grown_then : {σ σ₁ σ₂ : State A} → Grown v σ σ₁ E → Grown v σ₁ σ₂ E → Grown v σ σ₂ E
  grown_then s t = record { sound = λ a h. further s.sound (t.sound a h); keep = λ a h. t.keep a (s.keep a h) }

  grown_aged : {σ σ₁ : State A} → ((a : A) → Aged (σ.mark a) (σ₁.mark a)) → Grown v σ σ₁ E
  grown_aged e = record { sound = λ a h. here (λ z. h ((e a).none z)); keep = λ a h z. (let u = (e a).some h in omega arith) }

  grown_swept : {σ σ₁ : State A} {c : ℕ} → Swept v σ σ₁ E c → Grown v σ σ₁ E
  grown_swept {σ} {σ₁} s = record { sound = λ a h. ⊎_elim (λ e. here (λ z. h (e ∙ z))) (joined a) (s.each a); keep = kept s }
    where
      joined : (a : A) → Added v σ σ₁ E a → Reach v σ.mark E a
      joined a n =
          let r : Reach v σ.mark E n.from = here (λ (z : σ.mark n.from ≡ 0). omega (arith, n.old)) in
          ⊎_elim (λ e. back r e n.same) (λ e. on r e (sym n.same)) n.edge

  -- the marks age and a sweep goes over them
  pub grown_more : {σ σ₁ σ₂ σ₃ : State A} {c : ℕ} → Grown v σ σ₁ E → ((a : A) → Aged (σ₁.mark a) (σ₂.mark a)) → Swept v σ₂ σ₃ E c → Grown v σ σ₃ E
  grown_more g e s = grown_then g (grown_then (grown_aged e) (grown_swept s))

  pub settled_now : {σ σ₁ σ₂ σ₃ : State A} {c : ℕ} → Grown v σ σ₁ E → ((a : A) → Aged (σ₁.mark a) (σ₂.mark a)) → Swept v σ₂ σ₃ E c → c ≡ 0
      → Settled v σ σ₃ E
  settled_now {σ₁ = σ₁} {σ₂} {σ₃} {c} g e s z =
      record {
        grown = grown_more g e s;
        shut = λ a b f q. (λ h. (s.full a b f).there q (reached a h), λ h. (s.full a b f).back q (reached b h));
      }
    where
      reached : (a : A) → σ₃.mark a ≢ 0 → σ₂.mark a ≡ 1
      reached a h = (e a).some (λ u. h (s.still z a ∙ (e a).none u))

  pub settled_after : {σ σ₁ σ₂ : State A} → Grown v σ σ₁ E → Settled v σ₁ σ₂ E → Settled v σ σ₂ E
  settled_after g s = record { grown = grown_then g s.grown; shut = s.shut }
