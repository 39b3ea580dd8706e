-- As a sweep begins every mark becomes 1: entry by entry, which leaves as many spots without a mark as before.
use Prim.Native.Nat.{ℕ, zero, suc, ◌≤◌, ◌<◌}
use mathlib.Core.Path.{◌≡◌, refl}
use mathlib.Core.List.{List, [], ◌∷◌}
use native.Mathlib.Omega.{arith}
use lib.ListN.{length}
use Rattle.check_link.specs.Marks.{at, zeros}
use Rattle.check_sweep.specs.Reached.{Spot, a_pin, a_point, val, Aged}

-- the entries below a have aged
pub record Ageing (old now : List ℕ) (a : ℕ) : Type 0 where
  pub size : length now ≡ length old
  pub done : (b : ℕ) → b < a → Aged (at old b) (at now b)
  pub rest : (b : ℕ) → a ≤ b → at now b ≡ at old b

pub zeros_aged : (old now : List ℕ) → length now ≡ length old → ((b : ℕ) → Aged (at old b) (at now b)) → zeros now ≡ zeros old
zeros_aged [] [] e h = refl
zeros_aged [] (b ∷ now) e h = absurd (omega arith)
zeros_aged (a ∷ old) [] e h = absurd (omega arith)
zeros_aged (zero ∷ old) (b ∷ now) e h =
    let r : zeros now ≡ zeros old = zeros_aged old now (omega arith) (λ c. h (suc c)) in
    let z : b ≡ 0 = (h 0).none refl in
    rw z (omega arith)
zeros_aged (suc a ∷ old) (b ∷ now) e h =
    let r : zeros now ≡ zeros old = zeros_aged old now (omega arith) (λ c. h (suc c)) in
    let z : b ≡ 1 = (h 0).some (λ u. omega arith) in
    rw z (omega arith)

pub aged_two : (s m s' m' : List ℕ) → ((b : ℕ) → Aged (at s b) (at s' b)) → ((b : ℕ) → Aged (at m b) (at m' b)) → (a : Spot) → Aged (val s m a)
    (val s' m' a)
aged_two s m s' m' f g (a_pin a) = f a
aged_two s m s' m' f g (a_point q) = g q
