-- The byte whose bits are tests: its bit k stands exactly where test k + 1 passes. By induction on the bits, each above those before it.
use Prim.Native.Nat.{ℕ, zero, suc, ◌+◌, ◌-◌, ◌*◌, ◌/◌, ◌%◌, ◌^◌, ◌<◌}
use mathlib.Core.Path.{◌≡◌, sym, ap, ◌∙◌}
use mathlib.Core.Logic.{by_cases}
use mathlib.Core.Bool.{Bool, true, false}
use native.Mathlib.Decide.{ℕ_discrete}
use native.Mathlib.Omega.{arith}
use native.Mathlib.Nat.{pow-suc}
use lib.Dec.{eqb}
use lib.Pow.{high, low, field, mod-mod-pow}
use Rattle.counting.specs.Counting.{bit, sum}
use Rattle.counting.proofs.Sums.{bit_le}
use Rattle.ticket.proofs.Placed.{times_bit}
use Rattle.ticket_sides.specs.Format.{is_on}

pub one_bit : (x k : ℕ) (b : Bool) → x / 2 ^ k % 2 ≡ bit b → is_on x k ≡ b
one_bit x k true e = rw e
one_bit x k false e = rw e

-- bit k is one of the lowest m
below : (n m k : ℕ) → k < m → is_on (n % 2 ^ m) k ≡ is_on n k
below n m k h =
    let d = m - k - 1 in
    let e : m ≡ d + 1 + k = omega arith in
    ap (λ (x : ℕ). eqb (x % 2) 1) (ap (λ (j : ℕ). n % 2 ^ j / 2 ^ k) e ∙ field n (d + 1) k)
    ∙ ap (λ (x : ℕ). eqb x 1) (mod-mod-pow (n / 2 ^ k) d 1)

module _ (t : ℕ → Bool) where
  -- the number whose lowest m bits are the tests
  abbrev number_of : ℕ → ℕ
  number_of m = sum (λ b. bit (t b) * 2 ^ (b - 1)) m

  number_more : (m : ℕ) → number_of (suc m) ≡ bit (t (suc m)) * 2 ^ m + number_of m
  unfolding sum
  number_more m = let q : suc m - 1 ≡ m = omega arith in rw q (omega arith)

  number_lt : (m : ℕ) → number_of m < 2 ^ m
  unfolding sum
  number_lt zero = omega arith
  number_lt (suc m) = rw (number_more, pow-suc) (omega (arith, number_lt m, times_bit (2 ^ m) (t (suc m))))

  pub number_on : (m k : ℕ) → k < m → is_on (number_of m) k ≡ t (suc k)
  number_on zero k h = absurd (omega arith)
  number_on (suc m) k h =
      ap (λ (x : ℕ). is_on x k) (number_more m)
      ∙ by_cases (ℕ_discrete k m)
      (λ e. rw e (one_bit _ m (t (suc m)) (omega (arith, high (bit (t (suc m))) m (number_lt m), bit_le (t (suc m))))))
      (λ ne.
      let less : k < m = omega arith in
      sym (below _ m k less) ∙ ap (λ (x : ℕ). is_on x k) (low (bit (t (suc m))) m (number_lt m)) ∙ number_on m k less)
