-- How many of the nets before m + 1 pass a test, from how many of those before m do: the step of a loop that counts them by the bytes of
-- their tests.
use Prim.Native.Nat.{ℕ, zero, suc, ◌+◌, ◌-◌, ◌≤◌}
use mathlib.Core.Path.{◌≡◌, refl, ap, ◌∙◌}
use mathlib.Core.Bool.{Bool, true, false}
use native.Mathlib.Omega.{arith}
use native.Mathlib.Numerals.{add-one}
use mir.Val.{bool_byte}
use Rattle.counting.specs.Counting.{bit, count}
use Rattle.counting.proofs.Sums.{sum_more}
use Rattle.counting.proofs.Counts.{count_le}

pub byte_bit : (b : Bool) → bool_byte b ≡ bit b
byte_bit true = refl
byte_bit false = refl

module _ (z : ℕ → Bool) where
  pub counted_more : (m n c : ℕ) → 1 ≤ m → n ≡ count z (m - 1) → c ≡ bool_byte (z m) → n + c ≡ count z (m + 1 - 1)
  counted_more zero n c l e f = absurd (omega arith)
  counted_more (suc k) n c l e f =
      let before : suc k - 1 ≡ k = omega arith in
      let here : suc k + 1 - 1 ≡ suc k = omega arith in
      let more : count z (suc k) ≡ count z k + bit (z (suc k)) = rw add-one at (sum_more (λ m. bit (z m)) k) in
      let less : n ≡ count z k = e ∙ ap (count z) before in
      let after : count z (suc k + 1 - 1) ≡ count z (suc k) = ap (count z) here in
      omega (arith, less, f, more, after, byte_bit (z (suc k)))

  pub counted_few : (m n : ℕ) → n ≡ count z (m - 1) → n ≤ m - 1
  counted_few m n e = omega (arith, count_le z (m - 1))
