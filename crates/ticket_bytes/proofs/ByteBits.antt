-- A byte is the sum of its standing bits, each times its power of two: the lowest m bits make up its remainder by 2 ^ m.
use Prim.Native.Nat.{ℕ, zero, suc, ◌+◌, ◌-◌, ◌*◌, ◌/◌, ◌%◌, ◌^◌, ◌<◌}
use mathlib.Core.Path.{◌≡◌, sym, ap, ◌∙◌}
use native.Mathlib.Nat.{mod-one, mod-eq_of_lt}
use native.Mathlib.Numerals.{one-add}
use native.Mathlib.Omega.{arith}
use lib.Pow.{mod-pow-add}
use Rattle.counting.specs.Counting.{bit, sum}
use Rattle.ticket_sides.proofs.Bits.{bit_mod}
use Rattle.ticket_sides.specs.Format.{is_on}

low_bits : (x m : ℕ) → sum (λ b. bit (is_on x (b - 1)) * 2 ^ (b - 1)) m ≡ x % 2 ^ m
unfolding sum
low_bits x zero = sym (mod-one x)
low_bits x (suc m) =
    let back : suc m - 1 ≡ m = omega arith in
    let more : x % 2 ^ suc m ≡ (x / 2 ^ m % 2) * 2 ^ m + x % 2 ^ m = ap (λ (k : ℕ). x % 2 ^ k) (sym (one-add m)) ∙ mod-pow-add x 1 m in
    rw (back, bit_mod (x / 2 ^ m)) (omega (arith, low_bits x m))

pub all_bits : (x m : ℕ) → x < 2 ^ m → sum (λ b. bit (is_on x (b - 1)) * 2 ^ (b - 1)) m ≡ x
all_bits x m h = low_bits x m ∙ mod-eq_of_lt h
