-- Products as running offsets: where row j of w rows of n begins and ends.
use Prim.Native.Nat.{ℕ, ◌+◌, ◌*◌, ◌≤◌, ◌<◌}
use mathlib.Core.Path.{◌≡◌}
use native.Mathlib.Nat.{mul_comm, suc-mul, mul-le-mul_right, le-mul_of_pos_right}
use native.Mathlib.Numerals.{add-one}

pub rows_in : (j w n : ℕ) → j < w → j * n + n ≤ n * w
rows_in j w n h = rw (mul_comm n w, ← suc-mul) (mul-le-mul_right n h)

pub next_row : (j n : ℕ) → (j + 1) * n ≡ j * n + n
next_row j n = rw (add-one, suc-mul)

pub first_row : (n w : ℕ) → 1 ≤ w → n ≤ n * w
first_row n w h = le-mul_of_pos_right n h

-- layer l + 1 of k, and the one above it, where each has n * w points
pub layer_in : (l k each n w : ℕ) → each ≡ n * w → l < k → l * each + each ≤ n * w * k
layer_in l k each n w e h = rw (← e) (rows_in l k each h)

pub next_in : (l k each n w : ℕ) → each ≡ n * w → l + 1 < k → l * each + each + each ≤ n * w * k
next_in l k each n w e h = rw (← next_row l each) (layer_in (l + 1) k each n w e h)
