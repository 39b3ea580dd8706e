-- Lists as code begins with them: all zeros.
use Prim.Native.Nat.{ℕ}
use mathlib.Core.Path.{◌≡◌}
use native.Mathlib.Decide.{dec_le}
use native.Mathlib.Nat.{lt_of_not-le}
use lib.ListN.{get_or, replicate, length-replicate, get_or-replicate, get_or-eq_default}

pub zeros_at : (n v : ℕ) → ◌≡◌ {A = ℕ} (get_or (replicate n 0) v 0) 0
zeros_at n v = elim (dec_le n v) [
  | yes le ↦ get_or-eq_default (replicate n 0) 0 (rw length-replicate le)
  | no gt ↦ get_or-replicate n v 0 0 (lt_of_not-le gt)
]
