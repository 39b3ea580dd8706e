-- The floor grows with across and up, and where these are n + w it is the hardest: rounding n + w up adds 1 to what n or w gives.
use Prim.Native.Nat.{ℕ, ◌+◌, ◌*◌, ◌≤◌, ◌<◌, max}
use mathlib.Core.Path.{◌≡◌, ap₂}
use native.Mathlib.Decide.{dec_le}
use native.Mathlib.Nat.{mul-le-mul_right, add_comm}
use native.Mathlib.Omega.{arith}
use Rattle.counting.specs.Counting.{ceil}
use Rattle.counting.proofs.Counts.{ceil_le, round_up}
use Rattle.terms.specs.Kinds.{quotient}
use Rattle.density.specs.Density.{floor}
use Rattle.hardest_law.specs.Hardest.{hardest_floor}

lt_ceil : (a b c : ℕ) → 1 ≤ b → b * c < a → c < ceil a b
lt_ceil a b c one h = elim (dec_le (ceil a b) c) [
  | yes le ↦ absurd (omega (arith, round_up a b one, mul-le-mul_right b le))
  | no gt ↦ omega arith
]

ceil_grows : (a a' b : ℕ) → 1 ≤ b → a ≤ a' → ceil a b ≤ ceil a' b
ceil_grows a a' b one h = ceil_le a b (ceil a' b) (omega (arith, round_up a' b one))

ceil_more : (a b : ℕ) → 1 ≤ b → ceil (a + b) b ≡ ceil a b + 1
ceil_more a b one =
    let r = round_up a b one in
    omega (arith, ceil_le (a + b) b (ceil a b + 1) (omega arith), lt_ceil (a + b) b (ceil a b) one (omega arith))

floor_least : (a b c : ℕ) → 1 ≤ c → 2 * a ≤ c + 1 → 2 * b ≤ c + 1 → a + b ≤ c → floor a b ≤ c
unfolding floor
floor_least a b c h i j k = omega arith

floor_grows : (a a' b b' : ℕ) → a ≤ a' → b ≤ b' → floor a b ≤ floor a' b'
unfolding floor
floor_grows a a' b b' h k = floor_least a b (floor a' b') (omega arith) (omega arith) (omega arith) (omega arith)

-- q + 1 for the longer side over the shorter, 2 for the shorter over the longer
floor_top : (q : ℕ) → 1 ≤ q → (floor (q + 1) 2 ≡ max (2 * q + 1) (q + 3)) × (floor 2 (q + 1) ≡ max (2 * q + 1) (q + 3))
unfolding floor
floor_top q one = omega arith

twice : (s l : ℕ) → 1 ≤ s → s ≤ l → ceil (l + s) l ≡ 2
twice s l one le = omega (arith, ceil_le (l + s) l 2 (omega arith), lt_ceil (l + s) l 1 (omega arith) (omega arith))

module _ (n w : ℕ) (long : 1 ≤ n) (broad : 1 ≤ w) where
  pub floors_grow : (a b a' b' : ℕ) → a ≤ a' → b ≤ b' → floor (ceil a w) (ceil b n) ≤ floor (ceil a' w) (ceil b' n)
  floors_grow a b a' b' h k = floor_grows _ _ _ _ (ceil_grows a a' w broad h) (ceil_grows b b' n long k)

  pub floor_hardest : floor (ceil (n + w) w) (ceil (n + w) n) ≡ hardest_floor n w
  floor_hardest = elim (dec_le w n) [
    | yes le ↦
        let q : quotient n w ≡ ceil n w = ap₂ ceil (omega arith) (omega arith) in
        rw (q, ceil_more n w broad, twice w n broad le) (floor_top (ceil n w) (lt_ceil n w 0 broad (omega arith))).0
    | no gt ↦
        let q : quotient n w ≡ ceil w n = ap₂ ceil (omega arith) (omega arith) in
        rw (q, add_comm n w, ceil_more w n long, twice n w long (omega arith)) (floor_top (ceil w n) (lt_ceil w n 0 long (omega arith))).1
  ]
