-- The rotation of a side's places stays on the side; each place is another's, rotated, and the two lie on both sides of the middle.
use Prim.Native.Nat.{ℕ, ◌+◌, ◌-◌, ◌≤◌, ◌<◌}
use mathlib.Core.Path.{◌≡◌}
use mathlib.Core.Logic.{◌≢◌, ◌⊎◌, inl, inr}
use native.Mathlib.Decide.{dec_le}
use native.Mathlib.Omega.{arith}
use borrow.Author.Tests.{le-leb, lt-leb}
use Rattle.counting.specs.Counting.{In}
use Rattle.hardest_law.specs.Box.{half, rotated}

pub rotated_in : (p a : ℕ) → In a p → In (rotated p a) p
unfolding rotated
rotated_in p a i = elim (dec_le (a + half p) p) [
  | yes le ↦ rw (le-leb (a + half p) p le) (omega arith)
  | no gt ↦ rw (lt-leb (a + half p) p (omega arith)) (omega arith)
]

pub rotated_first : (p : ℕ) → half p ≤ rotated p 1
unfolding rotated
rotated_first p = elim (dec_le (1 + half p) p) [
  | yes le ↦ rw (le-leb (1 + half p) p le) (omega arith)
  | no gt ↦ rw (lt-leb (1 + half p) p (omega arith)) (omega arith)
]

-- a lies before or on the line c and b on or past it, not both on it; and the same in either order
abbrev pub Around : ℕ → ℕ → ℕ → Type 0
Around c a b = (a ≤ c) × (c ≤ b) × (a < b)

abbrev pub Astride : ℕ → ℕ → ℕ → Type 0
Astride c a b = Around c a b ⊎ Around c b a

-- the place that is rotated to b
pub record Opposite (p b : ℕ) : Type 0 where
  pub place : ℕ
  pub on : In place p
  pub moved : rotated p place ≡ b
  pub past : b ≤ half p → half p ≤ place
  pub astride : p ≢ 1 → Astride (half p) b place

-- the last half of the places comes to the first, and the first to the last
pub opposite : (p b : ℕ) → In b p → Opposite p b
unfolding rotated
opposite p b i = elim (dec_le b (half p)) [
  | yes le ↦
      record {
        place = b + (p - half p);
        on = omega arith;
        moved = rw (lt-leb (b + (p - half p) + half p) p (omega arith)) (omega arith);
        past = λ le. omega arith;
        astride = λ ne. inl (omega (arith, ne));
      }
  | no gt ↦
      record {
        place = b - half p;
        on = omega arith;
        moved = rw (le-leb (b - half p + half p) p (omega arith)) (omega arith);
        past = λ le. omega arith;
        astride = λ ne. inr (omega arith);
      }
]
