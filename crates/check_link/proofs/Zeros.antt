-- How many marks a list lacks: a mark that is made where there was none leaves one less to make.
use Prim.Native.Nat.{ℕ, zero, suc, ◌+◌, ◌≤◌, ◌<◌}
use mathlib.Core.Path.{◌≡◌}
use mathlib.Core.Logic.{◌⊎◌, inl, inr}
use mathlib.Core.List.{List, [], ◌∷◌}
use native.Mathlib.Omega.{arith}
use native.Mathlib.Decide.{ℕ_discrete}
use native.Mathlib.Nat.{suc-ne-zero, not-suc-le-zero, le_of_suc-le-suc}
use lib.ListN.{length, set}
use lib.Seq.{get_or-set_other}
use Rattle.check_link.specs.Marks.{at, zeros}

pub zeros_le : (l : List ℕ) → zeros l ≤ length l
zeros_le [] = omega arith
zeros_le (zero ∷ l) = let h : zeros l ≤ length l = zeros_le l in omega arith
zeros_le (suc a ∷ l) = let h : zeros l ≤ length l = zeros_le l in omega arith

pub zeros_set : (l : List ℕ) (i a : ℕ) → i < length l → at l i ≡ 0 → zeros (set l i (suc a)) + 1 ≡ zeros l
zeros_set [] i a h e = absurd (not-suc-le-zero h)
zeros_set (zero ∷ l) zero a h e = omega arith
zeros_set (suc b ∷ l) zero a h e = absurd (suc-ne-zero _ e)
zeros_set (b ∷ l) (suc i) a h e =
    let z : zeros (set l i (suc a)) + 1 ≡ zeros l = zeros_set l i a (le_of_suc-le-suc h) e in omega arith

pub elsewhere : (l : List ℕ) (i a c : ℕ) → (c ≡ i) ⊎ (at (set l i a) c ≡ at l c)
elsewhere l i a c = elim (ℕ_discrete c i) [ yes e ↦ inl e | no n ↦ inr (get_or-set_other l i c a 0 n) ]
