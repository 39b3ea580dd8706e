-- The library's search finds the first place that is free: `first_free` is its recursion, with the number of places where it finds none.
use Prim.Native.Nat.{ℕ, suc, ◌+◌, ◌≤◌}
use native.Mathlib.Omega.{arith}
use mathlib.Core.Path.{◌≡◌, refl, sym, ap, ◌∙◌}
use mathlib.Core.Bool.{Bool, true, false, cond}
use mathlib.Core.List.{List, [], ◌∷◌}
use lib.Dec.{ltb}
use lib.ListN.{length}
use borrow.Author.Tests.{ltb-false}
use Rattle.std.proofs.Common.{Option, Some, None}
use Rattle.std.specs.List.{position, position_or_len}
use Rattle.std.specs.Option.{unwrap_or}
use Rattle.std.proofs.lemmas.List.Recursion.{is_position_or_len}
use Rattle.counting.proofs.Sums.{split}
use Rattle.trunks.specs.Packing.{pick, first_free}

-- the search finds the first place that is free, or none
free_is : (l : ℕ) (xs : List ℕ) → first_free xs l ≡ position_or_len (λ x. ltb x l) xs
free_is l = is_position_or_len (λ xs. first_free xs l) (λ x. ltb x l) refl (λ x xs. step (ltb x l) (first_free xs l))
  where
    step : (b : Bool) (k : ℕ) → pick b 0 (suc k) ≡ cond b 0 (1 + k)
    step true k = refl
    step false k = omega arith

free_le : (l : ℕ) (xs : List ℕ) → first_free xs l ≤ length xs
free_le l [] = omega arith
free_le l (x ∷ xs) = split (ltb x l) (λ e. rw e (omega arith)) (λ e. rw e (omega (arith, free_le l xs)))

free_found : (l : ℕ) (xs : List ℕ) → unwrap_or (position (λ x. ltb x l) xs) (length xs) ≡ first_free xs l
free_found l xs = rw (← free_is l xs) (split (ltb (first_free xs l) (length xs)) (λ e. rw e)
    (λ e. rw e (let b = ltb-false (first_free xs l) (length xs) e in omega (arith, free_le l xs))))

pub free_some : (l : ℕ) (xs : List ℕ) (at : ℕ) → position (λ x. ltb x l) xs ≡ Some at → first_free xs l ≡ at
free_some l xs at e = sym (free_found l xs) ∙ ap (λ (o : Option ℕ). unwrap_or o (length xs)) e

pub free_none : (l : ℕ) (xs : List ℕ) → position (λ x. ltb x l) xs ≡ None → first_free xs l ≡ length xs
free_none l xs e = sym (free_found l xs) ∙ ap (λ (o : Option ℕ). unwrap_or o (length xs)) e
