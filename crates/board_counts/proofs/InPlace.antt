-- A list that a loop changes in place from the front: the entries passed are f of what they were, and the others are as they were.
use Prim.Native.Nat.{ℕ, ◌+◌, ◌≤◌, ◌<◌}
use mathlib.Core.Path.{◌≡◌, refl, ap, ◌∙◌}
use mathlib.Core.List.{List}
use native.Mathlib.Omega.{arith}
use lib.ListN.{length, get_or, set, length-set}
use lib.Seq.{get_or-set_same, get_or-set_other}
use borrow.Author.Count.{below_more}

-- f k is what becomes of entry k
pub record Passed (f : ℕ → ℕ → ℕ) (n i : ℕ) (old new : List ℕ) : Type 0 where
  pub size : length new ≡ n
  pub done : (k : ℕ) → k < i → get_or new k 0 ≡ f k (get_or old k 0)
  pub rest : (k : ℕ) → i ≤ k → get_or new k 0 ≡ get_or old k 0

module _ (f : ℕ → ℕ → ℕ) (n : ℕ) where
  pub passed_none : (old : List ℕ) → length old ≡ n → Passed f n 0 old old
  passed_none old size = record { size = size; done = λ k h. absurd (omega arith); rest = λ k h. refl }

  pub passed_set : (i v : ℕ) (old new : List ℕ) → i < n → v ≡ f i (get_or new i 0) → Passed f n i old new
      → Passed f n (i + 1) old (set new i v)
  passed_set i v old new h e w =
      record {
        size = length-set new i v ∙ w.size;
        done = below_more (λ k. get_or (set new i v) k 0 ≡ f k (get_or old k 0)) i
            (λ k less. get_or-set_other new i k v 0 (λ q. omega arith) ∙ w.done k less)
            (get_or-set_same new i v 0 (rw w.size h) ∙ e ∙ ap (f i) (w.rest i (omega arith)));
        rest = λ k le. get_or-set_other new i k v 0 (λ q. omega arith) ∙ w.rest k (omega arith);
      }
