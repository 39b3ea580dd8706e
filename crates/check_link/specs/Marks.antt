-- Marks, and what a sweep adds to them. A spot is whatever can be marked: here a point, in crate check_sweep a pin too. Cited by the
-- contracts of inner functions alone; Check's promise speaks of the grid's own joins.
--
--   at list a          entry a of a buffer, counted from 0; 0 outside
--   State              marks, and how many spots have none. A mark is 0 where nothing reached the spot; as a sweep begins 1 marks
--                      what was reached before it, and the sweep marks what it adds with 2
--   one m              the points' marks m as a state
--   Shut va vb ..      an edge between spots that hold va and vb: where they hold the same and one was reached before (old marks oa, ob),
--                      the other is marked now (new marks na, nb)
--   Added v σ σ' E a   the sweep marked a, which is joined along E to a spot that was reached before and holds the same
--   Swept v σ σ' E c   one sweep over the edges E: it added exactly what is joined to what was reached before it, and made c marks
use Rattle.std.specs.Prelude.{ℕ, zero, suc, ◌+◌, ◌≡◌, ◌⊎◌, ◌≢◌, List, [], ◌∷◌, get_or}

abbrev pub at : List ℕ → ℕ → ℕ
at list a = get_or list a 0

pub record State (A : Type 0) : Type 0 where
  pub mark : A → ℕ
  pub left : ℕ

abbrev pub empty : ℕ → ℕ
empty zero = 1
empty (suc a) = 0

abbrev pub zeros : List ℕ → ℕ
zeros [] = 0
zeros (a ∷ l) = empty a + zeros l

abbrev pub one : List ℕ → State ℕ
one m = record { mark = at m; left = zeros m }

pub record Shut (va vb oa ob na nb : ℕ) : Type 0 where
  pub there : va ≡ vb → oa ≡ 1 → nb ≢ 0
  pub back : va ≡ vb → ob ≡ 1 → na ≢ 0

pub record Added {A : Type 0} (v : A → ℕ) (σ σ' : State A) (E : A → A → Type 0) (a : A) : Type 0 where
  pub was : σ.mark a ≡ 0
  pub is : σ'.mark a ≡ 2
  pub from : A
  pub edge : E a from ⊎ E from a
  pub same : v a ≡ v from
  pub old : σ.mark from ≡ 1

pub record Swept {A : Type 0} (v : A → ℕ) (σ σ' : State A) (E : A → A → Type 0) (c : ℕ) : Type 0 where
  pub each : (a : A) → (σ'.mark a ≡ σ.mark a) ⊎ Added v σ σ' E a
  pub full : (a b : A) → E a b → Shut (v a) (v b) (σ.mark a) (σ.mark b) (σ'.mark a) (σ'.mark b)
  pub still : c ≡ 0 → (a : A) → σ'.mark a ≡ σ.mark a
  pub less : σ'.left + c ≡ σ.left
