-- Marks on pins and points together, and what is reached from them. Cited by the contracts of inner
-- functions alone; Check's promise speaks of the grid's own joins.
--
--   Spot               a place in the buffers: an entry of the pin list, or a point of the wiring
--   val p x a          what spot a holds, of the pins p and the points x; its mark, of the pins' marks and the points'
--   two s m            the pins' marks s with the points' marks m, as a state
--   Reach v μ E a      a is reached from what μ marks, along the edges E, either way, between spots that hold the same
--   Aged a b           mark a, as a sweep begins, is b: what is marked counts as reached before
--   Grown v σ σ' E     marks were added, and each is reached
--   Settled v σ σ' E   nothing is left to add: σ' marks just what is reached from σ
use Rattle.std.specs.Prelude.{ℕ, ◌+◌, ◌≡◌, ◌≢◌, List}
use Rattle.check_link.specs.Marks.{at, State, zeros}

pub data Spot : Type 0 where
  a_pin a_point : ℕ → Spot

abbrev pub val : List ℕ → List ℕ → Spot → ℕ
val p x (a_pin a) = at p a
val p x (a_point q) = at x q

abbrev pub two : List ℕ → List ℕ → State Spot
two s m = record { mark = val s m; left = zeros s + zeros m }

pub data Reach {A : Type 0} (v μ : A → ℕ) (E : A → A → Type 0) : A → Type 0 where
  here : {a : A} → μ a ≢ 0 → Reach v μ E a
  on : {a b : A} → Reach v μ E a → E a b → v a ≡ v b → Reach v μ E b
  back : {a b : A} → Reach v μ E b → E a b → v a ≡ v b → Reach v μ E a

pub record Aged (a b : ℕ) : Type 0 where
  pub none : a ≡ 0 → b ≡ 0
  pub some : a ≢ 0 → b ≡ 1

pub record Grown {A : Type 0} (v : A → ℕ) (σ σ' : State A) (E : A → A → Type 0) : Type 0 where
  pub sound : (a : A) → σ'.mark a ≢ 0 → Reach v σ.mark E a
  pub keep : (a : A) → σ.mark a ≢ 0 → σ'.mark a ≢ 0

pub record Settled {A : Type 0} (v : A → ℕ) (σ σ' : State A) (E : A → A → Type 0) : Type 0 where
  pub grown : Grown v σ σ' E
  pub shut : (a b : A) → E a b → v a ≡ v b → (σ'.mark a ≢ 0 → σ'.mark b ≢ 0) × (σ'.mark b ≢ 0 → σ'.mark a ≢ 0)
