-- What a claim marks is reached, where an edge leads to it from a marked spot that holds the same.
use Prim.Native.Nat.{ℕ, ◌*◌, ◌<◌}
use mathlib.Core.Path.{◌≡◌, refl, sym, ap, ◌∙◌, subst}
use mathlib.Core.Logic.{◌⊎◌, inl, inr, ◌≢◌, ⊎_elim}
use mathlib.Core.Bool.{Bool, true, false}
use mathlib.Core.List.{List}
use native.Mathlib.Omega.{arith}
use Rattle.std.specs.Prelude.{Option, Some, None, IfSome}
use lib.ListN.{length, set}
use lib.Seq.{get_or-set_same}
use Rattle.grid.specs.Grid.{Grid}
use Rattle.check_link.specs.Marks.{at, State}
use Rattle.check_sweep.specs.Reached.{Spot, a_pin, a_point, val, two, Reach, here, on, back, Grown}
use Rattle.check_link.specs.Edges.{horizontal, Shape}
use Rattle.check_sweep.specs.Pins.{Edges}
use Rattle.check_link.proofs.Zeros.{elsewhere}
use Rattle.check_sweep.proofs.Settling.{grown_none, grown_then}
use Rattle.check_step.specs.declared.Cell.{Cell}
use Rattle.check_step.specs.Step.{On, Tip, Stepped, Claimed, Moved, Met, Ready}
use Rattle.check_step.proofs.Steps.{in_buffer, tip_edge}

-- one more mark, at b, which is reached
pub grown_mark : {A : Type 0} {v : A → ℕ} {σ σ' : State A} {E : A → A → Type 0} (b : A)
    → ((c : A) → (c ≡ b) ⊎ (σ'.mark c ≡ σ.mark c)) → σ'.mark b ≢ 0 → Reach v σ.mark E b → Grown v σ σ' E
grown_mark {A} {v} {σ} {σ'} {E} b rest some reach =
    record {
      sound = λ c h. ⊎_elim (λ e. subst (Reach v σ.mark E) (sym e) reach) (λ e. here (λ z. h (e ∙ z))) (rest c);
      keep = λ c h. ⊎_elim (λ e z. some (sym (ap σ'.mark e) ∙ z)) (λ e z. h (sym e ∙ z)) (rest c);
    }

module _ (p s x m : List ℕ) {E : Spot → Spot → Type 0} where
  pub claimed_point : (m' : List ℕ) (b v d : ℕ) (r : Bool) → Claimed x m m' b v d r → b < length m → d ≢ 0
      → (at x b ≡ v → Reach (val p x) (val s m) E (a_point b)) → Grown (val p x) (two s m) (two s m') E
  claimed_point m' b v d false c h nz f = subst (λ (n : List ℕ). Grown (val p x) (two s m) (two s n) E) (sym (c.no refl)) grown_none
  claimed_point m' b v d true c h nz f =
      let t = c.yes refl in
      subst (λ (n : List ℕ). Grown (val p x) (two s m) (two s n) E) (sym t.made)
      (grown_mark (a_point b) rest (λ z. nz (sym (get_or-set_same m b d 0 h) ∙ z)) (f t.same))
    where
      rest : (c : Spot) → (c ≡ a_point b) ⊎ (val s (set m b d) c ≡ val s m c)
      rest (a_pin a) = inr refl
      rest (a_point q) = ⊎_elim (λ e. inl (ap a_point e)) inr (elsewhere m b d q)

  pub claimed_pin : (s' : List ℕ) (a v d : ℕ) (r : Bool) → Claimed p s s' a v d r → a < length s → d ≢ 0
      → (r ≡ true → at p a ≡ v → Reach (val p x) (val s m) E (a_pin a)) → Grown (val p x) (two s m) (two s' m) E
  claimed_pin s' a v d false c h nz f = subst (λ (n : List ℕ). Grown (val p x) (two s m) (two n m) E) (sym (c.no refl)) grown_none
  claimed_pin s' a v d true c h nz f =
      let t = c.yes refl in
      subst (λ (n : List ℕ). Grown (val p x) (two s m) (two n m) E) (sym t.made)
      (grown_mark (a_pin a) rest (λ z. nz (sym (get_or-set_same s a d 0 h) ∙ z)) (f refl t.same))
    where
      rest : (c : Spot) → (c ≡ a_pin a) ⊎ (val (set s a d) m c ≡ val s m c)
      rest (a_pin b) = ⊎_elim (λ e. inl (ap a_pin e)) inr (elsewhere s a d b)
      rest (a_point q) = inr refl

-- ---- a step from a marked cell c

module _ {g : Grid} {x m : List ℕ} {c : Cell} {v : ℕ} where
  -- a cell beside it that holds the same is marked
  pub moved_on : {to : Cell} {d : ℕ} → Shape g → length x ≡ g.n * g.w * g.k → length m ≡ length x → Ready g x m c v → Stepped g c to
      → (at x to.q ≡ v) × (at m to.q ≡ 0) → d ≢ 0 → Moved g x m (set m to.q d) (Some to)
  moved_on {to} {d} shape size marks y t (e, z) nz = record { cell = t.cell; grown = λ p s. grown_mark (a_point to.q) (rest p s) marked (reach p s) }
    where
      rest : (p s : List ℕ) (a : Spot) → (a ≡ a_point to.q) ⊎ (val s (set m to.q d) a ≡ val s m a)
      rest p s (a_pin a) = inr refl
      rest p s (a_point q) = ⊎_elim (λ e. inl (ap a_point e)) inr (elsewhere m to.q d q)

      marked : at (set m to.q d) to.q ≢ 0
      marked u = nz (sym (get_or-set_same m to.q d 0 (in_buffer shape size marks t.cell).1) ∙ u)

      reach : (p s : List ℕ) → Reach (val p x) (val s m) (Edges g) (a_point to.q)
      reach p s = ⊎_elim (λ f. on (here y.marked) f (y.holds ∙ sym e)) (λ f. back (here y.marked) f (e ∙ sym y.holds)) t.near

-- nothing is marked
pub moved_back : {g : Grid} {x m : List ℕ} (c : Cell) (r : Option Cell) → IfSome r (Stepped g c) → Moved g x m m r
moved_back c (Some r) t = record { cell = t.cell; grown = λ p s. grown_none }
moved_back c None t = record { cell = tt; grown = λ p s. grown_none }

-- ---- the pins that a cell touches

pub met_none : {g : Grid} {p s : List ℕ} {q v : ℕ} → Met g p s s q v
met_none = record { grown = λ x m e k. grown_none }

pub met_one : {g : Grid} {c : Cell} (p s : List ℕ) {s' : List ℕ} (a v : ℕ) {r : Bool} → On g c → Claimed p s s' a v 1 r → a < length s
    → Tip g a c.i c.j (horizontal g.first c.l) → Met g p s s' c.q v
met_one p s {s'} a v {r} o t l tip = record {
  grown = λ x m q k. claimed_pin p s x m s' a v 1 r t l (λ z. omega arith) (λ y w. back (here k) (tip_edge o a _ refl tip) (w ∙ sym q));
}

pub met_then : {g : Grid} {p s s₁ s₂ : List ℕ} {q v : ℕ} → Met g p s s₁ q v → Met g p s₁ s₂ q v → Met g p s s₂ q v
met_then a b = record { grown = λ x m e k. grown_then (a.grown x m e k) (b.grown x m e k) }
