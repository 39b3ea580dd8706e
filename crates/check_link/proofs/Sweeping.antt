-- Sweeps compose: what two runs over edges do one after the other is one sweep over the edges of both, because a run adds only marks that no run goes on from.
use Prim.Native.Nat.{ℕ, ◌+◌, ◌<◌}
use mathlib.Core.Path.{◌≡◌, refl, sym, ap, ◌∙◌, subst}
use mathlib.Core.Logic.{◌⊎◌, inl, inr, ◌≢◌, ⊎_elim}
use mathlib.Core.List.{List}
use mathlib.Core.Bool.{Bool, true, false, ◌||◌, true≢false}
use native.Mathlib.Omega.{arith}
use native.Mathlib.Decide.{ℕ_discrete}
use lib.ListN.{length, set}
use lib.Seq.{get_or-set_same}
use Rattle.check_link.specs.Marks.{at, State, one, Shut, Added, Swept}
use Rattle.check_link.specs.Edges.{Only, Below, AllShut}
use Rattle.check_link.proofs.Zeros.{zeros_set, elsewhere}

-- σ' is σ with a new mark at i
pub record Marked {A : Type 0} (σ σ' : State A) (i : A) : Type 0 where
  pub was : σ.mark i ≡ 0
  pub is : σ'.mark i ≡ 2
  pub rest : (c : A) → (c ≡ i) ⊎ (σ'.mark c ≡ σ.mark c)
  pub fewer : σ'.left + 1 ≡ σ.left

module _ {A : Type 0} {v : A → ℕ} where
  module _ {σ σ' : State A} {E : A → A → Type 0} {c : ℕ} (s : Swept v σ σ' E c) where
    -- what was marked stays as it is, what is marked 1 was
    old_stays : (a : A) → σ.mark a ≢ 0 → σ'.mark a ≡ σ.mark a
    old_stays a h = ⊎_elim (λ e. e) (λ n. absurd (h n.was)) (s.each a)

    one_was : (a : A) → σ'.mark a ≡ 1 → σ.mark a ≡ 1
    one_was a h = ⊎_elim (λ e. sym e ∙ h) (λ n. absurd (omega (arith, n.is))) (s.each a)

    none_was : (a : A) → σ'.mark a ≡ 0 → σ.mark a ≡ 0
    none_was a h = ⊎_elim (λ e. sym e ∙ h) (λ n. n.was) (s.each a)

    pub kept : (a : A) → σ.mark a ≢ 0 → σ'.mark a ≢ 0
    kept a h z = h (none_was a z)

  added_as : {σ σ₁ σ₂ : State A} {E G : A → A → Type 0} (a : A) → ((b : A) → E a b → G a b) → ((b : A) → E b a → G b a)
      → σ₂.mark a ≡ σ₁.mark a → Added v σ σ₁ E a → Added v σ σ₂ G a
  added_as a i j e n =
      record { was = n.was; is = e ∙ n.is; from = n.from; edge = ⊎_elim (λ h. inl (i _ h)) (λ h. inr (j _ h)) n.edge; same = n.same; old = n.old }

  -- one run after another: the edges of both
  pub swept_then : {σ σ₁ σ₂ : State A} {E F : A → A → Type 0} {c d : ℕ} (G : A → A → Type 0)
      → ((a b : A) → E a b → G a b) → ((a b : A) → F a b → G a b) → ((a b : A) → G a b → E a b ⊎ F a b)
      → Swept v σ σ₁ E c → Swept v σ₁ σ₂ F d → Swept v σ σ₂ G (c + d)
  swept_then {σ} {σ₁} {σ₂} {E} {F} {c} {d} G i j k s t =
      record {
        each = λ a. ⊎_elim (λ e. ⊎_elim (λ h. inl (e ∙ h)) (λ n. inr (added_as a (i a) (λ b. i b a) e n)) (s.each a)) (λ n. inr (later a n)) (t.each a);
        full = λ a b e. ⊎_elim (first a b) (second a b) (k a b e);
        still = λ z a. t.still (omega arith) a ∙ s.still (omega arith) a;
        less = omega (arith, s.less, t.less);
      }
    where
      later : (a : A) → Added v σ₁ σ₂ F a → Added v σ σ₂ G a
      later a n =
          record {
            was = none_was s a n.was;
            is = n.is;
            from = n.from;
            edge = ⊎_elim (λ h. inl (j _ _ h)) (λ h. inr (j _ _ h)) n.edge;
            same = n.same;
            old = one_was s n.from n.old;
          }

      first : (a b : A) → E a b → Shut (v a) (v b) (σ.mark a) (σ.mark b) (σ₂.mark a) (σ₂.mark b)
      first a b e = record { there = λ q h. kept t b ((s.full a b e).there q h); back = λ q h. kept t a ((s.full a b e).back q h) }

      reached : (a : A) → σ.mark a ≡ 1 → σ₁.mark a ≡ 1
      reached a h = old_stays s a (λ z. omega arith) ∙ h

      second : (a b : A) → F a b → Shut (v a) (v b) (σ.mark a) (σ.mark b) (σ₂.mark a) (σ₂.mark b)
      second a b e = record { there = λ q h. (t.full a b e).there q (reached a h); back = λ q h. (t.full a b e).back q (reached b h) }

  -- nothing done, where every edge is shut
  pub swept_quiet : {σ : State A} (G : A → A → Type 0)
      → ((a b : A) → G a b → Shut (v a) (v b) (σ.mark a) (σ.mark b) (σ.mark a) (σ.mark b)) → Swept v σ σ G 0
  swept_quiet G shut = record { each = λ a. inl refl; full = shut; still = λ z a. refl; less = omega arith }

  pub swept_none : {σ : State A} (G : A → A → Type 0) → ((a b : A) → G a b → ⊥) → Swept v σ σ G 0
  swept_none G nowhere = swept_quiet G (λ a b e. absurd (nowhere a b e))

  -- the same edges, said another way
  pub swept_as : {σ σ' : State A} {E : A → A → Type 0} {c : ℕ} (G : A → A → Type 0) → ((a b : A) → E a b → G a b) → ((a b : A) → G a b → E a b)
      → Swept v σ σ' E c → Swept v σ σ' G c
  swept_as G i j s =
      record {
        each = λ a. ⊎_elim inl (λ n. inr (added_as a (i a) (λ b. i b a) refl n)) (s.each a);
        full = λ a b e. s.full a b (j a b e);
        still = s.still;
        less = s.less;
      }

  pub below_none : {σ : State A} (F : ℕ → A → A → Type 0) → Swept v σ σ (Below F 0) 0
  below_none F = swept_none _ (λ a b e. omega (arith, e.1))

  pub below_more : {σ σ₁ σ₂ : State A} {c d : ℕ} (F : ℕ → A → A → Type 0) (top : ℕ)
      → Swept v σ σ₁ (Below F top) c → Swept v σ₁ σ₂ (F top) d → Swept v σ σ₂ (Below F (top + 1)) (c + d)
  below_more F top s r =
      swept_then _ (λ a b e. (e.0, omega (arith, e.1), e.2)) (λ a b e. (top, omega arith, e)) (λ a b e. which a b e.0 e.1 e.2) s r
    where
      which : (a b : A) (j : ℕ) → j < top + 1 → F j a b → Below F top a b ⊎ F top a b
      which a b j h f = elim (ℕ_discrete j top) [ yes p ↦ inr (subst (λ (i : ℕ). F i a b) p f) | no n ↦ inl (j, omega arith, f) ]

  pub below_all : {σ σ₁ : State A} {c : ℕ} (F : ℕ → A → A → Type 0) (i top : ℕ) → i ≡ top → Swept v σ σ₁ (Below F i) c → Swept v σ σ₁ (Below F top) c
  below_all {σ} {σ₁} {c} F i top e s = subst (λ (u : ℕ). Swept v σ σ₁ (Below F u) c) e s

  -- the edge from a to b, and a or b is marked
  only_marked : {σ σ' : State A} (a b i o : A) → Marked σ σ' i → σ.mark o ≡ 1 → v i ≡ v o → (Only a b i o) ⊎ (Only a b o i) → Swept v σ σ' (Only a b) 1
  only_marked {σ} {σ'} a b i o m old q e =
      record {
        each = λ c. ⊎_elim (λ h. inr (subst (Added v σ σ' (Only a b)) (sym h) added)) inl (m.rest c);
        full = λ c d f. ⊎_elim (λ h. first c d f h) (λ h. second c d f h) e;
        still = λ z c. absurd (omega arith);
        less = m.fewer;
      }
    where
      added : Added v σ σ' (Only a b) i
      added = record { was = m.was; is = m.is; from = o; edge = e; same = q; old = old }

      o_kept : σ'.mark o ≢ 0
      o_kept z = ⊎_elim (λ h. let u : σ.mark o ≡ 0 = ap σ.mark h ∙ m.was in omega arith) (λ h. omega arith) (m.rest o)

      i_kept : σ'.mark i ≢ 0
      i_kept z = omega (arith, m.is)

      first : (c d : A) → Only a b c d → Only a b i o → Shut (v c) (v d) (σ.mark c) (σ.mark d) (σ'.mark c) (σ'.mark d)
      first c d f h = rw (f.0, f.1, ← h.0, ← h.1) (record { there = λ p r. o_kept; back = λ p r. i_kept })

      second : (c d : A) → Only a b c d → Only a b o i → Shut (v c) (v d) (σ.mark c) (σ.mark d) (σ'.mark c) (σ'.mark d)
      second c d f h = rw (f.0, f.1, ← h.0, ← h.1) (record { there = λ p r. i_kept; back = λ p r. o_kept })

  pub only_first : {σ σ' : State A} (a b : A) → v a ≡ v b → σ.mark b ≡ 1 → Marked σ σ' a → Swept v σ σ' (Only a b) 1
  only_first a b q h m = only_marked a b a b m h q (inl (refl, refl))

  pub only_second : {σ σ' : State A} (a b : A) → v a ≡ v b → σ.mark a ≡ 1 → Marked σ σ' b → Swept v σ σ' (Only a b) 1
  only_second a b q h m = only_marked a b b a m h (sym q) (inr (refl, refl))

pub marked_one : (m : List ℕ) (i : ℕ) → i < length m → at m i ≡ 0 → Marked (one m) (one (set m i 2)) i
marked_one m i h z = record { was = z; is = get_or-set_same m i 2 0 h; rest = elsewhere m i 2; fewer = zeros_set m i 1 h z }

-- one edge between points, of which the other end was reached before
pub first_marked : (x m : List ℕ) (a b : ℕ) → at x a ≡ at x b → at m a ≡ 0 → at m b ≡ 1 → a < length m
    → Swept (at x) (one m) (one (set m a 2)) (Only a b) 1
first_marked x m a b e z o h = only_first a b e o (marked_one m a h z)

pub second_marked : (x m : List ℕ) (a b : ℕ) → at x a ≡ at x b → at m a ≡ 1 → at m b ≡ 0 → b < length m
    → Swept (at x) (one m) (one (set m b 2)) (Only a b) 1
second_marked x m a b e o z h = only_second a b e o (marked_one m b h z)

-- ---- edges that ask for no mark

module _ (x m : List ℕ) (start : ℕ) where
  pub all_none : (gap : ℕ) → AllShut x m start 0 gap false
  all_none gap = record { none = λ z a b e. absurd (omega (arith, e.1)); some = λ f. refl }

  abbrev Quiet : ℕ → ℕ → Type 0
  Quiet a b = Shut (at x a) (at x b) (at m a) (at m b) (at m a) (at m b)

  -- one more edge, of which o says whether it asks
  pub all_more : (t gap : ℕ) (found o : Bool) → AllShut x m start t gap found
      → (o ≡ false → Quiet (start + t) (start + t + gap)) × (Quiet (start + t) (start + t + gap) → o ≡ false)
      → AllShut x m start (t + 1) gap (found || o)
  all_more t gap true o s h =
      record { none = λ z. absurd (true≢false z); some = λ f. s.some (λ a b e. f a b (e.0, omega (arith, e.1), e.2)) }
  all_more t gap false o s h =
      record {
        none = λ z a b e. elim (ℕ_discrete e.0 t) [
          | yes q ↦ rw (e.2.0, e.2.1, q) (h.0 z)
          | no n ↦ s.none refl a b (e.0, omega (arith, e.1), e.2)
        ];
        some = λ f. h.1 (f (start + t) (start + t + gap) (t, omega arith, (refl, refl)));
      }

pub swept_at : {I A : Type 0} {v : A → ℕ} {σ σ' : State A} {c : ℕ} (F : I → A → A → Type 0) (i j : I) → i ≡ j → Swept v σ σ' (F i) c → Swept v σ σ' (F j) c
swept_at {I} {v} {σ} {σ'} {c} F i j e s = subst (λ (u : I). Swept v σ σ' (F u) c) e s

-- the same of three numbers
pub swept_at₃ : {A : Type 0} {v : A → ℕ} {σ σ' : State A} {c : ℕ} (F : ℕ → ℕ → ℕ → A → A → Type 0) {h h' i i' j j' : ℕ} → h ≡ h' → i ≡ i' → j ≡ j'
    → Swept v σ σ' (F h i j) c → Swept v σ σ' (F h' i' j') c
swept_at₃ F {h} {h'} {i} {i'} {j} {j'} p q r s =
    swept_at (λ (u : ℕ). F u i' j') h h' p (swept_at (λ (u : ℕ). F h u j') i i' q (swept_at (F h i) j j' r s))
