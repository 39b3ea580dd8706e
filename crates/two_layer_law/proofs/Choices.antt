-- What the next move of a movable state is: a net to its column, or, where no column is ready, a net out of the way; and both are moves. A
-- column for the latter is found by counting: the columns with a net are at most as many as those that are to get one.
use Prim.Native.Nat.{ℕ}
use mathlib.Core.Path.{◌≡◌, refl, sym, ap, ◌∙◌}
use mathlib.Core.Logic.{inl, inr, ⊎_elim, ◌≢◌, by_cases}
use mathlib.Core.Bool.{true, false, and-eq-true_iff, false≢true}
use native.Mathlib.Omega.{arith}
use native.Mathlib.Decide.{ℕ_discrete}
use lib.Dec.{eqb, leb}
use borrow.Author.Tests.{eqb-true, eq-eqb, leb-true, le-leb, lt-leb}
use Rattle.counting.specs.Counting.{In, least}
use Rattle.counting.proofs.Sums.{split, bit_one}
use Rattle.counting.proofs.Counts.{pigeonhole}
use Rattle.two_layer_law.specs.Moves.{MoveState, ready, wrong, spare, filling, blocked, moved, moved_to}
use Rattle.counting.proofs.Leasts.{least_in, least_zero}
use Rattle.counting.proofs.Tests.{count_within}
use Rattle.two_layer_law.proofs.OneMove.{Movable, Move, ready_facts, facts_ready, wrong_facts}

-- the net and the column of the next move: all stand right; column c is ready; or column c is wrong and none is ready
pub data Choice (n : ℕ) (goal : ℕ → ℕ) (st : MoveState) : ℕ → ℕ → Type 0 where
  still : {t : ℕ} → ((c : ℕ) → In c n → wrong goal st.cut c ≡ false) → Choice n goal st 0 t
  fill : (c : ℕ) → filling n goal st ≡ c → In c n → goal c ≢ 0 → st.cut c ≡ 0 → Choice n goal st (goal c) c
  evict : (c : ℕ) → In c n → goal c ≢ 0 → st.cut c ≢ goal c → ((d : ℕ) → In d n → goal d ≢ 0 → st.cut d ≢ 0)
      → Choice n goal st (st.cut c) (least (spare goal st.cut) n)

module _ (n : ℕ) (goal : ℕ → ℕ) (st : MoveState) (k : Movable n goal st) where
  found_ready : (c : ℕ) → c ≢ 0 → filling n goal st ≡ c → In c n × (ready goal st.cut c ≡ true)
  found_ready c ne e =
      split (ready goal st.cut st.left)
      (λ h. let q : st.left ≡ c = rw h at e in let b = k.left in (omega arith, ap (ready goal st.cut) (sym q) ∙ h))
      (λ h. least_in (ready goal st.cut) n c (rw h at e) ne)

  none_ready : filling n goal st ≡ 0 → (d : ℕ) → In d n → ready goal st.cut d ≡ false
  none_ready e d i =
      split (ready goal st.cut st.left)
      (λ h. let q : st.left ≡ 0 = rw h at e in absurd ((ready_facts (goal st.left) (st.cut st.left) h).0 (ap goal q ∙ k.blank)))
      (λ h. least_zero (ready goal st.cut) n d (rw h at e) i)

  pub choice : Choice n goal st (moved n goal st) (moved_to n goal st)
  choice = by_cases (ℕ_discrete (filling n goal st) 0)
      (λ z. by_cases (ℕ_discrete (blocked n goal st) 0) (none z) (out z))
      (λ nz. let r = found_ready (filling n goal st) nz refl in
      let f = ready_facts (goal (filling n goal st)) (st.cut (filling n goal st)) r.1 in
      rw (le-leb 1 (filling n goal st) (omega arith)) (fill (filling n goal st) refl r.0 f.0 f.1))
    where
      none : filling n goal st ≡ 0 → blocked n goal st ≡ 0 → Choice n goal st (moved n goal st) (moved_to n goal st)
      none z b = rw (lt-leb 1 (filling n goal st) (omega arith), lt-leb 1 (blocked n goal st) (omega arith))
          (still (λ c i. least_zero (wrong goal st.cut) n c b i))

      out : filling n goal st ≡ 0 → blocked n goal st ≢ 0 → Choice n goal st (moved n goal st) (moved_to n goal st)
      out z nb =
          let (i, h) = least_in (wrong goal st.cut) n (blocked n goal st) refl nb in
          let w = wrong_facts (goal (blocked n goal st)) (st.cut (blocked n goal st)) h in
          rw (lt-leb 1 (filling n goal st) (omega arith), le-leb 1 (blocked n goal st) (omega arith))
          (evict (blocked n goal st) i w.0 w.1
          (λ d j g e. false≢true (sym (none_ready z d j) ∙ facts_ready (goal d) (st.cut d) g e)))

  -- ---- where none is ready, each net stands where one is to stand

  pub stuck : ((d : ℕ) → In d n → goal d ≢ 0 → st.cut d ≢ 0) → (c : ℕ) → In c n → goal c ≡ 0 → st.cut c ≡ 0
  stuck taken c i z = by_cases (ℕ_discrete (st.cut c) 0) (λ e. e) (λ ne.
      let holds = pigeonhole (λ b. leb 1 (st.cut b)) n (λ b. leb 1 (goal b)) (λ j d. st.at (goal d)) 1 n met in
      let more = count_within (λ b. leb 1 (goal b)) (λ b. leb 1 (st.cut b)) c n i (lt-leb 1 (goal c) (omega arith))
      (λ d j h. let g = leb-true 1 (goal d) h in le-leb 1 (st.cut d) (omega (arith, taken d j (λ z. omega arith)))) in
      absurd (omega (arith, bit_one (le-leb 1 (st.cut c) (omega arith)))))
    where
      met : (b : ℕ) → In b n → leb 1 (st.cut b) ≡ true
          → (j : ℕ) × (d : ℕ) × In j 1 × In d n × (leb 1 (goal d) ≡ true) × (st.at (goal d) ≡ b)
      met b j h =
          let p = leb-true 1 (st.cut b) h in let ne : st.cut b ≢ 0 = λ e. omega arith in
          let (d, l, q) = k.wanted b j ne in
          (1, d, omega arith, l, le-leb 1 (goal d) (omega arith), ap st.at q ∙ k.at b j ne)

  -- ---- both are moves

  -- a net that stands in column c
  pub place : (c x : ℕ) → In c n → x ≢ 0 → st.cut c ≡ x → st.at x ≡ c
  place c x i ne e = rw e at (k.at c i (λ z. ne (sym e ∙ z)))

  pub fills : (c : ℕ) → In c n → goal c ≢ 0 → st.cut c ≡ 0 → Move n goal st (goal c) c
  fills c i g z =
      let (d, j, e) = k.standing c i g in let p = place d (goal c) j g e in
      record {
        named = g;
        to = i;
        free = z;
        from = omega arith;
        there = ap st.cut p ∙ e;
        two_sided = (c, i, refl);
        room = ⊎_elim (λ r. r) (λ all. absurd (g (sym (all c i) ∙ z))) k.vacant;
        apart = λ b l f h. g (sym f ∙ ap st.cut (sym (k.goal_single c b i l g (sym h))) ∙ z);
        fits = inl refl;
      }

  pub evicts : (c : ℕ) → In c n → st.cut c ≢ 0 → st.cut c ≢ goal c → ((d : ℕ) → In d n → goal d ≢ 0 → st.cut d ≢ 0)
      → Move n goal st (st.cut c) (least (spare goal st.cut) n)
  evicts c i ne w taken =
      let t = least (spare goal st.cut) n in
      let (o, l, z) : (o : ℕ) × In o n × (goal o ≡ 0) = ⊎_elim (λ r. r) (λ all. absurd (w (all c i))) k.vacant in
      let some_spare : t ≢ 0 = λ e. false≢true (sym (least_zero (spare goal st.cut) n o e l)
      ∙ (and-eq-true_iff (eqb (goal o) 0) (eqb (st.cut o) 0)).1 (eq-eqb (goal o) 0 z, eq-eqb (st.cut o) 0 (stuck taken o l z))) in
      let (j, h) = least_in (spare goal st.cut) n t refl some_spare in
      let (g, f) = (and-eq-true_iff (eqb (goal t) 0) (eqb (st.cut t) 0)).0 h in
      let p = place c (st.cut c) i ne refl in
      record {
        named = ne;
        to = j;
        free = eqb-true (st.cut t) 0 f;
        from = omega arith;
        there = ap st.cut p;
        two_sided = k.wanted c i ne;
        room = (o, l, z);
        apart = λ b m e q. w (sym q ∙ ap goal (sym (k.single c b i m ne (sym e))));
        fits = inr (eqb-true (goal t) 0 g);
      }
