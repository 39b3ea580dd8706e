-- One move of a net to an empty column: the nets still stand in one column each, and no more columns are wrong than before. By cases on
-- a column: the one moved to, the one left, and the others.
use Prim.Native.Nat.{ℕ, ◌+◌, ◌≤◌}
use mathlib.Core.Path.{◌≡◌, refl, sym, ap, ◌∙◌}
use mathlib.Core.Logic.{◌⊎◌, inl, inr, ◌≢◌, by_cases}
use mathlib.Core.Bool.{true, false, cond, not, ◌&&◌, and-eq-true_iff}
use native.Mathlib.Omega.{arith}
use native.Mathlib.Decide.{ℕ_discrete}
use lib.Dec.{eqb, leb}
use borrow.Author.Tests.{eqb-true, eqb-false, eq-eqb, ne_eqb, leb-true, le-leb, not-true}
use Rattle.counting.specs.Counting.{In, bit, count}
use Rattle.counting.proofs.Sums.{split}
use Rattle.two_layer_law.specs.Cuts.{cut_after}
use Rattle.two_layer_law.specs.Moves.{MoveState, wrong}
use Rattle.counting.proofs.Tests.{count_within}

-- the nets of the cut are those of the goal, each in one column of either; `at` finds them; and a column stays empty, or all stand right
pub record Movable (n : ℕ) (goal : ℕ → ℕ) (st : MoveState) : Type 0 where
  pub single : (c d : ℕ) → In c n → In d n → st.cut c ≢ 0 → st.cut c ≡ st.cut d → c ≡ d
  pub goal_single : (c d : ℕ) → In c n → In d n → goal c ≢ 0 → goal c ≡ goal d → c ≡ d
  pub wanted : (c : ℕ) → In c n → st.cut c ≢ 0 → (d : ℕ) × In d n × (goal d ≡ st.cut c)
  pub standing : (d : ℕ) → In d n → goal d ≢ 0 → (c : ℕ) × In c n × (st.cut c ≡ goal d)
  pub at : (c : ℕ) → In c n → st.cut c ≢ 0 → st.at (st.cut c) ≡ c
  pub left : st.left ≤ n
  pub blank : goal 0 ≡ 0
  pub vacant : ((c : ℕ) × In c n × (goal c ≡ 0)) ⊎ ((c : ℕ) → In c n → st.cut c ≡ goal c)

-- net x, which does not stand right, may be moved to column t, which is empty and stays so or is to get x
pub record Move (n : ℕ) (goal : ℕ → ℕ) (st : MoveState) (x t : ℕ) : Type 0 where
  pub named : x ≢ 0
  pub to : In t n
  pub free : st.cut t ≡ 0
  pub from : In (st.at x) n
  pub there : st.cut (st.at x) ≡ x
  pub two_sided : (c : ℕ) × In c n × (goal c ≡ x)
  pub room : (c : ℕ) × In c n × (goal c ≡ 0)
  pub apart : (c : ℕ) → In c n → st.cut c ≡ x → goal c ≢ x
  pub fits : (goal t ≡ x) ⊎ (goal t ≡ 0)

abbrev pub shifted : ℕ → ℕ → MoveState → MoveState
shifted x t st = record { cut = cut_after x t st.cut; at = λ m. cond (eqb m x) t (st.at m); left = st.at x }

-- ---- the tests on a column, as facts

pub ready_facts : (g k : ℕ) → (leb 1 g && eqb k 0) ≡ true → (g ≢ 0) × (k ≡ 0)
ready_facts g k e =
    let (a, b) = (and-eq-true_iff (leb 1 g) (eqb k 0)).0 e in let one = leb-true 1 g a in (λ z. omega arith, eqb-true k 0 b)

pub facts_ready : (g k : ℕ) → g ≢ 0 → k ≡ 0 → (leb 1 g && eqb k 0) ≡ true
facts_ready g k ne z = (and-eq-true_iff (leb 1 g) (eqb k 0)).1 (le-leb 1 g (omega arith), eq-eqb k 0 z)

pub wrong_facts : (g k : ℕ) → (leb 1 g && not (eqb k g)) ≡ true → (g ≢ 0) × (k ≢ g)
wrong_facts g k e =
    let (a, b) = (and-eq-true_iff (leb 1 g) (not (eqb k g))).0 e in
    let one = leb-true 1 g a in (λ z. omega arith, eqb-false k g (not-true (eqb k g) b))

pub facts_wrong : (g k : ℕ) → g ≢ 0 → k ≢ g → (leb 1 g && not (eqb k g)) ≡ true
facts_wrong g k ne d = (and-eq-true_iff (leb 1 g) (not (eqb k g))).1 (le-leb 1 g (omega arith), ap not (ne_eqb k g d))

-- ---- a column past the move

pub data Past (x t : ℕ) (cut : ℕ → ℕ) (c : ℕ) : Type 0 where
  reached : c ≡ t → cut_after x t cut c ≡ x → Past x t cut c
  emptied : c ≢ t → cut c ≡ x → cut_after x t cut c ≡ 0 → Past x t cut c
  same : c ≢ t → cut c ≢ x → cut_after x t cut c ≡ cut c → Past x t cut c

pub past : (x t : ℕ) (cut : ℕ → ℕ) (c : ℕ) → Past x t cut c
past x t cut c =
    by_cases (ℕ_discrete c t)
    (λ q. reached q (rw (eq-eqb c t q)))
    (λ ne. by_cases (ℕ_discrete (cut c) x)
    (λ q. emptied ne q (rw (ne_eqb c t ne, eq-eqb (cut c) x q)))
    (λ nx. same ne nx (rw (ne_eqb c t ne, ne_eqb (cut c) x nx))))

module _ (n : ℕ) (goal : ℕ → ℕ) (st : MoveState) (x t : ℕ) (k : Movable n goal st) (m : Move n goal st x t) where
  pub kept : Movable n goal (shifted x t st)
  kept = record {
    single = λ c d i j. alone c d i j (past x t st.cut c) (past x t st.cut d);
    goal_single = k.goal_single;
    wanted = λ c i. sought c i (past x t st.cut c);
    standing = stands;
    at = λ c i. found c i (past x t st.cut c);
    left = m.from.1;
    blank = k.blank;
    vacant = inl m.room;
  }
    where
      cut' : ℕ → ℕ
      cut' = cut_after x t st.cut

      alone : (c d : ℕ) → In c n → In d n → Past x t st.cut c → Past x t st.cut d → cut' c ≢ 0 → cut' c ≡ cut' d → c ≡ d
      alone c d i j (reached q e) (reached r f) ne s = omega arith
      alone c d i j (reached q e) (emptied r w f) ne s = absurd (ne (s ∙ f))
      alone c d i j (reached q e) (same r w f) ne s = absurd (w (sym f ∙ sym s ∙ e))
      alone c d i j (emptied q w e) p ne s = absurd (ne e)
      alone c d i j (same q w e) (reached r f) ne s = absurd (w (sym e ∙ s ∙ f))
      alone c d i j (same q w e) (emptied r v f) ne s = absurd (ne (s ∙ f))
      alone c d i j (same q w e) (same r v f) ne s = k.single c d i j (λ z. ne (e ∙ z)) (sym e ∙ s ∙ f)

      sought : (c : ℕ) → In c n → Past x t st.cut c → cut' c ≢ 0 → (d : ℕ) × In d n × (goal d ≡ cut' c)
      sought c i (reached q e) ne = let (d, j, s) = m.two_sided in (d, j, s ∙ sym e)
      sought c i (emptied q w e) ne = absurd (ne e)
      sought c i (same q w e) ne = let (d, j, s) = k.wanted c i (λ z. ne (e ∙ z)) in (d, j, s ∙ sym e)

      stands : (d : ℕ) → In d n → goal d ≢ 0 → (c : ℕ) × In c n × (cut' c ≡ goal d)
      stands d j ne = by_cases (ℕ_discrete (goal d) x)
          (λ q. (t, m.to, rw (eq-eqb t t refl) (sym q)))
          (λ nx. let (c, i, e) = k.standing d j ne in (c, i, stay nx c e (past x t st.cut c)))
        where
          stay : goal d ≢ x → (c : ℕ) → st.cut c ≡ goal d → Past x t st.cut c → cut' c ≡ goal d
          stay nx c e (reached q f) = absurd (ne (sym e ∙ ap st.cut q ∙ m.free))
          stay nx c e (emptied q w f) = absurd (nx (sym e ∙ w))
          stay nx c e (same q w f) = f ∙ e

      found : (c : ℕ) → In c n → Past x t st.cut c → cut' c ≢ 0 → cond (eqb (cut' c) x) t (st.at (cut' c)) ≡ c
      found c i (reached q e) ne = rw (eq-eqb (cut' c) x e) (sym q)
      found c i (emptied q w e) ne = absurd (ne e)
      found c i (same q w e) ne = rw (ne_eqb (cut' c) x (λ z. w (sym e ∙ z))) (ap st.at e ∙ k.at c i (λ z. ne (e ∙ z)))

  -- column t was wrong, if at all, and is not any more
  pub fewer : count (wrong goal (cut_after x t st.cut)) n + bit (wrong goal st.cut t) ≤ count (wrong goal st.cut) n
  fewer = count_within (wrong goal (cut_after x t st.cut)) (wrong goal st.cut) t n m.to right
      (λ c i h. let (g, w) = wrong_facts (goal c) _ h in facts_wrong (goal c) (st.cut c) g (before c i g w (past x t st.cut c)))
    where
      right : wrong goal (cut_after x t st.cut) t ≡ false
      right = split (wrong goal (cut_after x t st.cut) t) (λ h. absurd (never (wrong_facts (goal t) _ h) m.fits)) (λ h. h)
        where
          never : (goal t ≢ 0) × (cut_after x t st.cut t ≢ goal t) → (goal t ≡ x) ⊎ (goal t ≡ 0) → ⊥
          never (g, w) (inl q) = w (rw (eq-eqb t t refl) (sym q))
          never (g, w) (inr z) = g z

      before : (c : ℕ) → In c n → goal c ≢ 0 → cut_after x t st.cut c ≢ goal c → Past x t st.cut c → st.cut c ≢ goal c
      before c i g w (reached q e) z = g (sym z ∙ ap st.cut q ∙ m.free)
      before c i g w (emptied q v e) z = m.apart c i v (sym z ∙ v)
      before c i g w (same q v e) z = w (e ∙ z)
