-- How near a move brings the end. A net in a column that is to be empty leaves a column to fill, so that nothing need move out of the way;
-- a move out of the way, which is made only where no net stands so, makes one. So two columns get right in three moves.
use Prim.Native.Nat.{ℕ, ◌+◌, ◌*◌, ◌≤◌}
use mathlib.Core.Path.{◌≡◌, refl, sym, ap, ◌∙◌}
use mathlib.Core.Logic.{◌≢◌, by_cases}
use mathlib.Core.Bool.{true, false, false≢true}
use native.Mathlib.Omega.{arith}
use native.Mathlib.Decide.{ℕ_discrete}
use borrow.Author.Tests.{eq-eqb}
use Rattle.counting.specs.Counting.{In, count, least}
use Rattle.counting.proofs.Sums.{bit_one}
use Rattle.two_layer_law.specs.Cuts.{cut_after}
use Rattle.two_layer_law.specs.Moves.{MoveState, ready, wrong, spare, filling, moved, moved_to, next}
use Rattle.two_layer_law.proofs.OneMove.{
  Movable,
  Move,
  shifted,
  Past,
  reached,
  emptied,
  same,
  past,
  kept,
  fewer,
  facts_ready,
  facts_wrong,
}
use Rattle.two_layer_law.proofs.Choices.{Choice, still, fill, evict, choice, stuck, fills, evicts}

-- nothing; a net in a column that is to be empty; and that the next move is of another net, to the column just left
pub data Owed (n : ℕ) (goal : ℕ → ℕ) (st : MoveState) : ℕ → Type 0 where
  none : Owed n goal st 0
  one : (c : ℕ) → In c n → goal c ≡ 0 → st.cut c ≢ 0 → Owed n goal st 1
  two : (c : ℕ) → In c n → goal c ≡ 0 → st.cut c ≢ 0 → ready goal st.cut st.left ≡ true → st.cut c ≢ goal st.left
      → Owed n goal st 2

-- no wrong column: all stand right; and nothing is owed
module _ (n : ℕ) (goal : ℕ → ℕ) (st : MoveState) (k : Movable n goal st) (none_wrong : (c : ℕ) → In c n → wrong goal st.cut c ≡ false) where
  stands : (c : ℕ) → In c n → goal c ≢ 0 → st.cut c ≡ goal c
  stands c i g = by_cases (ℕ_discrete (st.cut c) (goal c)) (λ e. e)
      (λ ne. absurd (false≢true (sym (none_wrong c i) ∙ facts_wrong (goal c) (st.cut c) g ne)))

  pub all_right : (c : ℕ) → In c n → st.cut c ≡ goal c
  all_right c i = by_cases (ℕ_discrete (goal c) 0)
      (λ z. by_cases (ℕ_discrete (st.cut c) 0) (λ e. e ∙ sym z) (λ ne.
      let (d, j, e) = k.wanted c i ne in
      let q = k.single c d i j ne (sym (stands d j (λ y. ne (sym e ∙ y)) ∙ e)) in
      sym (ap goal q ∙ e)))
      (stands c i)

  pub owes_nothing : {m : ℕ} → Owed n goal st m → m ≡ 0
  owes_nothing none = refl
  owes_nothing (one c i z ne) = absurd (ne (all_right c i ∙ z))
  owes_nothing (two c i z ne r o) = absurd (ne (all_right c i ∙ z))

-- all stand right; or net x is moved to column t, and the state st' after it owes m'
pub data Turn (n : ℕ) (goal : ℕ → ℕ) (st : MoveState) (m x t : ℕ) (st' : MoveState) : Type 0 where
  rest : x ≡ 0 → m ≡ 0 → ((c : ℕ) → In c n → st.cut c ≡ goal c) → Turn n goal st m x t st'
  go : (m' : ℕ) → Move n goal st x t → Movable n goal st' → Owed n goal st' m'
      → 3 * count (wrong goal st'.cut) n + 2 + m ≤ 3 * count (wrong goal st.cut) n + m' → Turn n goal st m x t st'

abbrev TurnBy : ℕ → (ℕ → ℕ) → MoveState → ℕ → ℕ → ℕ → Type 0
TurnBy n goal st m x t = Turn n goal st m x t (shifted x t st)

module _ (n : ℕ) (goal : ℕ → ℕ) (st : MoveState) (k : Movable n goal st) where
  -- to its own column: the column just left, if that is owed
  filled : {m : ℕ} (c : ℕ) → filling n goal st ≡ c → In c n → goal c ≢ 0 → st.cut c ≡ 0 → Owed n goal st m → TurnBy n goal st m (goal c) c
  filled c f i g z o = by o
    where
      move : Move n goal st (goal c) c
      move = fills n goal st k c i g z

      moves : Movable n goal (shifted (goal c) c st)
      moves = kept n goal st (goal c) c k move

      gain : count (wrong goal (cut_after (goal c) c st.cut)) n + 1 ≤ count (wrong goal st.cut) n
      gain = omega (arith, fewer n goal st (goal c) c k move, bit_one (facts_wrong (goal c) (st.cut c) g (λ e. g (sym e ∙ z))))

      by : {m : ℕ} → Owed n goal st m → TurnBy n goal st m (goal c) c
      by none = go 0 move moves none (omega (arith, gain))
      by (one d j y ne) = go 0 move moves none (omega (arith, gain))
      by (two d j y ne r o) = go 1 move moves (one d j y (stays (past (goal c) c st.cut d))) (omega (arith, gain))
        where
          at_left : st.left ≡ c
          at_left = rw r at f

          stays : Past (goal c) c st.cut d → cut_after (goal c) c st.cut d ≢ 0
          stays (reached q e) = absurd (g (ap goal (sym q) ∙ y))
          stays (emptied q v e) = absurd (o (v ∙ ap goal (sym at_left)))
          stays (same q v e) = λ u. ne (sym e ∙ u)

  -- out of the way
  evicted : {m : ℕ} (c : ℕ) → In c n → goal c ≢ 0 → st.cut c ≢ goal c → ((d : ℕ) → In d n → goal d ≢ 0 → st.cut d ≢ 0) → Owed n goal st m
      → TurnBy n goal st m (st.cut c) (least (spare goal st.cut) n)
  evicted c i g w taken o =
      go 2 move (kept n goal st x t k move)
      (two t move.to blank (λ e. move.named (sym lies ∙ e)) left_ready (λ e. w (sym lies ∙ e ∙ ap goal left)))
      (omega (arith, fewer n goal st x t k move, nothing o))
    where
      x : ℕ
      x = st.cut c

      t : ℕ
      t = least (spare goal st.cut) n

      move : Move n goal st x t
      move = evicts n goal st k c i (taken c i g) w taken

      nothing : {m : ℕ} → Owed n goal st m → m ≡ 0
      nothing none = refl
      nothing (one d j z ne) = absurd (ne (stuck n goal st k taken d j z))
      nothing (two d j z ne r o) = absurd (ne (stuck n goal st k taken d j z))

      blank : goal t ≡ 0
      blank = by_cases (ℕ_discrete (goal t) 0) (λ z. z) (λ ne. absurd (taken t move.to ne move.free))

      lies : cut_after x t st.cut t ≡ x
      lies = rw (eq-eqb t t refl)

      left : st.at x ≡ c
      left = k.at c i (taken c i g)

      leaves : (d : ℕ) → st.cut d ≡ x → Past x t st.cut d → cut_after x t st.cut d ≡ 0
      leaves d h (reached q e) = absurd (move.named (sym h ∙ ap st.cut q ∙ move.free))
      leaves d h (emptied q v e) = e
      leaves d h (same q v e) = absurd (v h)

      left_ready : ready goal (cut_after x t st.cut) (st.at x) ≡ true
      left_ready = facts_ready (goal (st.at x)) _ (λ z. g (ap goal (sym left) ∙ z))
          (leaves (st.at x) move.there (past x t st.cut (st.at x)))

  turn : {m x t : ℕ} → Owed n goal st m → Choice n goal st x t → TurnBy n goal st m x t
  turn o (still h) = rest refl (owes_nothing n goal st k h o) (all_right n goal st k h)
  turn o (fill c f i g z) = filled c f i g z o
  turn o (evict c i g w taken) = evicted c i g w taken o

  pub next_turn : (m : ℕ) → Owed n goal st m → Turn n goal st m (moved n goal st) (moved_to n goal st) (next n goal st)
  unfolding next
  next_turn m o = turn o (choice n goal st k)
