-- The moves of a movable state bring every net to its column, as operations that run, with at most three moves for two wrong columns: by
-- induction on the moves that may be made, with what a state owes taken off.
use Prim.Native.Nat.{ℕ, zero, suc, ◌+◌, ◌*◌, ◌≤◌, ◌<◌}
use mathlib.Core.Path.{◌≡◌, refl, sym, ap, subst, ◌∙◌}
use mathlib.Core.Logic.{inl, ◌≢◌, by_cases}
use mathlib.Core.Bool.{false}
use native.Mathlib.Omega.{arith}
use native.Mathlib.Decide.{ℕ_discrete}
use borrow.Author.Tests.{ne_eqb, le-leb, lt-leb}
use Rattle.counting.specs.Counting.{In, bit, count}
use Rattle.counting.proofs.Sums.{split, bit_one, sum_part}
use Rattle.two_layer_law.specs.Cuts.{cut_of, row_of, Runs}
use Rattle.two_layer_law.specs.Moves.{MoveState, wrong, moved, moved_to, next, state_at, steps, moves_of}
use Rattle.two_layer_law.proofs.OneMove.{Movable, Move}
use Rattle.two_layer_law.proofs.Choices.{place}
use Rattle.two_layer_law.proofs.Turns.{Owed, none, one, two, all_right, owes_nothing, Turn, rest, go, next_turn}

-- ---- a state and its next move

record Sound (n : ℕ) (goal : ℕ → ℕ) (st : MoveState) : Type 0 where
  movable : Movable n goal st
  move : Move n goal st (moved n goal st) (moved_to n goal st)

module _ (n : ℕ) (goal : ℕ → ℕ) (st : MoveState) where
  -- the states after the first move
  state_next : (s : ℕ) → state_at n goal (next n goal st) s ≡ state_at n goal st (suc s)
  unfolding state_at
  state_next zero = refl
  state_next (suc s) = ap (next n goal) (state_next s)

  state_first : state_at n goal st 0 ≡ st
  unfolding state_at
  state_first = refl

  steps_go : (most : ℕ) → moved n goal st ≢ 0 → steps n goal st (suc most) ≡ suc (steps n goal (next n goal st) most)
  unfolding steps
  steps_go most ne = rw (le-leb 1 (moved n goal st) (omega arith))

  steps_rest : (most : ℕ) → moved n goal st ≡ 0 → steps n goal st (suc most) ≡ 0
  unfolding steps
  steps_rest most z = rw (lt-leb 1 (moved n goal st) (omega arith))

  steps_none : steps n goal st 0 ≡ 0
  unfolding steps
  steps_none = refl

-- ---- all moves

record Course (n : ℕ) (goal : ℕ → ℕ) (st : MoveState) (many m : ℕ) : Type 0 where
  each : (s : ℕ) → s < many → Sound n goal (state_at n goal st s)
  end : (c : ℕ) → In c n → (state_at n goal st many).cut c ≡ goal c
  few : 2 * many + m ≤ 3 * count (wrong goal st.cut) n

module _ (n : ℕ) (goal : ℕ → ℕ) (st : MoveState) where
  -- all stand right
  over : (many m : ℕ) → many ≡ 0 → m ≡ 0 → ((c : ℕ) → In c n → st.cut c ≡ goal c) → Course n goal st many m
  over many m e z right = record {
    each = λ s h. absurd (omega arith);
    end = λ c i. ap (λ (u : ℕ). (state_at n goal st u).cut c) e ∙ ap (λ (u : MoveState). u.cut c) (state_first n goal st) ∙ right c i;
    few = omega arith;
  }

  -- one move, and those after it
  onward : (many m m' : ℕ) → Sound n goal st → Course n goal (next n goal st) many m'
      → 3 * count (wrong goal (next n goal st).cut) n + 2 + m ≤ 3 * count (wrong goal st.cut) n + m' → Course n goal st (suc many) m
  onward many m m' first later near = record {
    each = all;
    end = λ c i. ap (λ (u : MoveState). u.cut c) (sym (state_next n goal st many)) ∙ later.end c i;
    few = omega (arith, later.few);
  }
    where
      all : (s : ℕ) → s < suc many → Sound n goal (state_at n goal st s)
      all zero h = subst (Sound n goal) (sym (state_first n goal st)) first
      all (suc s) h = subst (Sound n goal) (state_next n goal st s) (later.each s (omega arith))

  -- no move may be made: nothing is wrong, since what is owed is less than three
  at_once : (m : ℕ) → Movable n goal st → Owed n goal st m → 3 * count (wrong goal st.cut) n ≤ m → Course n goal st (steps n goal st 0) m
  at_once m k o h =
      over (steps n goal st 0) m (steps_none n goal st) (owes_nothing n goal st k none_wrong o) (all_right n goal st k none_wrong)
    where
      small : {m : ℕ} → Owed n goal st m → m ≤ 2
      small none = omega arith
      small (one c i z ne) = omega arith
      small (two c i z ne r u) = omega arith

      none_wrong : (c : ℕ) → In c n → wrong goal st.cut c ≡ false
      none_wrong c i = split (wrong goal st.cut c)
          (λ w. absurd (omega (arith, small o, bit_one w, sum_part (λ c. bit (wrong goal st.cut c)) c n i))) (λ w. w)

  -- the next move, with `later` for those after it
  by_turn : (most m : ℕ) → Movable n goal st → 3 * count (wrong goal st.cut) n ≤ 2 * suc most + m
      → ((m' : ℕ) → Movable n goal (next n goal st) → Owed n goal (next n goal st) m'
      → 3 * count (wrong goal (next n goal st).cut) n ≤ 2 * most + m'
      → Course n goal (next n goal st) (steps n goal (next n goal st) most) m')
      → Turn n goal st m (moved n goal st) (moved_to n goal st) (next n goal st) → Course n goal st (steps n goal st (suc most)) m
  by_turn most m k h later (rest e z right) = over (steps n goal st (suc most)) m (steps_rest n goal st most e) z right
  by_turn most m k h later (go m' move k' o' near) =
      rw (steps_go n goal st most move.named)
      (onward (steps n goal (next n goal st) most) m m' (record { movable = k; move = move }) (later m' k' o' (omega arith)) near)

course : (n : ℕ) (goal : ℕ → ℕ) (most : ℕ) (st : MoveState) (m : ℕ) → Movable n goal st → Owed n goal st m
    → 3 * count (wrong goal st.cut) n ≤ 2 * most + m → Course n goal st (steps n goal st most) m
course n goal zero st m k o h = at_once n goal st m k o (omega arith)
course n goal (suc most) st m k o h =
    by_turn n goal st most m k h (λ m'. course n goal most (next n goal st) m') (next_turn n goal st k m o)

-- ---- the moves as operations

-- `many` moves from the state: they run, every net goes to a column and is a net of both sides, and all stand right at the end
pub record Brought (n : ℕ) (goal : ℕ → ℕ) (st : MoveState) (many : ℕ) : Type 0 where
  pub runs : Runs n st.cut (moves_of n goal st many)
  pub somewhere : (s : ℕ) → s < many → 1 ≤ moved_to n goal (state_at n goal st s)
  pub two_sided : (s : ℕ) → s < many → (c : ℕ) × In c n × (goal c ≡ moved n goal (state_at n goal st s))
  pub done : (c : ℕ) → In c n → cut_of (moves_of n goal st many) st.cut many c ≡ goal c
  pub few : 2 * many ≤ 3 * count (wrong goal st.cut) n

-- the cut after s operations is the state's
cut_state : (n : ℕ) (goal : ℕ → ℕ) (st : MoveState) (many s c : ℕ) → cut_of (moves_of n goal st many) st.cut s c ≡ (state_at n goal st s).cut c
unfolding cut_of state_at next
cut_state n goal st many zero c = refl
cut_state n goal st many (suc s) c = rw (cut_state n goal st many s c)

module _ (n : ℕ) (goal : ℕ → ℕ) (st : MoveState) (many : ℕ) (k : Course n goal st many 0) where
  brought : Brought n goal st many
  brought = record {
    runs = record {
      named = λ s h. (k.each s h).move.named;
      column = λ s h. (k.each s h).move.to.1;
      free = λ s h l. inl (cut_state n goal st many s _ ∙ (k.each s h).move.free);
      there = λ s h. (_, (k.each s h).move.from, cut_state n goal st many s _ ∙ (k.each s h).move.there);
      ends = λ s h. omega (arith, (k.each s h).move.from, (k.each s h).move.to);
      reaches = λ s c h i e. spans s c i (k.each s h) e;
    };
    somewhere = λ s h. (k.each s h).move.to.0;
    two_sided = λ s h. (k.each s h).move.two_sided;
    done = λ c i. cut_state n goal st many many c ∙ k.end c i;
    few = omega (arith, k.few);
  }
    where
      spans : (s c : ℕ) → In c n → Sound n goal (state_at n goal st s)
          → row_of (moves_of n goal st many) st.cut s c ≡ (moves_of n goal st many).net s
          → ((moves_of n goal st many).low s ≤ c) × (c ≤ (moves_of n goal st many).high s)
      spans s c i d e = by_cases (ℕ_discrete c ((moves_of n goal st many).to s)) (λ q. omega arith)
          (λ ne. let f = sym (cut_state n goal st many s c) ∙ (rw (ne_eqb c ((moves_of n goal st many).to s) ne) at e) in
          let q = place n goal _ d.movable c _ i d.move.named f in omega arith)

pub moving : (n : ℕ) (goal : ℕ → ℕ) (st : MoveState) (most : ℕ) → Movable n goal st → 3 * count (wrong goal st.cut) n ≤ 2 * most
    → Brought n goal st (steps n goal st most)
moving n goal st most k h = brought n goal st (steps n goal st most) (course n goal most st 0 k none (omega arith))
