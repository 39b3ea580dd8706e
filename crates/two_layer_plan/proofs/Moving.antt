-- Moves depend on a state only as far as rows and tables tell it; so the code makes the moves of the definition, one after the other.
use Prim.Native.Nat.{ℕ, zero, suc, ◌+◌, ◌-◌, ◌≤◌, ◌<◌, min, max}
use mathlib.Core.Path.{◌≡◌, refl, sym, ap, ◌∙◌}
use mathlib.Core.Logic.{◌≢◌, by_cases}
use mathlib.Core.List.{List, [], ◌∷◌, ◌++◌}
use mathlib.Core.Bool.{Bool, true, false, cond, not, and-eq-true_iff, false≢true}
use native.Mathlib.Omega.{arith}
use native.Mathlib.Decide.{ℕ_discrete}
use lib.Dec.{eqb, leb}
use lib.ListN.{length, get_or, set, length-append}
use lib.Seq.{get_or-set_same, get_or-set_other}
use borrow.Author.Tests.{eq-eqb, ne_eqb, le-leb, leb-true}
use Rattle.terms.specs.Limits.{byte_values, longest_side}
use Rattle.counting.specs.Counting.{In, least}
use Rattle.two_layer_law.specs.Cuts.{cut_after}
use Rattle.two_layer_law.specs.Moves.{MoveState, ready, wrong, spare, filling, blocked, moved, moved_to, next}
use Rattle.two_layer_law.specs.Moves.{state_at, steps, moves_of, most_moves}
use Rattle.two_layer_cuts.specs.Rows.{ops_of, item, Row}
use Rattle.two_layer_plan.specs.States.{state_of, Agree, Moved}
use Rattle.two_layer_cuts.specs.declared.Operation.{Operation}
use Rattle.two_layer_law.specs.Cuts.{Same}
use Rattle.counting.proofs.Leasts.{least_le, least_same, least_in, least_zero}
use Rattle.two_layer_gather.proofs.Listing.{Held, held_none, held_more}

cond_with : {b b' : Bool} {x x' y y' : ℕ} → b ≡ b' → x ≡ x' → y ≡ y' → cond b x y ≡ cond b' x' y'
cond_with e f g = rw (e, f, g)

-- ---- states that agree

module _ (n : ℕ) (goal goal' : ℕ → ℕ) (same : (c : ℕ) → c ≤ n → goal c ≡ goal' c) (st st' : MoveState) (h : Agree n st st')
    (l : st.left ≤ n) where
  ready_same : (c : ℕ) → c ≤ n → ready goal st.cut c ≡ ready goal' st'.cut c
  ready_same c b = rw (same c b, h.cuts c b)

  wrong_same : (c : ℕ) → c ≤ n → wrong goal st.cut c ≡ wrong goal' st'.cut c
  wrong_same c b = rw (same c b, h.cuts c b)

  spare_same : (c : ℕ) → c ≤ n → spare goal st.cut c ≡ spare goal' st'.cut c
  spare_same c b = rw (same c b, h.cuts c b)

  filling_same : filling n goal st ≡ filling n goal' st'
  filling_same = cond_with (ready_same st.left l ∙ ap (ready goal' st'.cut) h.lefts) h.lefts
      (least_same (ready goal st.cut) (ready goal' st'.cut) n (λ c i. ready_same c i.1))

  blocked_same : blocked n goal st ≡ blocked n goal' st'
  blocked_same = least_same (wrong goal st.cut) (wrong goal' st'.cut) n (λ c i. wrong_same c i.1)

  cond_le : (b : Bool) (x y : ℕ) → x ≤ n → y ≤ n → cond b x y ≤ n
  cond_le true x y i j = i
  cond_le false x y i j = j

  filling_le : filling n goal st ≤ n
  filling_le = cond_le (ready goal st.cut st.left) st.left _ l (least_le (ready goal st.cut) n)

  pub to_le : moved_to n goal st ≤ n
  to_le = cond_le (leb 1 (filling n goal st)) (filling n goal st) _ filling_le (least_le (spare goal st.cut) n)

  pub moved_same : moved n goal st ≡ moved n goal' st'
  moved_same = cond_with (ap (leb 1) filling_same) (same (filling n goal st) filling_le ∙ ap goal' filling_same)
      (cond_with (ap (leb 1) blocked_same)
      (h.cuts (blocked n goal st) (least_le (wrong goal st.cut) n) ∙ ap st'.cut blocked_same) refl)

  pub to_same : moved_to n goal st ≡ moved_to n goal' st'
  to_same = cond_with (ap (leb 1) filling_same) filling_same
      (least_same (spare goal st.cut) (spare goal' st'.cut) n (λ c i. spare_same c i.1))

  pub next_same : moved n goal st < byte_values → Agree n (next n goal st) (next n goal' st')
  unfolding next
  next_same small = record {
    cuts = λ c b. cond_with (ap (eqb c) to_same) moved_same (cond_with (both_same (h.cuts c b) moved_same) refl (h.cuts c b));
    ats = λ m b. cond_with (ap (eqb m) moved_same) to_same (h.ats m b);
    lefts = h.ats (moved n goal st) small ∙ ap st'.at moved_same;
  }
    where
      both_same : {x x' y y' : ℕ} → x ≡ x' → y ≡ y' → eqb x y ≡ eqb x' y'
      both_same e f = rw (e, f)

agree_then : {n : ℕ} {st st' st'' : MoveState} → Agree n st st' → Agree n st' st'' → Agree n st st''
agree_then h k = record { cuts = λ c b. h.cuts c b ∙ k.cuts c b; ats = λ m b. h.ats m b ∙ k.ats m b; lefts = h.lefts ∙ k.lefts }

-- ---- the next move

module _ (n : ℕ) (goal cut at : ℕ → ℕ) (left : ℕ) where
  abbrev now : MoveState
  now = record { cut = cut; at = at; left = left }

  wanted : (f : ℕ) → ready goal cut f ≡ true → goal f ≢ 0
  wanted f r z = absurd (omega (arith, leb-true 1 (goal f) ((and-eq-true_iff (leb 1 (goal f)) (eqb (cut f) 0)).0 r).0))

  filled : (f : ℕ) → 1 ≤ f → ready goal cut f ≡ true → filling n goal now ≡ f → Moved n goal cut at left (goal f) f
  filled f l r e = record { net = rw (e, le-leb 1 f l); column = rw (e, le-leb 1 f l); some = wanted f r }

  pub next_first : (f : ℕ) → ready goal cut left ≡ false → least (ready goal cut) n ≡ f → 1 ≤ f → Moved n goal cut at left (goal f) f
  next_first f r e l = filled f l (least_in (ready goal cut) n f e (λ z. omega arith)).1 (rw (r, e))

-- a column that is wrong and not ready holds a net
pub wrong_held : (n : ℕ) (goal cut : ℕ → ℕ) (c : ℕ) → In c n → least (wrong goal cut) n ≡ c → least (ready goal cut) n ≡ 0 → cut c ≢ 0
wrong_held n goal cut c i e none z =
    let w = (least_in (wrong goal cut) n c e (λ q. omega arith)).1 in
    let r = least_zero (ready goal cut) n c none i in
    absurd (false≢true (sym r ∙ rw (eq-eqb (cut c) 0 z, ((and-eq-true_iff (leb 1 (goal c)) (not (eqb (cut c) (goal c)))).0 w).0)))

-- ---- the moves made

pub record MoveOf (n : ℕ) (goal : ℕ → ℕ) (st : MoveState) (s : ℕ) (o : Operation) : Type 0 where
  pub net : o.net ≡ moved n goal (state_at n goal st s)
  pub to : o.to ≡ moved_to n goal (state_at n goal st s)
  pub low : o.low ≡ min ((state_at n goal st s).at (moved n goal (state_at n goal st s))) (moved_to n goal (state_at n goal st s))
  pub high : o.high ≡ max ((state_at n goal st s).at (moved n goal (state_at n goal st s))) (moved_to n goal (state_at n goal st s))

-- after these moves; with the moves still allowed they are as many as there are from the start
pub record Moving (n : ℕ) (goal : ℕ → ℕ) (st : MoveState) (made : List Operation) (cut at : List ℕ) (left : ℕ) : Type 0 where
  pub agree : Agree n (state_at n goal st (length made)) (state_of cut at left)
  pub held : Held (MoveOf n goal st) made
  pub rest : (f : ℕ) → length made + f ≡ most_moves
      → length made + steps n goal (state_at n goal st (length made)) f ≡ steps n goal st most_moves

module _ (n : ℕ) (goal : ℕ → ℕ) (st : MoveState) where
  pub moving_none : (cut at : List ℕ) → Agree n st (state_of cut at 0) → Moving n goal st [] cut at 0
  unfolding state_at
  moving_none cut at h = record {
    agree = h;
    held = held_none _;
    rest = λ f e. (let q : f ≡ most_moves = omega arith in rw q (omega arith));
  }

  stopped : (u : MoveState) → moved n goal u ≡ 0 → (f : ℕ) → steps n goal u f ≡ 0
  unfolding steps
  stopped u z zero = refl
  stopped u z (suc f) = rw z

  module _ (made : List Operation) (cut at : List ℕ) (left : ℕ) (m : Moving n goal st made cut at left) where
    same_moves : length made ≡ steps n goal st most_moves → Same (ops_of made) (moves_of n goal st (steps n goal st most_moves))
    same_moves e = record {
      many = e;
      nets = λ k l. (m.held.is k l).net;
      tos = λ k l. (m.held.is k l).to;
      lows = λ k l. (m.held.is k l).low;
      highs = λ k l. (m.held.is k l).high;
    }

    -- no more moves are allowed
    pub moving_full : length made ≡ most_moves → Same (ops_of made) (moves_of n goal st (steps n goal st most_moves))
    unfolding steps
    moving_full e = same_moves (let r = m.rest 0 (omega arith) in omega arith)

    module _ (row : List ℕ) (is : Row n goal row) (inside : left ≤ n) where
      here : (state_at n goal st (length made)).left ≤ n
      here = omega (arith, m.agree.lefts)

      same : (c : ℕ) → c ≤ n → goal c ≡ item row c
      same c b = sym (is.is c b)

      net_same : moved n goal (state_at n goal st (length made)) ≡ moved n (item row) (state_of cut at left)
      net_same = moved_same n goal (item row) same (state_at n goal st (length made)) (state_of cut at left) m.agree here

      -- all nets stand right
      pub moving_done : length made ≤ most_moves → moved n (item row) (state_of cut at left) ≡ 0
          → Same (ops_of made) (moves_of n goal st (steps n goal st most_moves))
      moving_done l z = same_moves (let r = m.rest (most_moves - length made) (omega arith) in
          omega (arith, stopped (state_at n goal st (length made)) (net_same ∙ z) (most_moves - length made)))

      module _ (x t : ℕ) (new : Moved n (item row) (item cut) (item at) left x t) where
        net_is : moved n goal (state_at n goal st (length made)) ≡ x
        net_is = net_same ∙ sym new.net

        to_is : moved_to n goal (state_at n goal st (length made)) ≡ t
        to_is = to_same n goal (item row) same (state_at n goal st (length made)) (state_of cut at left) m.agree here ∙ sym new.column

        one_move : length made < most_moves → n ≤ longest_side → x < byte_values → length at ≡ byte_values
            → (cut' : List ℕ) → Row longest_side (cut_after x t (item cut)) cut' → (o : Operation) → o.net ≡ x → o.to ≡ t
            → o.low ≡ min (get_or at x 0) t → o.high ≡ max (get_or at x 0) t
            → Moving n goal st (made ++ o ∷ []) cut' (set at x t) (get_or at x 0)
        unfolding state_at steps next
        one_move few short small room cut' row' o eo et el eh = record {
          agree = rw one_longer (agree_then
              (next_same n goal (item row) same (state_at n goal st (length made)) (state_of cut at left) m.agree here
              (omega (arith, net_is)))
              stored);
          held = held_more (MoveOf n goal st) made o m.held (record {
            net = eo ∙ sym net_is;
            to = et ∙ sym to_is;
            low = el ∙ ends min;
            high = eh ∙ ends max;
          });
          rest = rw one_longer (λ f e. (let r = m.rest (suc f) (omega arith) in omega (arith, r, one_more f)));
        }
          where
            one_longer : length (made ++ o ∷ []) ≡ suc (length made)
            one_longer = omega (arith, length-append made (o ∷ []))

            one_more : (f : ℕ) → steps n goal (state_at n goal st (length made)) (suc f)
                ≡ suc (steps n goal (next n goal (state_at n goal st (length made))) f)
            one_more f = rw (le-leb 1 (moved n goal (state_at n goal st (length made))) (omega (arith, net_is, new.some)))

            ends : (g : ℕ → ℕ → ℕ) → g (get_or at x 0) t
                ≡ g ((state_at n goal st (length made)).at (moved n goal (state_at n goal st (length made))))
                (moved_to n goal (state_at n goal st (length made)))
            ends g =
                ap (λ (k : ℕ). g k t) (sym (m.agree.ats x small) ∙ ap (state_at n goal st (length made)).at (sym net_is))
                ∙ ap (g ((state_at n goal st (length made)).at (moved n goal (state_at n goal st (length made))))) (sym to_is)

            stored : Agree n (next n (item row) (state_of cut at left)) (state_of cut' (set at x t) (get_or at x 0))
            stored = record {
              cuts = λ c b. rw (← new.net, ← new.column) (sym (row'.is c (omega arith)));
              ats = λ k b. rw (← new.net, ← new.column) (by_cases (ℕ_discrete k x)
                  (λ e. rw (e, eq-eqb x x refl) (sym (get_or-set_same at x t 0 (omega arith))))
                  (λ d. rw (ne_eqb k x d) (sym (get_or-set_other at x k t 0 d))));
              lefts = ap (item at) (sym new.net);
            }

        -- k is the net as the place of its entry, and the column from which it is moved is read there
        pub moving_more : length made < most_moves → n ≤ longest_side → length at ≡ byte_values → (k from : ℕ) → k ≡ x → k < byte_values
            → from ≡ get_or at k 0 → (cut' : List ℕ) → Row longest_side (cut_after x t (item cut)) cut' → (o : Operation) → o.net ≡ x
            → o.to ≡ t → o.low ≡ min (get_or at k 0) t → o.high ≡ max (get_or at k 0) t
            → Moving n goal st (made ++ o ∷ []) cut' (set at k t) from
        moving_more few short room k from ek small ef cut' row' o eo et el eh =
            rw (ef, ek) (one_move few short (omega arith) room cut' row' o eo et (rw ek at el) (rw ek at eh))

-- every net's column stays one of the channel's
pub next_le : (n : ℕ) (goal cut at : ℕ → ℕ) (left x t : ℕ) → left ≤ n → Moved n goal cut at left x t → t ≤ n
next_le n goal cut at left x t l new =
    rw new.column (to_le n goal goal (λ c b. refl) (record { cut = cut; at = at; left = left }) _ same_state l)
  where
    same_state : Agree n (record { cut = cut; at = at; left = left }) (record { cut = cut; at = at; left = left })
    same_state = record { cuts = λ c b. refl; ats = λ k b. refl; lefts = refl }

pub near_more : (n : ℕ) (at : List ℕ) (k t : ℕ) → length at ≡ byte_values → k < byte_values → t ≤ n → ((m : ℕ) → get_or at m 0 ≤ n)
    → (m : ℕ) → get_or (set at k t) m 0 ≤ n
near_more n at k t room small l h m = by_cases (ℕ_discrete m k)
    (λ e. rw (e, get_or-set_same at k t 0 (omega arith)) l)
    (λ d. rw (get_or-set_other at k m t 0 d) (h m))
