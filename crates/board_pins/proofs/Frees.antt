-- The tests on pins as definitions say them: whether a net is there, from the four sides; whether a place is free, from its own side; and
-- what is free once a net stands at the first places of a list.
use Prim.Native.Nat.{ℕ, ◌-◌, ◌≤◌}
use mathlib.Core.Path.{◌≡◌, refl, sym, ap, ◌∙◌}
use mathlib.Core.Bool.{Bool, true, false, cond, not, ◌&&◌, ◌||◌, or-true, and-true, and-false, and-eq-true_iff, true≢false}
use mathlib.Core.List.{List, [], ◌∷◌, ◌++◌}
use native.Mathlib.Omega.{arith}
use lib.Dec.{eqb}
use borrow.Author.Tests.{eq-eqb, ne_eqb, eqb-true, leb-true, le-leb}
use Rattle.counting.specs.Counting.{In, some}
use Rattle.counting.proofs.Counts.{some_in, some_of}
use Rattle.counting.proofs.Sums.{split}
use Rattle.terms.specs.Limits.{longest_side, largest_net, within}
use Rattle.terms.specs.Kinds.{Side, north, south, west, east, by_kind, is_kind, has_side}
use Rattle.terms.proofs.Laws.{within_in, Known, is_row, is_channel, is_box, is_two_layer, known, no_kind}
use Rattle.grid.specs.Grid.{places, upright}
use Rattle.grid.specs.Legal.{Pins}
use Rattle.problem.specs.declared.Problem.{Problem}
use Rattle.problem.specs.Problem.{pin_count, width_of, shape_of}
use Rattle.problem.proofs.Pinned.{pinned, a_pin}
use Rattle.board_law.specs.Places.{place_number, side_in, place_in, is_place, listed}
use Rattle.board_law.specs.Edits.{is_there, is_free, with_net}
use Rattle.board_law.proofs.Places.{number_back, is_place_lem, listed_none, listed_last}

-- ---- whether a net is there

module _ (p : Pins) (m : ℕ) where
  abbrev on_side : Side → Bool
  on_side s = some (λ a. eqb (p s a) m) longest_side

  one_side : (s : Side) → on_side s ≡ true → is_there p m ≡ true
  one_side s e =
      let (a, i, h) = some_in (λ a. eqb (p s a) m) longest_side e in le-leb 1 (pin_count p m) (pinned p m s a i (eqb-true (p s a) m h))

  a_side : is_there p m ≡ true → (s : Side) × (on_side s ≡ true)
  a_side e =
      let (s, a, i, h) = a_pin p m (leb-true 1 (pin_count p m) e) in (s, some_of (λ a. eqb (p s a) m) longest_side a i (eq-eqb (p s a) m h))

  pub found : ((on_side north || on_side south) || on_side west) || on_side east ≡ is_there p m
  found = split (is_there p m) (λ e. some_true (a_side e) ∙ sym e)
      (λ e. all_false (none e north) (none e south) (none e west) (none e east) ∙ sym e)
    where
      none : is_there p m ≡ false → (s : Side) → on_side s ≡ false
      none e s = split (on_side s) (λ on. absurd (true≢false (sym (one_side s on) ∙ e))) (λ off. off)

      some_true : (s : Side) × (on_side s ≡ true) → ((on_side north || on_side south) || on_side west) || on_side east ≡ true
      some_true (north, e) = rw e
      some_true (south, e) = rw (e, or-true (on_side north))
      some_true (west, e) = rw (e, or-true (on_side north || on_side south))
      some_true (east, e) = rw (e, or-true ((on_side north || on_side south) || on_side west))

      all_false : on_side north ≡ false → on_side south ≡ false → on_side west ≡ false → on_side east ≡ false
          → ((on_side north || on_side south) || on_side west) || on_side east ≡ false
      all_false a b c d = rw (a, b, c, d)

-- ---- whether a place is free

within_none : (x : ℕ) → within x 0 ≡ false
within_none x = split (within x 0) (λ e. absurd (omega (arith, within_in x 0 e))) (λ e. e)

-- how many places a side has, none where the kind lacks it
abbrev pub side_places : ℕ → ℕ → ℕ → Side → ℕ
side_places kind n byte2 north = by_kind kind 0 n n n n
side_places kind n byte2 south = by_kind kind 0 0 n n n
side_places kind n byte2 west = by_kind kind 0 0 0 byte2 0
side_places kind n byte2 east = by_kind kind 0 0 0 byte2 0

module _ (n byte2 x : ℕ) where
  abbrev Counted : ℕ → Side → Type 0
  Counted kind s = has_side kind s && within x (places (upright n (by_kind kind 1 1 1 byte2 1) 1) s) ≡ within x (side_places kind n byte2 s)

  on_known : {kind : ℕ} → Known kind → (s : Side) → Counted kind s
  on_known is_row north = refl
  on_known is_row south = sym (within_none x)
  on_known is_row west = sym (within_none x)
  on_known is_row east = sym (within_none x)
  on_known is_channel north = refl
  on_known is_channel south = refl
  on_known is_channel west = sym (within_none x)
  on_known is_channel east = sym (within_none x)
  on_known is_box north = refl
  on_known is_box south = refl
  on_known is_box west = refl
  on_known is_box east = refl
  on_known is_two_layer north = refl
  on_known is_two_layer south = refl
  on_known is_two_layer west = sym (within_none x)
  on_known is_two_layer east = sym (within_none x)

  on_none : (kind : ℕ) → is_kind kind ≡ false → (s : Side) → Counted kind s
  on_none kind e north = rw (no_kind kind false true true true true e, no_kind kind 0 n n n n e) (sym (within_none x))
  on_none kind e south = rw (no_kind kind false false true true true e, no_kind kind 0 0 n n n e) (sym (within_none x))
  on_none kind e west = rw (no_kind kind false false false true false e, no_kind kind 0 0 0 byte2 0 e) (sym (within_none x))
  on_none kind e east = rw (no_kind kind false false false true false e, no_kind kind 0 0 0 byte2 0 e) (sym (within_none x))

  on_any : (kind : ℕ) (s : Side) → Counted kind s
  on_any kind s = split (is_kind kind) (λ e. on_known (known kind e) s) (λ e. on_none kind e s)

pub free_on : (q : Problem) (p : Pins) (v : ℕ) (s : Side) → side_in v ≡ s
    → is_free q p v
    ≡ (within (v - place_number s 0) (side_places q.kind q.n.0 q.byte2 s) && eqb (p s (v - place_number s 0)) 0)
unfolding is_free is_place
free_on q p v s e =
    (λ i. has_side q.kind (e i) && within (v - place_number (e i) 0) (places (shape_of q) (e i))
    && eqb (p (e i) (v - place_number (e i) 0)) 0)
    ∙ ap (λ (t : Bool). t && eqb (p s (v - place_number s 0)) 0) (on_any q.n.0 q.byte2 (v - place_number s 0) q.kind s)

-- the same where a call has tested the place on its side
pub freed : (q : Problem) (p : Pins) (v x k : ℕ) (s : Side) (r : Bool) → side_in v ≡ s → x ≡ v - place_number s 0
    → k ≡ side_places q.kind q.n.0 q.byte2 s → r ≡ (within x k && eqb (p s x) 0) → r ≡ is_free q p v
freed q p v x k s r on place size tested =
    tested ∙ (λ i. within (place i) (size i) && eqb (p s (place i)) 0) ∙ sym (free_on q p v s on)

pub sides_fit : (q : Problem) → q.n.0 ≤ longest_side → width_of q ≤ longest_side → (s : Side) → places (shape_of q) s ≤ longest_side
sides_fit q a b north = a
sides_fit q a b south = a
sides_fit q a b west = b
sides_fit q a b east = b

pub free_place : (q : Problem) (p : Pins) (v : ℕ) → ((s : Side) → places (shape_of q) s ≤ longest_side) → is_free q p v ≡ true
    → In (place_in v) longest_side
unfolding is_free
free_place q p v fits e =
    let (on, i) = is_place_lem q v ((and-eq-true_iff (is_place q v) (eqb (p (side_in v) (place_in v)) 0)).0 e).0 in
    omega (arith, i, fits (side_in v))

-- ---- what is free once the net stands at some places

-- the pins p' are p and net m at the places of the list
abbrev pub Stands : Pins → ℕ → List ℕ → Pins → Type 0
Stands p m l p' = (s : Side) (a : ℕ) → In a longest_side → p' s a ≡ with_net p m l s a

pub stands_none : (p : Pins) (m : ℕ) → Stands p m [] p
stands_none p m s a i = rw (listed_none (place_number s a))

module _ (q : Problem) (p p' : Pins) (m : ℕ) (l : List ℕ) (some_net : In m largest_net)
    (fits : (s : Side) → places (shape_of q) s ≤ longest_side) (now : Stands p m l p') where
  pub free_now : (v : ℕ) → is_free q p' v ≡ (is_free q p v && not (listed l v))
  unfolding is_free
  free_now v = split (is_place q v)
      (λ e.
      let (on, i) = is_place_lem q v e in
      let j : In (place_in v) longest_side = omega (arith, fits (side_in v)) in
      let here : p' (side_in v) (place_in v) ≡ cond (listed l v) m (p (side_in v) (place_in v)) =
      now (side_in v) (place_in v) j ∙ ap (λ (u : ℕ). cond (listed l u) m (p (side_in v) (place_in v))) (number_back v) in
      rw (e, here) (free (p (side_in v) (place_in v)) (listed l v)))
      (λ e. rw e)
    where
      free : (y : ℕ) (t : Bool) → eqb (cond t m y) 0 ≡ (eqb y 0 && not t)
      free y true = ne_eqb m 0 (λ z. omega arith) ∙ sym (and-false (eqb y 0))
      free y false = sym (and-true (eqb y 0))

  -- and then one place more
  pub one_more : (p'' : Pins) (v : ℕ) → ((s : Side) (a : ℕ) → In a longest_side → p'' s a ≡ cond (eqb v (place_number s a)) m (p' s a))
      → Stands p m (l ++ (v ∷ [])) p''
  one_more p'' v put s a i =
      let u = place_number s a in
      put s a i ∙ ap (cond (eqb v u) m) (now s a i) ∙ either_way (p s a) (eqb v u) (listed l u)
      ∙ ap (λ (t : Bool). cond t m (p s a)) (sym (listed_last l v u))
    where
      either_way : (y : ℕ) (t t' : Bool) → cond t m (cond t' m y) ≡ cond (t' || t) m y
      either_way y true true = refl
      either_way y true false = refl
      either_way y false true = refl
      either_way y false false = refl
