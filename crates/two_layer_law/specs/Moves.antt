-- Which operations a two-layer channel gets. First each net of two or more pins of a side is gathered into the first of their columns,
-- or, without a pin on the other side, into none. Then the nets of both sides stand in one column each, and are moved, one after the
-- other, to the columns in which the south side has them: to one that is empty; where none is, a net is first moved out of the way.
--
--   first_on a n m              the first of columns 1 to n that holds net m, 0 where none does
--   last_on a n m               the last of them, 0 where none does
--   held_on a n m               side a holds net m
--   leads a b n                 the nets of both sides, each in the first column in which side a holds it; 0 elsewhere
--   solid_test a b n            in both orders of the sides every column leads a net, and not the same everywhere: the channel is solid
--   several a n m               net m has two or more pins on side a
--   gatherings a n              how many nets have
--   Gathered a b n o            the operations that gather them, in rising order of nets; b is the other side
--   MoveState                   the net in each column; the column of each net; the column that the last move left
--   ready goal cut c            column c is empty, and is to get a net
--   wrong goal cut c            column c is to get another net than it holds
--   spare goal cut c            column c is empty, and stays so at the end
--   filling n goal st           a column that is ready: the one that the last move left, or else the first; 0 where none is
--   blocked n goal st           the first column that is wrong, 0 where none is
--   moved, moved_to n goal st   the net of the next move, 0 where all stand right; and its column
--   next n goal st              the state after that move
--   state_at n goal st s        the state after s moves
--   steps n goal st most        how many moves are made until all stand right, at most `most`
--   start_of a b n              the state before the first move, side a being the north side
--   moves_of n goal st many     these moves as operations
--   most_moves                  enough for every channel
--   moves a b n                 how many moves a channel gets whose sides are a and b
--   width_for a b n             the tracks that it gets: one for each operation, and one where there is none
use Rattle.std.specs.Prelude.{ℕ, zero, suc, ◌+◌, ◌<◌, min, max, ◌≡◌, Bool, true, cond, not, ◌&&◌, eqb, leb}
use Rattle.counting.specs.Counting.{In, count, some, every, least}
use Rattle.terms.specs.Limits.{largest_net}
use Rattle.two_layer_law.specs.Cuts.{Ops, cut_after}

abbrev pub first_on : (ℕ → ℕ) → ℕ → ℕ → ℕ
first_on a n m = least (λ c. eqb (a c) m) n

unfoldable pub last_on : (ℕ → ℕ) → ℕ → ℕ → ℕ
last_on a zero m = 0
last_on a (suc n) m = cond (eqb (a (suc n)) m) (suc n) (last_on a n m)

abbrev pub held_on : (ℕ → ℕ) → ℕ → ℕ → Bool
held_on a n m = some (λ c. eqb (a c) m) n

unfoldable pub leads : (ℕ → ℕ) → (ℕ → ℕ) → ℕ → ℕ → ℕ
leads a b n c = cond (eqb (first_on a n (a c)) c && held_on b n (a c)) (a c) 0

abbrev pub solid_test : (ℕ → ℕ) → (ℕ → ℕ) → ℕ → Bool
solid_test a b n = every (λ c. leb 1 (leads a b n c) && leb 1 (leads b a n c)) n && some (λ c. not (eqb (leads a b n c) (leads b a n c))) n

abbrev pub several : (ℕ → ℕ) → ℕ → ℕ → Bool
several a n m = leb 2 (count (λ c. eqb (a c) m) n)

abbrev pub gatherings : (ℕ → ℕ) → ℕ → ℕ
gatherings a n = count (several a n) largest_net

pub record Gathered (a b : ℕ → ℕ) (n : ℕ) (o : Ops) : Type 0 where
  pub count : o.count ≡ gatherings a n
  pub each : (s : ℕ) → s < o.count → In (o.net s) largest_net × (several a n (o.net s) ≡ true)
  pub rising : (s r : ℕ) → s < r → r < o.count → o.net s < o.net r
  pub all : (m : ℕ) → In m largest_net → several a n m ≡ true → (s : ℕ) × (s < o.count) × (o.net s ≡ m)
  pub to : (s : ℕ) → s < o.count → o.to s ≡ cond (held_on b n (o.net s)) (first_on a n (o.net s)) 0
  pub low : (s : ℕ) → s < o.count → o.low s ≡ first_on a n (o.net s)
  pub high : (s : ℕ) → s < o.count → o.high s ≡ last_on a n (o.net s)

pub record MoveState : Type 0 where
  pub cut : ℕ → ℕ
  pub at : ℕ → ℕ
  pub left : ℕ

abbrev pub ready : (ℕ → ℕ) → (ℕ → ℕ) → ℕ → Bool
ready goal cut c = leb 1 (goal c) && eqb (cut c) 0

abbrev pub wrong : (ℕ → ℕ) → (ℕ → ℕ) → ℕ → Bool
wrong goal cut c = leb 1 (goal c) && not (eqb (cut c) (goal c))

abbrev pub spare : (ℕ → ℕ) → (ℕ → ℕ) → ℕ → Bool
spare goal cut c = eqb (goal c) 0 && eqb (cut c) 0

abbrev pub filling : ℕ → (ℕ → ℕ) → MoveState → ℕ
filling n goal st = cond (ready goal st.cut st.left) st.left (least (ready goal st.cut) n)

abbrev pub blocked : ℕ → (ℕ → ℕ) → MoveState → ℕ
blocked n goal st = least (wrong goal st.cut) n

abbrev pub moved : ℕ → (ℕ → ℕ) → MoveState → ℕ
moved n goal st =
    cond (leb 1 (filling n goal st)) (goal (filling n goal st)) (cond (leb 1 (blocked n goal st)) (st.cut (blocked n goal st)) 0)

abbrev pub moved_to : ℕ → (ℕ → ℕ) → MoveState → ℕ
moved_to n goal st = cond (leb 1 (filling n goal st)) (filling n goal st) (least (spare goal st.cut) n)

unfoldable pub next : ℕ → (ℕ → ℕ) → MoveState → MoveState
next n goal st =
    let x = moved n goal st in
    let t = moved_to n goal st in
    record { cut = cut_after x t st.cut; at = λ m. cond (eqb m x) t (st.at m); left = st.at x }

unfoldable pub state_at : ℕ → (ℕ → ℕ) → MoveState → ℕ → MoveState
state_at n goal st zero = st
state_at n goal st (suc s) = next n goal (state_at n goal st s)

unfoldable pub steps : ℕ → (ℕ → ℕ) → MoveState → ℕ → ℕ
steps n goal st zero = 0
steps n goal st (suc most) = cond (leb 1 (moved n goal st)) (suc (steps n goal (next n goal st) most)) 0

abbrev pub moves_of : ℕ → (ℕ → ℕ) → MoveState → ℕ → Ops
moves_of n goal st many =
    record {
      count = many;
      net = λ s. moved n goal (state_at n goal st s);
      to = λ s. moved_to n goal (state_at n goal st s);
      low = λ s. let u = state_at n goal st s in min (u.at (moved n goal u)) (moved_to n goal u);
      high = λ s. let u = state_at n goal st s in max (u.at (moved n goal u)) (moved_to n goal u);
    }

abbrev pub start_of : (ℕ → ℕ) → (ℕ → ℕ) → ℕ → MoveState
start_of a b n = record { cut = leads a b n; at = first_on a n; left = 0 }

abbrev pub most_moves : ℕ
most_moves = 135

unfoldable pub moves : (ℕ → ℕ) → (ℕ → ℕ) → ℕ → ℕ
moves a b n = steps n (leads b a n) (start_of a b n) most_moves

unfoldable pub width_for : (ℕ → ℕ) → (ℕ → ℕ) → ℕ → ℕ
width_for a b n = max 1 (gatherings a n + moves a b n + gatherings b n)
