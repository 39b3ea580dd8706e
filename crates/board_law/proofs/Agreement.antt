-- A board and the nets that are there refuse the same calls: a net has a pin where its list has a place, and a place is free where no list
-- has it.
use Prim.Native.Nat.{ℕ, ◌≤◌}
use mathlib.Core.Path.{◌≡◌, refl, sym, ap, ◌∙◌, fun_ext}
use mathlib.Core.Logic.{◌≢◌}
use mathlib.Core.Bool.{Bool, true, false, not, ◌&&◌, true≢false}
use mathlib.Core.List.{List, [], ◌∷◌}
use native.Mathlib.Decide.{dec_le}
use native.Mathlib.Omega.{arith}
use lib.Dec.{eqb}
use lib.ListN.{length}
use borrow.Author.Tests.{eqb-true, eqb-false, eq-eqb, ne_eqb, leb-true, le-leb}
use Rattle.counting.specs.Counting.{In}
use Rattle.counting.proofs.Sums.{split}
use Rattle.counting.proofs.Counts.{some_of, some_none}
use Rattle.terms.specs.Kinds.{Side}
use Rattle.terms.specs.Limits.{largest_net, longest_side, within}
use Rattle.terms.proofs.Laws.{within_in}
use Rattle.grid.specs.Grid.{places}
use Rattle.grid.specs.Legal.{Pins}
use Rattle.problem.specs.declared.Problem.{Problem}
use Rattle.problem.specs.Problem.{pins_in, pin_count, shape_of, Good}
use Rattle.problem.proofs.Sizes.{side_fits}
use Rattle.problem.proofs.Pinned.{pinned, a_pin}
use Rattle.board_law.specs.Places.{place_number, side_in, place_in, is_place, listed}
use Rattle.board_law.specs.Edits.{fresh, is_there, is_free, add_refusal, first_absent, drop_refusal, Sound}
use Rattle.board_law.specs.History.{NetPlaces, is_in, is_taken, is_open}
use Rattle.board_law.proofs.Places.{number_back, is_place_lem}

-- what holds after every call on a board that began as q₀, where it holds q and the nets are ns: pins and places are those of Kept, and the
-- kind and the shape are still those of q₀, by which the nets' own refusals go
pub record Holds (q₀ q : Problem) (ns : NetPlaces) : Type 0 where
  pub pins : (s : Side) (a m : ℕ) → In a (places (shape_of q) s) → In m largest_net
      → eqb (pins_in q.pins s a) m ≡ listed (ns m) (place_number s a)
  pub listed_places : (m v : ℕ) → In m largest_net → listed (ns m) v ≡ true → is_place q v ≡ true
  pub kind : q.kind ≡ q₀.kind
  pub n : q.n ≡ q₀.n
  pub byte2 : q.byte2 ≡ q₀.byte2
  pub sound : Sound q

-- which numbers are places goes by kind and shape alone
pub same_places : (q q' : Problem) → q'.kind ≡ q.kind → q'.n ≡ q.n → q'.byte2 ≡ q.byte2 → is_place q' ≡ is_place q
unfolding is_place
same_places q q' kinds ns bytes i = is_place (fresh (kinds i) (ns i).0 (bytes i))

-- two tests of which each passes where the other does
same_test : (s t : Bool) → (s ≡ true → t ≡ true) → (t ≡ true → s ≡ true) → s ≡ t
same_test true t f g = sym (f refl)
same_test false true f g = g refl
same_test false false f g = refl

-- a list that has a number is not empty, and one that is not empty has its first
some_listed : (l : List ℕ) (v : ℕ) → listed l v ≡ true → 1 ≤ length l
unfolding listed
some_listed [] v e = absurd (true≢false (sym e))
some_listed (x ∷ l) v e = omega arith

first_listed : (l : List ℕ) → 1 ≤ length l → (v : ℕ) × (listed l v ≡ true)
unfolding listed
first_listed [] h = absurd (omega arith)
first_listed (x ∷ l) h = (x, rw (eq-eqb x x refl))

module _ {q₀ q : Problem} {ns : NetPlaces} (h : Holds q₀ q ns) where
  abbrev p : Pins
  p = pins_in q.pins

  abbrev good : Good q
  good = h.sound.good

  -- the net at a place, which its number says
  at_place : (m v : ℕ) → In m largest_net → is_place q v ≡ true → eqb (p (side_in v) (place_in v)) m ≡ listed (ns m) v
  at_place m v i e = h.pins (side_in v) (place_in v) m (is_place_lem q v e).1 i ∙ ap (listed (ns m)) (number_back v)

  -- ---- the nets that are there

  pin_listed : (m : ℕ) → In m largest_net → 1 ≤ pin_count p m → 1 ≤ length (ns m)
  pin_listed m i one =
      let (s, a, j, e) = a_pin p m one in
      elim (dec_le a (places (shape_of q) s)) [
        | yes on ↦ some_listed (ns m) (place_number s a) (sym (h.pins s a m (j.0, on) i) ∙ eq-eqb (p s a) m e)
        | no past ↦ absurd (omega (arith, good.ends s a (omega arith)))
      ]

  listed_pin : (m : ℕ) → In m largest_net → 1 ≤ length (ns m) → 1 ≤ pin_count p m
  listed_pin m i one =
      let (v, e) = first_listed (ns m) one in
      let is = h.listed_places m v i e in
      let on : In (place_in v) longest_side = omega (arith, (is_place_lem q v is).1, side_fits good (side_in v)) in
      pinned p m (side_in v) (place_in v) on (eqb-true _ m (at_place m v i is ∙ e))

  pub there_same : (m : ℕ) → In m largest_net → is_there p m ≡ is_in ns m
  there_same m i =
      same_test (is_there p m) (is_in ns m) (λ e. le-leb 1 _ (pin_listed m i (leb-true 1 _ e)))
      (λ e. le-leb 1 _ (listed_pin m i (leb-true 1 _ e)))

  -- ---- the free places

  empty_open : (v : ℕ) → is_place q v ≡ true → p (side_in v) (place_in v) ≡ 0 → is_taken ns v ≡ false
  empty_open v is e = some_none _ largest_net (λ m i. sym (at_place m v i is) ∙ ne_eqb _ m (λ f. omega arith))

  filled_taken : (v : ℕ) → is_place q v ≡ true → p (side_in v) (place_in v) ≢ 0 → is_taken ns v ≡ true
  filled_taken v is ne =
      let x = p (side_in v) (place_in v) in
      let i : In x largest_net = omega (arith, good.numbered (side_in v) (place_in v)) in
      some_of _ largest_net x i (sym (at_place x v i is) ∙ eq-eqb x x refl)

  open_same : (v : ℕ) → is_place q v ≡ true → eqb (p (side_in v) (place_in v)) 0 ≡ not (is_taken ns v)
  open_same v is =
      split (eqb (p (side_in v) (place_in v)) 0) (λ e. e ∙ sym (ap not (empty_open v is (eqb-true _ 0 e))))
      (λ e. e ∙ sym (ap not (filled_taken v is (eqb-false _ 0 e))))

  free_here : (v : ℕ) → is_free q p v ≡ is_open q ns v
  unfolding is_free
  free_here v = split (is_place q v) (λ is. ap (λ (t : Bool). is_place q v && t) (open_same v is)) (λ none. rw none)

  free_same : is_free q p ≡ is_open q₀ ns
  free_same = fun_ext free_here ∙ (λ i v. same_places q₀ q h.kind h.n h.byte2 i v && not (is_taken ns v))

  -- ---- the refusals; a number that is no net's is refused whatever the board holds

  pub adds_agree : (m : ℕ) (l : List ℕ) → add_refusal (is_there p m) (is_free q p) m l ≡ add_refusal (is_in ns m) (is_open q₀ ns) m l
  unfolding add_refusal
  adds_agree m l =
      split (within m largest_net) (λ is i. add_refusal (there_same m (within_in m largest_net is) i) (free_same i) m l) (λ none. rw none)

  absent_same : (l : List ℕ) → first_absent (is_there p) l ≡ first_absent (is_in ns) l
  unfolding first_absent
  absent_same [] = refl
  absent_same (m ∷ l) = split (within m largest_net)
      (λ is. rw (there_same m (within_in m largest_net is), absent_same l))
      (λ none. rw none)

  pub drops_agree : (l : List ℕ) → drop_refusal (is_there p) l ≡ drop_refusal (is_in ns) l
  unfolding drop_refusal
  drops_agree l = rw (absent_same l)
