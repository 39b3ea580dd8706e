-- A board stays sound as nets come and go, and the net tells the board with it from the board without it: an accepted call shows what each
-- place gains or loses (`Gains`), and that an added net has two places of the board.
use Prim.Native.Nat.{ℕ, zero, suc, ◌+◌, ◌-◌, ◌≤◌}
use mathlib.Core.Path.{◌≡◌, refl, sym, ap, ◌∙◌, subst, subst₂}
use mathlib.Core.Logic.{◌≢◌, by_cases}
use mathlib.Core.Bool.{Bool, true, false, cond, or-false, and-eq-true_iff}
use mathlib.Core.List.{List, [], ◌∷◌}
use native.Mathlib.Decide.{ℕ_discrete, dec_le}
use native.Mathlib.Omega.{arith}
use lib.Dec.{eqb}
use lib.ListN.{length, get_or-eq_default}
use borrow.Author.Tests.{eqb-true, eqb-false, eq-eqb, leb-false}
use Rattle.counting.specs.Counting.{In}
use Rattle.counting.proofs.Sums.{split}
use Rattle.terms.specs.Limits.{longest_side, largest_net}
use Rattle.terms.specs.Kinds.{Side, north, south, west, east}
use Rattle.terms.specs.Refusals.{accepted}
use Rattle.grid.specs.Grid.{Node, pin, point}
use Rattle.grid.specs.Legal.{Pins, entry}
use Rattle.problem.specs.declared.Problem.{Problem}
use Rattle.problem.specs.Problem.{pins_in, pin_count, shape_of, Another, Good}
use Rattle.problem.proofs.Pinned.{pinned}
use Rattle.problem.proofs.Sizes.{side_fits}
use Rattle.ticket_bytes.specs.Bytes.{Sized}
use Rattle.board_law.specs.Places.{place_number, side_in, place_in, is_place, listed}
use Rattle.board_law.specs.Edits.{is_board_kind, is_there, is_free, first_wrong, add_refusal, with_net, Sound, Becomes}
use Rattle.board_law.proofs.Places.{side_back, place_back, number_back, is_place_lem}
use Rattle.board_law.proofs.Accepted.{accepted_add, first_right, all_free}
use Rattle.board_law.proofs.Gains.{Gains, stays, fills, Vacant, with_pins, with_good, without_good}
use Rattle.board_law.proofs.Apart.{Apart}

-- what holds at every place of the lists holds at every place of the board
pub becomes : {q q' : Problem} {p : Pins} → Sound q → q'.kind ≡ q.kind → q'.n ≡ q.n → q'.byte2 ≡ q.byte2
    → ((s : Side) (a : ℕ) → In a longest_side → pins_in q'.pins s a ≡ p s a) → Becomes q p q'
becomes sound kinds ns bytes pins =
    record { kind = kinds; n = ns; byte2 = bytes; pins = λ s a i. pins s a (omega (arith, side_fits sound.good s)) }

-- the new problem is the old one with other pins
same_header : (q q' : Problem) {k : ℕ} → q'.kind ≡ q.kind → q'.n ≡ q.n → q'.byte2 ≡ q.byte2 → q'.nets ≡ k
    → with_pins q k q'.pins ≡ q'
same_header q q' kinds ns bytes nets =
    λ i. record { kind = sym kinds i; n = sym ns i; byte2 = sym bytes i; nets = sym nets i; pins = q'.pins }

-- ---- past the lists' ends nothing changes

entry_in : (l : List ℕ) (a : ℕ) → length l ≡ longest_side → entry l a ≢ 0 → In a longest_side
entry_in l zero size nz = absurd (nz refl)
entry_in l (suc a) size nz = elim (dec_le longest_side a) [
  | yes past ↦ absurd (nz (get_or-eq_default l 0 (omega arith)))
  | no within ↦ omega arith
]

pin_in : {q : Problem} → Sized q → (s : Side) (a : ℕ) → pins_in q.pins s a ≢ 0 → In a longest_side
pin_in {q} sized north a = entry_in q.pins.north a sized.north
pin_in {q} sized south a = entry_in q.pins.south a sized.south
pin_in {q} sized west a = entry_in q.pins.west a sized.west
pin_in {q} sized east a = entry_in q.pins.east a sized.east

everywhere : {q q' : Problem} {m : ℕ} → Sized q → Sized q' → In m largest_net
    → ((s : Side) (a : ℕ) → In a longest_side → Gains m (pins_in q.pins s a) (pins_in q'.pins s a))
    → (s : Side) (a : ℕ) → Gains m (pins_in q.pins s a) (pins_in q'.pins s a)
everywhere {q} {q'} sized sized' i inside s a =
    by_cases (ℕ_discrete (pins_in q.pins s a) 0)
    (λ z. by_cases (ℕ_discrete (pins_in q'.pins s a) 0)
    (λ z'. stays (z ∙ sym z') (λ e. omega arith))
    (λ nz. inside s a (pin_in sized' s a nz)))
    (λ nz. inside s a (pin_in sized s a nz))

-- ---- adding

-- a list without a wrong place has one besides any number, since its first two differ
listed_another : (free : ℕ → Bool) (l : List ℕ) → 2 ≤ length l → first_wrong free [] l ≡ length l
    → (x : ℕ) → (v : ℕ) × (listed l v ≡ true) × (v ≢ x)
unfolding listed
listed_another free [] long right x = absurd (omega arith)
listed_another free (v ∷ []) long right x = absurd (omega arith)
listed_another free (v ∷ w ∷ l) long right x =
    let more = (first_right free [] v (w ∷ l) right).2 in
    let new : eqb v w ≡ false = sym (or-false (eqb v w)) ∙ (first_right free (v ∷ []) w l more).1 in
    by_cases (ℕ_discrete v x)
    (λ e. (w, rw (new, eq-eqb w w refl), λ e'. eqb-false v w new (e ∙ sym e')))
    (λ ne. (v, rw (eq-eqb v v refl), ne))

free_vacant : (q : Problem) (v : ℕ) → is_free q (pins_in q.pins) v ≡ true → Vacant q (side_in v) (place_in v)
unfolding is_free
free_vacant q v f =
    let (here, none) = (and-eq-true_iff (is_place q v) (eqb (pins_in q.pins (side_in v) (place_in v)) 0)).0 f in
    let (side, on) = is_place_lem q v here in
    record { side = side; on = on; empty = eqb-true _ _ none }

-- a pin says one number, so that two numbers are two pins
abbrev pin_number : Node → ℕ
pin_number (pin s a) = place_number s a
pin_number (point c t l) = 0

module _ {q q' : Problem} (m : ℕ) (l : List ℕ) (sound : Sound q)
    (ok : accepted (add_refusal (is_there (pins_in q.pins) m) (is_free q (pins_in q.pins)) m l) ≡ true) (sized : Sized q')
    (pins : (s : Side) (a : ℕ) → In a longest_side → pins_in q'.pins s a ≡ with_net (pins_in q.pins) m l s a) where
  abbrev p : Pins
  p = pins_in q.pins

  abbrev p' : Pins
  p' = pins_in q'.pins

  call : In m largest_net × (is_there p m ≡ false) × (2 ≤ length l) × (first_wrong (is_free q p) [] l ≡ length l)
  call = accepted_add (is_there p m) (is_free q p) m l ok

  -- a listed place was vacant, and now it holds the net
  vacant : (v : ℕ) → listed l v ≡ true → Vacant q (side_in v) (place_in v)
  vacant v there = free_vacant q v (all_free (is_free q p) [] l call.3 v there)

  in_list : (v : ℕ) → listed l v ≡ true → In (place_in v) longest_side
  in_list v there = omega (arith, (vacant v there).on, side_fits sound.good (side_in v))

  held : (v : ℕ) → listed l v ≡ true → p' (side_in v) (place_in v) ≡ m
  held v there = pins (side_in v) (place_in v) (in_list v there) ∙ rw (ap (listed l) (number_back v) ∙ there)

  -- a place that is not listed holds what it held, which is not the net
  at_place : (s : Side) (a : ℕ) → In a longest_side → Gains m (p s a) (p' s a) × (p' s a ≡ m → Vacant q s a)
  at_place s a j =
      split (listed l (place_number s a))
      (λ there.
      let v = subst₂ (Vacant q) (side_back s a (omega arith)) (place_back s a (omega arith)) (vacant (place_number s a) there) in
      (fills v.empty (pins s a j ∙ rw there), λ e. v))
      (λ away.
      let same = pins s a j ∙ rw away in
      let ne : p s a ≢ m = λ e. omega (arith, pinned p m s a j e, leb-false 1 (pin_count p m) call.1) in
      (stays (sym same) ne, λ e. absurd (ne (sym same ∙ e))))

  -- the net's second pin: a listed place besides this one
  other : (x : ℕ) → (v : ℕ) × (listed l v ≡ true) × (v ≢ x)
  other = listed_another (is_free q p) l call.2 call.3

  second : (s : Side) (a : ℕ) → p' s a ≡ m → Another (shape_of q) p' s a
  second s a e =
      let (v, there, ne) = other (place_number s a) in
      record {
        side = side_in v;
        place = place_in v;
        on = (vacant v there).on;
        net = held v there ∙ sym e;
        different = λ same. ne (sym (number_back v) ∙ ap pin_number same);
      }

  gained : (s : Side) (a : ℕ) → Gains m (p s a) (p' s a)
  gained = everywhere sound.sized sized call.0 (λ s a j. (at_place s a j).0)

  now_there : 1 ≤ pin_count p' m
  now_there = let (v, there, ne) = other 0 in pinned p' m (side_in v) (place_in v) (in_list v there) (held v there)

  -- adding an absent net at free places keeps a board sound
  pub add_sound : q'.kind ≡ q.kind → q'.n ≡ q.n → q'.byte2 ≡ q.byte2 → q'.nets ≡ q.nets + 1 → Sound q'
  add_sound kinds ns bytes nets =
      record {
        kind = ap is_board_kind kinds ∙ sound.kind;
        good =
            subst Good (same_header q q' kinds ns bytes nets)
            (with_good sound.good call.0 gained (λ s a e. (at_place s a (pin_in sized s a (λ z. omega (arith, call.0)))).1 e) second
            now_there);
        sized = sized;
      }

  -- the net tells the board before from the board after
  pub add_apart : q'.kind ≡ q.kind → q'.n ≡ q.n → q'.byte2 ≡ q.byte2 → Good q' → Apart m q q'
  add_apart kinds ns bytes good =
      record { kind = kinds; n = ns; byte2 = bytes; gains = gained; net = call.0; there = now_there; good = good }

-- ---- dropping

-- the pins but those of one net
abbrev pub without_net : Pins → ℕ → Pins
without_net p m s a = cond (eqb (p s a) m) 0 (p s a)

module _ {q q' : Problem} (m : ℕ) (sound : Sound q) (is_net : In m largest_net) (was_there : 1 ≤ pin_count (pins_in q.pins) m)
    (sized : Sized q')
    (pins : (s : Side) (a : ℕ) → In a longest_side → pins_in q'.pins s a ≡ without_net (pins_in q.pins) m s a) where
  -- a place that held the net is empty, and another holds what it held
  lost_at : (s : Side) (a : ℕ) → In a longest_side → Gains m (pins_in q'.pins s a) (pins_in q.pins s a)
  lost_at s a j =
      split (eqb (pins_in q.pins s a) m)
      (λ e. fills (pins s a j ∙ rw e) (eqb-true _ m e))
      (λ ne. let same = pins s a j ∙ rw ne in stays same (λ e. eqb-false _ m ne (sym same ∙ e)))

  lost : (s : Side) (a : ℕ) → Gains m (pins_in q'.pins s a) (pins_in q.pins s a)
  lost = everywhere sized sound.sized is_net lost_at

  -- dropping a net that is there keeps a board sound
  pub drop_sound : q'.kind ≡ q.kind → q'.n ≡ q.n → q'.byte2 ≡ q.byte2 → q'.nets ≡ q.nets - 1 → Sound q'
  drop_sound kinds ns bytes nets =
      record {
        kind = ap is_board_kind kinds ∙ sound.kind;
        good = subst Good (same_header q q' kinds ns bytes nets) (without_good sound.good is_net lost was_there);
        sized = sized;
      }

  -- the net tells the board after from the board before
  pub drop_apart : q'.kind ≡ q.kind → q'.n ≡ q.n → q'.byte2 ≡ q.byte2 → Apart m q' q
  drop_apart kinds ns bytes =
      record { kind = sym kinds; n = sym ns; byte2 = sym bytes; gains = lost; net = is_net; there = was_there; good = sound.good }
