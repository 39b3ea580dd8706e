-- A board's calls, one at a time, in the words of document 02's jobs 7 and 9. A board holds a problem: its kind, its shape and its pins.
--
--   is_board_kind kind         "The kind is 1 to 3"
--   start_refusal kind n byte2 "An impossible kind, shape .. gets 2, 3, 4 .., first, at place 0"
--   fresh kind n byte2         a board of this kind and shape "starts without pins"
--   start_problem kind n byte2 what a start gives: the fresh board, or "A refused start gives a fresh row board, n 1, h 1"
--   is_there p m               net m has a pin: "the net is already there"
--   is_free q p v              the number is a place of the board, by its kind and shape, that is not "filled" where the pins are p
--   first_wrong free earlier l the first index of the list at which there is no free place, or one of the earlier ones: "a place outside
--                              the board's sides, filled, or the same as an earlier one in the list"; the list's length where there is none
--   add_refusal there free m l "net number gets .. 7, first, at place 0"; "Errors: 20 (place: the net), the net is already there; then 21
--                              (place: the list's length), fewer than two places, or else (place: the first such index) .."
--   first_absent there l       the first index of the list at which there is no net that is there, "a number outside 1 to 180 being
--                              absent"; the list's length where there is none
--   first_repeat l             the first index of the list at which there is one of the earlier ones; the list's length where there is none
--   drop_refusal there l       "Errors: 22 with the first absent net in list order ..; only if all are present, 23 (place: index of the
--                              first repeat)"
--   with_net p m l             "Adding gives a net number and a list of places": the pins p and net m at the places of the list
--   without_nets p l           "Dropping takes a list of nets", "dropping takes a net away whole": the pins p but those of the list's nets
--   Sound q                    what every board holds: a good problem of a board's kind, whose lists have an entry for each place
--   Becomes q p q'             q' is q with the pins p
--   NetAdded q m l r q'        adding net m at the places l to a board that holds q: the call's refusal is r and the board then holds q';
--                              "A refused call leaves the board as it found it"
--   NetsDropped q l r q'       the same of dropping the nets of the list l: "drops all or none"
use Rattle.std.specs.Prelude.{ℕ, suc, ◌≡◌, Bool, true, false, cond, not, ◌&&◌, List, [], ◌∷◌, ◌++◌, eqb, leb, length, get_or}
use Rattle.counting.specs.Counting.{In}
use Rattle.terms.specs.Limits.{longest_side, largest_net, within}
use Rattle.terms.specs.Kinds.{Side, row, by_kind, largest_byte2}
use Rattle.terms.specs.Refusals.{refusal, accepted, unless}
use Rattle.terms.specs.declared.Refusal.{Refusal}
use Rattle.grid.specs.Grid.{places}
use Rattle.grid.specs.Legal.{Pins}
use Rattle.problem.specs.declared.Problem.{Problem}
use Rattle.problem.specs.Problem.{pins_in, pin_count, shape_of, Good}
use Rattle.ticket.specs.Read.{empty_pins}
use Rattle.ticket_bytes.specs.Bytes.{Sized}
use Rattle.board_law.specs.Places.{place_number, side_in, place_in, is_place, listed}

abbrev pub is_board_kind : ℕ → Bool
is_board_kind kind = by_kind kind false true true true false

abbrev pub start_refusal : ℕ → ℕ → ℕ → Refusal
start_refusal kind n byte2 =
    unless (is_board_kind kind) (refusal 2 0)
    (unless (within n longest_side) (refusal 3 0)
    (unless (within byte2 (largest_byte2 kind)) (refusal 4 0)
    (refusal 0 0)))

abbrev pub fresh : ℕ → ℕ → ℕ → Problem
fresh kind n byte2 = record { kind = kind; n = record { 0 = n }; byte2 = byte2; nets = 0; pins = empty_pins }

unfoldable pub start_problem : ℕ → ℕ → ℕ → Problem
start_problem kind n byte2 = unless (accepted (start_refusal kind n byte2)) (fresh row 1 1) (fresh kind n byte2)

abbrev pub is_there : Pins → ℕ → Bool
is_there p m = leb 1 (pin_count p m)

unfoldable pub is_free : Problem → Pins → ℕ → Bool
is_free q p v = is_place q v && eqb (p (side_in v) (place_in v)) 0

unfoldable pub first_wrong : (ℕ → Bool) → List ℕ → List ℕ → ℕ
first_wrong free earlier [] = 0
first_wrong free earlier (v ∷ l) = cond (free v && not (listed earlier v)) (suc (first_wrong free (earlier ++ (v ∷ [])) l)) 0

unfoldable pub add_refusal : Bool → (ℕ → Bool) → ℕ → List ℕ → Refusal
add_refusal there free m l =
    unless (within m largest_net) (refusal 7 0)
    (unless (not there) (refusal 20 m)
    (unless (leb 2 (length l)) (refusal 21 (length l))
    (unless (eqb (first_wrong free [] l) (length l)) (refusal 21 (first_wrong free [] l))
    (refusal 0 0))))

unfoldable pub first_absent : (ℕ → Bool) → List ℕ → ℕ
first_absent there [] = 0
first_absent there (m ∷ l) = cond (within m largest_net && there m) (suc (first_absent there l)) 0

abbrev pub first_repeat : List ℕ → ℕ
first_repeat l = first_wrong (λ v. true) [] l

unfoldable pub drop_refusal : (ℕ → Bool) → List ℕ → Refusal
drop_refusal there l =
    unless (eqb (first_absent there l) (length l)) (refusal 22 (get_or l (first_absent there l) 0))
    (unless (eqb (first_repeat l) (length l)) (refusal 23 (first_repeat l))
    (refusal 0 0))

abbrev pub with_net : Pins → ℕ → List ℕ → Pins
with_net p m l s a = cond (listed l (place_number s a)) m (p s a)

abbrev pub without_nets : Pins → List ℕ → Pins
without_nets p l s a = cond (listed l (p s a)) 0 (p s a)

pub record Sound (q : Problem) : Type 0 where
  pub kind : is_board_kind q.kind ≡ true
  pub good : Good q
  pub sized : Sized q

pub record Becomes (q : Problem) (p : Pins) (q' : Problem) : Type 0 where
  pub kind : q'.kind ≡ q.kind
  pub n : q'.n ≡ q.n
  pub byte2 : q'.byte2 ≡ q.byte2
  pub pins : (s : Side) (a : ℕ) → In a (places (shape_of q) s) → pins_in q'.pins s a ≡ p s a

pub record NetAdded (q : Problem) (m : ℕ) (l : List ℕ) (r : Refusal) (q' : Problem) : Type 0 where
  pub refusal : r ≡ add_refusal (is_there (pins_in q.pins) m) (is_free q (pins_in q.pins)) m l
  pub refused : accepted r ≡ false → q' ≡ q
  pub added : accepted r ≡ true → Becomes q (with_net (pins_in q.pins) m l) q'
  pub sound : Sound q'

pub record NetsDropped (q : Problem) (l : List ℕ) (r : Refusal) (q' : Problem) : Type 0 where
  pub refusal : r ≡ drop_refusal (is_there (pins_in q.pins)) l
  pub refused : accepted r ≡ false → q' ≡ q
  pub dropped : accepted r ≡ true → Becomes q (without_nets (pins_in q.pins) l) q'
  pub sound : Sound q'
