-- The flat bytes of a good problem are accepted and state that problem: each side's places were written where the reading looks for them.
use Prim.Native.Nat.{ℕ, zero, suc, ◌+◌, ◌-◌, ◌≤◌, ◌<◌}
use mathlib.Core.Path.{◌≡◌, refl, sym, ap, ◌∙◌, subst}
use mathlib.Core.Logic.{⊎_elim}
use mathlib.Core.Bool.{Bool}
use mathlib.Core.List.{List, [], ◌∷◌, ◌++◌, append_assoc}
use native.Mathlib.Omega.{arith}
use lib.ListN.{length, get_or, length-append}
use lib.Seq.{ext_get_or}
use borrow.Author.Tests.{le-leb}
use Rattle.counting.proofs.Sums.{split}
use Rattle.terms.specs.Kinds.{Side, north, south, west, east, has_side}
use Rattle.terms.specs.Limits.{largest_net, longest_side}
use Rattle.terms.specs.Refusals.{unless}
use Rattle.grid.specs.Legal.{entry}
use Rattle.problem.specs.declared.Problem.{Problem}
use Rattle.problem.specs.Problem.{pins_in, Good}
use Rattle.problem.proofs.Sizes.{byte2_in}
use Rattle.ticket_sides.specs.Format.{byte, values_from, net_list}
use Rattle.ticket_sides.specs.Stages.{stop, go_on, fields_of}
use Rattle.ticket_sides.specs.declared.Cursor.{Cursor}
use Rattle.ticket_sides.proofs.Flags.{le_or_lt}
use Rattle.ticket.specs.Read.{left_over, judged, accepted_reading}
use Rattle.ticket.proofs.Filled.{length_values, get_d_values, length_side, side_at_lem, side_past}
use Rattle.ticket.proofs.Laws.{going_on}
use Rattle.ticket_bytes.specs.Bytes.{Sized}
use Rattle.ticket_bytes.proofs.Header.{fields_read}
use Rattle.ticket_bytes.proofs.Parts.{Part, whole, front, back}
use Rattle.ticket_bytes.proofs.ReadBack.{judged_read}
use Rattle.ticket_bytes.proofs.Sides.{nets_read}
use Rattle.flat_reader.specs.Flat.{places_on, places_in, places_from, place_count, flat_header, places_end, flat_pins, flat_ticket_of}
use Rattle.flat_reader.proofs.Sides.{places_le, own}
use Rattle.flat_law.specs.FlatBytes.{flat_on, flat_bytes_of}
use Rattle.flat_law.proofs.Sizes.{flat_length}

-- ---- lists of small numbers

values_small : (f : ℕ → ℕ) (top i n : ℕ) → ((a : ℕ) → f a ≤ top) → (k : ℕ) → get_or (values_from f i n) k 0 ≤ top
unfolding values_from
values_small f top i zero small k = omega arith
values_small f top i (suc n) small zero = small i
values_small f top i (suc n) small (suc k) = values_small f top (suc i) n small k

joined_small : (top : ℕ) (x y : List ℕ) → ((k : ℕ) → get_or x k 0 ≤ top) → ((k : ℕ) → get_or y k 0 ≤ top) → (k : ℕ) → get_or (x ++ y) k 0 ≤ top
joined_small top [] y a b k = b k
joined_small top (v ∷ x) y a b zero = a 0
joined_small top (v ∷ x) y a b (suc k) = joined_small top x y (λ j. a (suc j)) b k

-- ---- the parts of a flat ticket

-- what stands behind a run of p values
behind : {s : List ℕ} {from : ℕ} (f : ℕ → ℕ) (p : ℕ) (y : List ℕ) → Part s from (values_from f 1 p ++ y) → Part s (from + p) y
behind {s} {from} f p y part = subst (λ (k : ℕ). Part s (from + k) y) (length_values f 1 p) (back (values_from f 1 p) y part)

module _ (q : Problem) where
  abbrev flat : List ℕ
  flat = flat_bytes_of q

  abbrev places_of : Side → ℕ
  places_of side = places_on q.kind q.n.0 q.byte2 side

  abbrev from_west : List ℕ
  from_west = flat_on q west ++ flat_on q east

  abbrev from_south : List ℕ
  from_south = flat_on q south ++ from_west

  all_part : Part flat 3 (flat_on q north ++ from_south)
  unfolding flat_bytes_of
  all_part =
      back (q.kind ∷ q.n.0 ∷ q.byte2 ∷ []) (flat_on q north ++ from_south) (subst (Part flat 0) (simp append_assoc) (whole flat))

  side_part : (side : Side) → Part flat (places_from flat side) (flat_on q side)
  unfolding flat_bytes_of
  side_part north = front (flat_on q north) from_south all_part
  side_part south = front (flat_on q south) from_west (behind _ _ from_south all_part)
  side_part west = front (flat_on q west) (flat_on q east) (behind _ _ from_west (behind _ _ from_south all_part))
  side_part east = behind _ _ (flat_on q east) (behind _ _ from_west (behind _ _ from_south all_part))

  place_at : (side : Side) (j : ℕ) → j < places_of side → byte flat (places_from flat side + j) ≡ pins_in q.pins side (1 + j)
  place_at side j h = (side_part side).here j (rw length_values h) ∙ get_d_values (pins_in q.pins side) 1 (places_of side) j h

-- ---- a side's list

module _ (s l : List ℕ) (from p : ℕ) (few : p ≤ longest_side) (size : length l ≡ longest_side)
    (here : (j : ℕ) → j < p → byte s (from + j) ≡ entry l (1 + j)) (past : (a : ℕ) → p < a → entry l a ≡ 0) where
  place_read : (i : ℕ) → entry (net_list s from p) (suc i) ≡ entry l (suc i)
  place_read i =
      let f : ℕ → ℕ = λ a. byte s (from + (a - 1)) in
      let before : suc i - 1 ≡ i = omega arith in
      let one : 1 + i ≡ suc i = omega arith in
      ⊎_elim
      (λ le. side_at_lem f p (suc i) few (omega arith) ∙ ap (λ (j : ℕ). byte s (from + j)) before ∙ here i le ∙ ap (entry l) one)
      (λ lt. side_past f p (suc i) lt ∙ sym (past (suc i) lt))
      (le_or_lt (suc i) p)

  list_read : net_list s from p ≡ l
  list_read = ext_get_or 0 (net_list s from p) l (length_side _ p ∙ sym size) (λ i h. place_read i)

-- ---- the stages

module _ (q : Problem) (good : Good q) (sized : Sized q) where
  -- no pin past the places that are listed
  past : (side : Side) (a : ℕ) → places_of q side < a → pins_in q.pins side a ≡ 0
  past side a h =
      split (has_side q.kind side)
      (λ has. good.ends side a (omega (arith, own q.kind q.n.0 q.byte2 side good.kind has)))
      (λ lacks. good.bare side lacks a)

  few : (side : Side) → places_of q side ≤ longest_side
  few side = places_le q.kind q.n.0 q.byte2 side good.columns.1 (byte2_in good).1

  count_same : place_count (flat q) ≡ places_of q north + places_of q south + places_of q west + places_of q east
  unfolding place_count flat_bytes_of
  count_same = refl

  -- every kind has a north side, so a fourth byte is there
  header : flat_header (flat q) ≡ go_on 3
  unfolding flat_header flat_bytes_of
  header =
      let first = own q.kind q.n.0 q.byte2 north good.kind good.kind in
      ap (λ (t : Bool). unless t (stop 1 (length (flat q))) (fields_of q.kind q.n.0 q.byte2 (go_on 3)))
      (le-leb 4 (length (flat q)) (omega (arith, flat_length q, first, good.columns)))
      ∙ fields_read q good (go_on 3)

  small : (side : Side) (k : ℕ) → get_or (flat_on q side) k 0 ≤ largest_net
  small side = values_small (pins_in q.pins side) largest_net 1 (places_of q side) (good.numbered side)

  all_small : (k : ℕ) → get_or (flat_on q north ++ from_south q) k 0 ≤ largest_net
  all_small =
      joined_small largest_net (flat_on q north) (from_south q) (small north)
      (joined_small largest_net (flat_on q south) (from_west q) (small south)
      (joined_small largest_net (flat_on q west) (flat_on q east) (small west) (small east)))

  places_read : places_end (flat q) ≡ go_on (3 + place_count (flat q))
  unfolding places_end
  places_read =
      nets_read 0 (flat q) (place_count (flat q)) 3 (omega (arith, flat_length q, count_same))
      (λ j h. (omega arith, rw ((all_part q).here j (simp (length-append, length_values) (omega (arith, count_same)))) (all_small j)))

  side_read : (side : Side) (l : List ℕ) → length l ≡ longest_side → ((a : ℕ) → pins_in q.pins side a ≡ entry l a)
      → net_list (flat q) (places_from (flat q) side) (places_in (flat q) side) ≡ l
  unfolding flat_bytes_of
  side_read side l size same =
      list_read (flat q) l (places_from (flat q) side) (places_of q side) (few side) size (λ j h. place_at q side j h ∙ same (1 + j))
      (λ a h. sym (same a) ∙ past side a h)

  pins_read : flat_pins (flat q) ≡ q.pins
  pins_read i =
      record {
        north = side_read north q.pins.north sized.north (λ a. refl) i;
        south = side_read south q.pins.south sized.south (λ a. refl) i;
        west = side_read west q.pins.west sized.west (λ a. refl) i;
        east = side_read east q.pins.east sized.east (λ a. refl) i;
      }

  none_left : left_over (flat q) (places_end (flat q)).at ≡ go_on (places_end (flat q)).at
  none_left =
      rw (le-leb (length (flat q)) (places_end (flat q)).at
      (omega (arith, flat_length q, count_same, ap (λ (c : Cursor). c.at) places_read)))

  pub flat_read_back : flat_ticket_of (flat_bytes_of q) ≡ accepted_reading q
  unfolding flat_ticket_of flat_bytes_of
  flat_read_back =
      going_on _ (sym header) refl
      ∙ going_on _ (sym places_read) refl
      ∙ going_on _ (sym none_left) refl
      ∙ ap (judged (flat q)) pins_read
      ∙ judged_read (flat q) q good refl refl refl
