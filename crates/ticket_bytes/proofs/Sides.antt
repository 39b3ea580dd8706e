-- A side that was written is read as it was: its map has a bit for each filled place and no other, so its nets are found behind the map.
use Prim.Native.Nat.{ℕ, zero, suc, ◌+◌, ◌-◌, ◌*◌, ◌/◌, ◌%◌, ◌≤◌, ◌<◌}
use mathlib.Core.Path.{◌≡◌, refl, sym, ap, ◌∙◌, subst}
use mathlib.Core.Logic.{⊎_elim}
use mathlib.Core.Bool.{Bool, true, false, true≢false, ◌&&◌}
use mathlib.Core.List.{List, ◌++◌}
use native.Mathlib.Nat.{zero-add, add-zero}
use native.Mathlib.Numerals.{add-one}
use native.Mathlib.Omega.{arith}
use lib.Dec.{leb}
use lib.ListN.{length}
use lib.Seq.{ext_get_or}
use borrow.Author.Tests.{le-leb, lt-leb, lt-ltb, eq-eqb, leb-false}
use Rattle.counting.specs.Counting.{In, bit, count}
use Rattle.counting.proofs.Sums.{split, bit_one, sum_past, sum_part}
use Rattle.counting.proofs.Counts.{some_in, some_of, count_same}
use Rattle.terms.specs.Limits.{largest_net, longest_side}
use Rattle.ticket_sides.proofs.Laws.{net_of_lem}
use Rattle.grid.specs.Legal.{entry}
use Rattle.ticket_sides.proofs.Flags.{le_or_lt}
use Rattle.ticket_sides.specs.Format.{byte, is_on, stands, standing_bits, map_bytes, good_map, pin_net, side_nets}
use Rattle.ticket_sides.specs.Stages.{go_on, nets_of, side_of, after}
use Rattle.ticket_sides.specs.declared.Cursor.{Cursor}
use Rattle.ticket.proofs.Placed.{pin_stands, pin_empty, pin_past, pin_off}
use Rattle.ticket.proofs.Filled.{length_values, get_d_values}
use Rattle.ticket_bytes.specs.Bytes.{is_filled, has_pins, map_byte, nets_to, side_bytes}
use Rattle.ticket_bytes.proofs.Expansion.{number_on}
use Rattle.ticket_bytes.proofs.Parts.{Part, front, back}
use Rattle.ticket_bytes.proofs.MapAndNets.{map_of, side_standing, side_missing, side_length, length_nets, count_below, net_at_lem, net_in}

-- no place past p passes the test
count_to : (t : ℕ → Bool) (p top : ℕ) → p ≤ top → count (λ a. leb a p && t a) top ≡ count t p
count_to t p top h =
    sym (sum_past (λ a. bit (leb a p && t a)) p top h (λ a past. rw (lt-leb a p past)))
    ∙ count_same (λ a. leb a p && t a) t p (λ a i. rw (le-leb a p i.1))

pub nets_read : (least : ℕ) (s : List ℕ) (k i : ℕ) → i + k ≤ length s
    → ((j : ℕ) → j < k → (least ≤ byte s (i + j)) × (byte s (i + j) ≤ largest_net)) → nets_of least s i k ≡ go_on (i + k)
unfolding nets_of
nets_read least s zero i h each = ap go_on (sym (add-zero i))
nets_read least s (suc k) i h each =
    let now = subst (λ (j : ℕ). (least ≤ byte s j) × (byte s j ≤ largest_net)) (add-zero i) (each 0 (omega arith)) in
    let next : i + 1 + k ≡ i + suc k = omega arith in
    rw (lt-ltb i (length s) (omega arith), net_of_lem least (byte s i) now)
    (nets_read least s k (i + 1) (omega arith) (λ j l.
    let e : i + suc j ≡ i + 1 + j = omega arith in
    subst (λ (j : ℕ). (least ≤ byte s j) × (byte s j ≤ largest_net)) e (each (suc j) (omega arith))) ∙ ap go_on next)

-- ---- a side that stands

module _ (s : List ℕ) (f : ℕ → ℕ) (p from : ℕ) (any : has_pins f p ≡ true) (part : Part s from (side_bytes f p)) where
  both : Part s from (map_of f p ++ nets_to f p)
  both = subst (Part s from) (side_standing f p any) part

  nets : Part s (from + map_bytes p) (nets_to f p)
  nets =
      subst (λ (k : ℕ). Part s (from + k) (nets_to f p)) (length_values (map_byte f p) 0 (map_bytes p)) (back (map_of f p) (nets_to f p) both)

  map_byte_lem : (j : ℕ) → j < map_bytes p → byte s (from + j) ≡ map_byte f p j
  map_byte_lem j h =
      (front (map_of f p) (nets_to f p) both).here j (rw length_values h)
      ∙ get_d_values (map_byte f p) 0 (map_bytes p) j h
      ∙ ap (map_byte f p) (zero-add j)

  -- spare bits are zero
  stands_at : (a : ℕ) → In a (8 * map_bytes p) → stands s from a ≡ (leb a p && is_filled f a)
  unfolding map_byte
  stands_at a i =
      let j = (a - 1) / 8 in
      let k = (a - 1) % 8 in
      let place : 8 * j + suc k ≡ a = omega arith in
      ap (λ (x : ℕ). is_on x k) (map_byte_lem j (omega arith))
      ∙ number_on (λ b. leb (8 * j + b) p && is_filled f (8 * j + b)) 8 k (omega arith)
      ∙ ap (λ (b : ℕ). leb b p && is_filled f b) place

  stands_place : (a : ℕ) → In a p → stands s from a ≡ is_filled f a
  stands_place a i = stands_at a (omega arith) ∙ rw (le-leb a p i.1)

  standing : (k : ℕ) → k ≤ p → standing_bits s from k ≡ count (is_filled f) k
  standing k h = count_same (stands s from) (is_filled f) k (λ a i. stands_place a (omega arith))

  standing_all : standing_bits s from (8 * map_bytes p) ≡ count (is_filled f) p
  standing_all = count_same _ _ (8 * map_bytes p) stands_at ∙ count_to (is_filled f) p (8 * map_bytes p) (omega arith)

  some_filled : 1 ≤ count (is_filled f) p
  unfolding has_pins
  some_filled = let (a, i, e) = some_in (is_filled f) p any in omega (arith, bit_one e, sum_part (λ b. bit (is_filled f b)) a p i)

  good_map_lem : good_map s from p ≡ true
  unfolding good_map
  good_map_lem =
      let k = count (is_filled f) p in
      rw (standing p (omega arith), standing_all, le-leb 1 k some_filled) (eq-eqb k k refl)

  standing_read : ((a : ℕ) → f a ≤ largest_net) → after s true p (go_on from) ≡ go_on (from + length (side_bytes f p))
  unfolding after side_of
  standing_read small =
      let k = count (is_filled f) p in
      let many : length (nets_to f p) ≡ k = length_nets f p in
      let end : from + map_bytes p + k ≡ from + length (side_bytes f p) = omega (arith, side_length f p any) in
      rw (le-leb (from + map_bytes p) (length s) (omega (arith, nets.room)), good_map_lem, standing p (omega arith))
      (nets_read 1 s k (from + map_bytes p) (omega (arith, nets.room)) (λ j l.
      let less : j < length (nets_to f p) = omega arith in
      rw (nets.here j less) (net_in f small p j less)) ∙ ap go_on end)

  -- place i + 1
  standing_pin : (i : ℕ) → i < p → pin_net s true from p (i + 1) ≡ f (i + 1)
  standing_pin i h =
      let one = add-one i in
      let bit_at : stands s from (i + 1) ≡ is_filled f (i + 1) = stands_place (i + 1) (omega arith) in
      split (is_filled f (i + 1))
      (λ e.
      let filled : is_filled f (suc i) ≡ true = ap (is_filled f) (sym one) ∙ e in
      pin_stands s from p i h (bit_at ∙ e) ∙ ap (λ (k : ℕ). byte s (from + map_bytes p + k)) (standing i (omega arith))
      ∙ nets.here (count (is_filled f) i) (rw length_nets (count_below f i p h filled)) ∙ net_at_lem f p i h filled ∙ ap f (sym one))
      (λ e. omega (arith, pin_empty s true from p (i + 1) (bit_at ∙ e), leb-false 1 (f (i + 1)) e))

-- ---- any side

-- a side's list: nets or empty places, none past place p
pub record Listed (l : List ℕ) (p : ℕ) : Type 0 where
  pub size : length l ≡ longest_side
  pub small : (a : ℕ) → entry l a ≤ largest_net
  pub past : (a : ℕ) → p < a → entry l a ≡ 0

-- the side was written by p places and is read by p', the same where it stands
module _ (s l : List ℕ) (p p' from : ℕ) (listed : Listed l p) (same : has_pins (entry l) p ≡ true → p' ≡ p)
    (part : Part s from (side_bytes (entry l) p)) where
  side_end : (on : Bool) → has_pins (entry l) p ≡ on → after s on p' (go_on from) ≡ go_on (from + length (side_bytes (entry l) p))
  unfolding after
  side_end true e = ap (λ (x : ℕ). after s true x (go_on from)) (same e) ∙ standing_read s (entry l) p from e part listed.small
  side_end false e = sym (ap (λ (b : List ℕ). go_on (from + length b)) (side_missing (entry l) p e) ∙ ap go_on (add-zero from))

  empty : has_pins (entry l) p ≡ false → (a : ℕ) → 1 ≤ a → entry l a ≡ 0
  unfolding has_pins
  empty e a h =
      ⊎_elim
      (λ le.
      split (is_filled (entry l) a)
      (λ t. absurd (true≢false (sym (some_of (is_filled (entry l)) p a (h, le) t) ∙ e)))
      (λ t. omega (arith, leb-false 1 (entry l a) t)))
      (listed.past a)
      (le_or_lt a p)

  side_pin : (on : Bool) → has_pins (entry l) p ≡ on → (i : ℕ) → pin_net s on from p' (i + 1) ≡ entry l (i + 1)
  side_pin true e i =
      ap (λ (x : ℕ). pin_net s true from x (i + 1)) (same e)
      ∙ ⊎_elim
      (λ le. pin_past s true from p (i + 1) (omega arith) ∙ sym (listed.past (i + 1) (omega arith)))
      (standing_pin s (entry l) p from e part i)
      (le_or_lt p i)
  side_pin false e i = pin_off s from p' (i + 1) ∙ sym (empty e (i + 1) (omega arith))

  side_pins : (on : Bool) → has_pins (entry l) p ≡ on → side_nets s on from p' ≡ l
  unfolding side_nets
  side_pins on e =
      let many = length_values (pin_net s on from p') 1 longest_side in
      ext_get_or 0 _ l (many ∙ sym listed.size)
      (λ i h.
      let one : 1 + i ≡ i + 1 = omega arith in
      get_d_values (pin_net s on from p') 1 longest_side i (rw many at h)
      ∙ ap (pin_net s on from p') one
      ∙ side_pin on e i
      ∙ ap (entry l) (add-one i))

  pub side_read : (on : Bool) → has_pins (entry l) p ≡ on → (c : Cursor) → c ≡ go_on from
      → (after s on p' c ≡ go_on (from + length (side_bytes (entry l) p))) × (side_nets s on c.at p' ≡ l)
  side_read on e c h = (ap (after s on p') h ∙ side_end on e, ap (λ (x : Cursor). side_nets s on x.at p') h ∙ side_pins on e)
