-- A side that Read passed gives its own bytes back: a place is filled where its bit stands, so the map is the same bit by bit, and the net
-- bytes follow in the same order.
use Prim.Native.Nat.{ℕ, zero, suc, ◌+◌, ◌-◌, ◌*◌, ◌/◌, ◌%◌, ◌^◌, ◌≤◌, ◌<◌}
use mathlib.Core.Bool.{Bool, true, false, cond, ◌&&◌, and-eq-true_iff}
use mathlib.Core.List.{List, [], ◌∷◌, ◌++◌, append_assoc}
use mathlib.Core.Logic.{⊎_elim}
use mathlib.Core.Path.{◌≡◌, refl, sym, ap, ◌∙◌, subst}
use native.Mathlib.Nat.{add-zero, zero-add}
use native.Mathlib.Numerals.{add-one}
use native.Mathlib.Omega.{arith}
use lib.Dec.{leb}
use lib.ListN.{length, drop}
use lib.Seq.{drop-cons}
use borrow.Author.Tests.{eqb-true, le-leb, lt-leb, leb-true}
use Rattle.counting.specs.Counting.{In, bit, sum}
use Rattle.counting.proofs.Sums.{split, bit_zero, sum_same, sum_grows, sum_some}
use Rattle.counting.proofs.Counts.{some_of, some_none}
use Rattle.terms.specs.Limits.{longest_side}
use Rattle.grid.specs.Legal.{entry}
use Rattle.ticket_sides.proofs.Flags.{le_or_lt}
use Rattle.ticket_sides.specs.Format.{byte, is_on, stands, standing_bits, map_bytes, good_map, pin_net, side_nets}
use Rattle.ticket_sides.specs.Stages.{after}
use Rattle.ticket_sides.specs.declared.Cursor.{Cursor}
use Rattle.ticket.specs.Steps.{Extent}
use Rattle.ticket.proofs.Laws.{NetByte, nets_each}
use Rattle.ticket.proofs.Filled.{entry_values}
use Rattle.ticket.proofs.Placed.{standing_one, standing_none, standing_below, pin_stands, pin_empty, pin_off}
use Rattle.ticket.proofs.Extents.{side_read}
use Rattle.ticket_bytes.specs.Bytes.{Bytes, is_filled, has_pins, map_byte, nets_to, side_bytes}
use Rattle.ticket_bytes.proofs.ByteBits.{all_bits}
use Rattle.ticket_bytes.proofs.ListBack.{values_drop}

-- ---- what a side that was passed says

-- a side whose map starts at byte from of s
record Passed (s : List ℕ) (from p : ℕ) : Type 0 where
  map : from + map_bytes p ≤ length s
  some : 1 ≤ standing_bits s from p
  spare : standing_bits s from (8 * map_bytes p) ≡ standing_bits s from p
  nets : (j : ℕ) → j < standing_bits s from p → NetByte 1 s (from + map_bytes p + j)

side_passed : (s : List ℕ) (p : ℕ) (c : Cursor) → (after s true p c).refusal.number ≡ 0 → Passed s c.at p
unfolding good_map
side_passed s p c e =
    let r = side_read s p c e in
    let g = (and-eq-true_iff (leb 1 (standing_bits s c.at p)) _).0 r.good in
    record {
      map = r.map;
      some = leb-true _ _ g.0;
      spare = eqb-true _ _ g.1;
      nets = λ j. nets_each 1 s (standing_bits s c.at p) (c.at + map_bytes p) j r.nets;
    }

-- ---- a side that stands

module _ (s : List ℕ) (from p : ℕ) (r : Passed s from p) (f : ℕ → ℕ) (same : (a : ℕ) → In a p → f a ≡ pin_net s true from p a) where
  net_at_lem : (i : ℕ) → i < p → stands s from (i + 1) ≡ true → f (i + 1) ≡ byte s (from + map_bytes p + standing_bits s from i)
  net_at_lem i h t = same (i + 1) (omega arith) ∙ pin_stands s from p i h t

  filled : (i : ℕ) → i < p → is_filled f (i + 1) ≡ stands s from (i + 1)
  filled i h =
      split (stands s from (i + 1))
      (λ t. le-leb 1 (f (i + 1)) (rw (net_at_lem i h t) (r.nets (standing_bits s from i) (standing_below s from p i h t)).enough) ∙ sym t)
      (λ t. lt-leb 1 (f (i + 1)) (omega (arith, same (i + 1) (omega arith), pin_empty s true from p (i + 1) t)) ∙ sym t)

  filled_at : (a : ℕ) → In a p → is_filled f a ≡ stands s from a
  filled_at zero i = absurd (omega arith)
  filled_at (suc k) i = subst (λ (a : ℕ). is_filled f a ≡ stands s from a) (add-one k) (filled k (omega arith))

  some_pin : has_pins f p ≡ true
  unfolding has_pins
  some_pin =
      let (a, i, one) = sum_some (λ a. bit (stands s from a)) p r.some in
      some_of (is_filled f) p a i (filled_at a i ∙ split (stands s from a) (λ t. t) (λ t. absurd (omega (arith, bit_zero t))))

  -- no bit past the places stands
  none_spare : (i : ℕ) → p ≤ i → i < 8 * map_bytes p → stands s from (i + 1) ≡ false
  none_spare i past h =
      split (stands s from (i + 1))
      (λ t. absurd (omega (
        arith,
        r.spare,
        standing_one s from i t,
        sum_grows (λ a. bit (stands s from a)) p i past,
        sum_grows (λ a. bit (stands s from a)) (i + 1) (8 * map_bytes p) (omega arith),
      )))
      (λ t. t)

  bit_same : (i : ℕ) → i < 8 * map_bytes p → (leb (i + 1) p && is_filled f (i + 1)) ≡ stands s from (i + 1)
  bit_same i h =
      ⊎_elim
      (λ past. rw (lt-leb (i + 1) p (omega arith)) (sym (none_spare i past h)))
      (λ lt. rw (le-leb (i + 1) p (omega arith)) (filled i lt)) (le_or_lt p i)

  map_bit : (j d : ℕ) → j < map_bytes p → d < 8 → (leb (8 * j + suc d) p && is_filled f (8 * j + suc d)) ≡ is_on (byte s (from + j)) d
  map_bit j d h lt =
      let up : 8 * j + suc d ≡ 8 * j + d + 1 = omega arith in
      let whole : (8 * j + d + 1 - 1) / 8 ≡ j = omega arith in
      let rest : (8 * j + d + 1 - 1) % 8 ≡ d = omega arith in
      rw (up, bit_same (8 * j + d) (omega arith), whole, rest)

  map_byte_lem : Bytes s → (j : ℕ) → j < map_bytes p → map_byte f p j ≡ byte s (from + j)
  unfolding map_byte
  map_byte_lem b j h =
      sum_same _ (λ d. bit (is_on (byte s (from + j)) (d - 1)) * 2 ^ (d - 1)) 8 each
      ∙ all_bits (byte s (from + j)) 8 (b.small (from + j))
    where
      each : (d : ℕ) → In d 8
          → bit (leb (8 * j + d) p && is_filled f (8 * j + d)) * 2 ^ (d - 1) ≡ bit (is_on (byte s (from + j)) (d - 1)) * 2 ^ (d - 1)
      each zero i = absurd (omega arith)
      each (suc d) i = let back : suc d - 1 ≡ d = omega arith in rw (back, map_bit j d h (omega arith))

  -- the rest of the list once the nets of the first k places are taken
  abbrev left : ℕ → List ℕ
  left k = drop (from + map_bytes p + standing_bits s from k) s

  abbrev net_here : ℕ → List ℕ
  net_here a = cond (is_filled f a) (f a ∷ []) []

  net_drop : (i : ℕ) → i < p → net_here (i + 1) ++ left (i + 1) ≡ left i
  net_drop i h =
      split (stands s from (i + 1))
      (λ t.
      let there = (r.nets (standing_bits s from i) (standing_below s from p i h t)).there in
      let one = standing_one s from i t in
      let next : from + map_bytes p + standing_bits s from (i + 1) ≡ suc (from + map_bytes p + standing_bits s from i) = omega arith in
      rw (filled i h, t, net_at_lem i h t, next) (sym (drop-cons s _ 0 there)))
      (λ t. rw (filled i h, t, standing_none s from i t))

  nets_drop : (k : ℕ) → k ≤ p → nets_to f k ++ left k ≡ drop (from + map_bytes p) s
  unfolding nets_to sum
  nets_drop zero h = ap (λ (x : ℕ). drop x s) (add-zero (from + map_bytes p))
  nets_drop (suc k) h =
      let here : net_here (suc k) ++ left (suc k) ≡ left k = subst (λ (a : ℕ). net_here a ++ left a ≡ left k) (add-one k) (net_drop k h) in
      append_assoc (nets_to f k) (net_here (suc k)) (left (suc k)) ∙ ap (λ (l : List ℕ). nets_to f k ++ l) here ∙ nets_drop k (omega arith)

  stands_drop : Bytes s → side_bytes f p ++ left p ≡ drop from s
  unfolding side_bytes
  stands_drop b =
      rw (some_pin, append_assoc, nets_drop p (omega arith))
      (values_drop s (map_byte f p) 0 from (map_bytes p) r.map (λ x lt. rw zero-add (map_byte_lem b x lt)))

-- ---- one that does not

module _ (f : ℕ → ℕ) (p : ℕ) (bare : (a : ℕ) → In a p → f a ≡ 0) where
  no_pin : has_pins f p ≡ false
  unfolding has_pins
  no_pin = some_none (is_filled f) p (λ a i. lt-leb 1 (f a) (omega (arith, bare a i)))

  no_bytes : side_bytes f p ≡ []
  unfolding side_bytes
  no_bytes = rw no_pin

-- ---- either

-- the side's bytes are those of the list from byte from to byte end
pub record Back (s : List ℕ) (on : Bool) (f : ℕ → ℕ) (p from end : ℕ) : Type 0 where
  pub stands : has_pins f p ≡ on
  pub bytes : side_bytes f p ++ drop end s ≡ drop from s

pin_at : (s : List ℕ) (on : Bool) (from p a : ℕ) → In a longest_side → entry (side_nets s on from p) a ≡ pin_net s on from p a
unfolding side_nets
pin_at s on from p = entry_values (pin_net s on from p) longest_side

stands_back : (s : List ℕ) → Bytes s → (p : ℕ) → p ≤ longest_side → (c : Cursor) → (after s true p c).refusal.number ≡ 0
    → Extent s true c.at p (after s true p c).at → Back s true (entry (side_nets s true c.at p)) p c.at (after s true p c).at
stands_back s b p few c e x =
    let f = entry (side_nets s true c.at p) in
    let r = side_passed s p c e in
    let same : (a : ℕ) → In a p → f a ≡ pin_net s true c.at p a = λ a i. pin_at s true c.at p a (omega arith) in
    record {
      stands = some_pin s c.at p r f same;
      bytes = ap (λ (n : ℕ). side_bytes f p ++ drop n s) (x.stands refl) ∙ stands_drop s c.at p r f same b;
    }

-- the map was read by p; p' is the side's number of places, the same where the side stands
pub side_back : (s : List ℕ) → Bytes s → (on : Bool) (p p' : ℕ) → (on ≡ true → p' ≡ p) → p' ≤ longest_side
    → (c : Cursor) → (after s on p c).refusal.number ≡ 0 → Extent s on c.at p (after s on p c).at
    → Back s on (entry (side_nets s on c.at p)) p' c.at (after s on p c).at
side_back s b true p p' q few c e x =
    subst (λ (k : ℕ). Back s true (entry (side_nets s true c.at p)) k c.at (after s true p c).at) (sym (q refl))
    (stands_back s b p (omega (arith, q refl)) c e x)
side_back s b false p p' q few c e x =
    let f = entry (side_nets s false c.at p) in
    let bare : (a : ℕ) → In a p' → f a ≡ 0 = λ a i. pin_at s false c.at p a (omega arith) ∙ pin_off s c.at p a in
    record {
      stands = no_pin f p' bare;
      bytes = ap (λ (l : List ℕ). l ++ drop (after s false p c).at s) (no_bytes f p' bare) ∙ ap (λ (n : ℕ). drop n s) (x.lacks refl);
    }
