-- The definitions of a ticket's bytes as code passes them, one place or byte more at a time, behind what was built before.
use Rattle.std.proofs.Common.{◌≡◌, ℕ, zero, suc, ◌+◌, ◌-◌, ◌*◌, ◌^◌, ◌≤◌, ◌<◌, ◌≢◌, ◌⊎◌, inl, inr, min, Bool, true, false, ◌&&◌, ◌||◌}
use Rattle.std.proofs.Common.{not, eqb, leb, List, [], ◌∷◌, ◌++◌, length, get_or, take, drop, refl, sym, ap, ap₂, ◌∙◌, add-one, zero-add}
use Rattle.std.proofs.Common.{arith, length-drop, append_assoc}
use Rattle.std.specs.List.{list_any}
use Rattle.std.proofs.lemmas.List.{append-nil, get_or-take, get_or-drop}
use Rattle.std.proofs.lemmas.List.Folds.{list_any_more}
use native.Mathlib.Decide.{dec_le}
use native.Mathlib.Nat.{pow-suc}
use lib.Pow.{pow_mono}
use lib.Seq.{length-take-le}
use borrow.Rule.Slice.PartMut.{mid_of}
use borrow.Author.Tests.{le-leb, lt-leb, ne_eqb}
use Rattle.counting.specs.Counting.{bit, sum, some}
use Rattle.counting.proofs.Sums.{sum_none, sum_more, sum_past}
use Rattle.grid.specs.Legal.{entry}
use Rattle.ticket_sides.specs.Format.{map_bytes, values_from}
use Rattle.ticket.proofs.Filled.{values_none, values_more}
use Rattle.ticket_bytes.specs.Bytes.{is_filled, has_pins, map_byte, nets_to, side_bytes}
use Rattle.ticket_bytes.proofs.MapAndNets as of_side

-- ---- whether a side has a pin

filled : (x : ℕ) → not (eqb x 0) ≡ leb 1 x
filled zero = refl
filled (suc x) = rw (ne_eqb (suc x) 0 (λ e. omega arith), le-leb 1 (suc x) (omega arith))

module _ (l : List ℕ) where
  pub found_none : false ≡ some (is_filled (entry l)) 0
  unfolding some
  found_none = refl

  pub found_more : (i : ℕ) → some (is_filled (entry l)) (i + 1) ≡ (some (is_filled (entry l)) i || not (eqb (get_or l i 0) 0))
  unfolding some
  found_more i = rw (add-one i, filled (get_or l i 0))

  pub found_all : (p : ℕ) → some (is_filled (entry l)) p ≡ has_pins (entry l) p
  unfolding has_pins
  found_all p = refl

-- the same of the pins as a list
some_filled : (l : List ℕ) (p : ℕ) → p ≤ length l → list_any (λ x. not (eqb x 0)) (take p l) ≡ some (is_filled (entry l)) p
unfolding some
some_filled l zero h = refl
some_filled l (suc p) h =
    rw (← add-one p) (list_any_more (λ x. not (eqb x 0)) l p 0 (omega arith))
    ∙ ap₂ (λ (a b : Bool). a || b) (some_filled l p (omega arith)) (filled (get_or l p 0))

pub any_pins : (l : List ℕ) (p : ℕ) → p ≤ length l → list_any (λ x. not (eqb x 0)) (take p l) ≡ has_pins (entry l) p
unfolding has_pins
any_pins l p h = some_filled l p h

-- ---- a byte of the map

pub doubled : (b power : ℕ) → b < 8 → power ≡ 2 ^ b → (power * 2 ≡ 2 ^ (b + 1)) × (power * 2 ≤ 256)
doubled b power few e =
    let twice : power * 2 ≡ 2 ^ (b + 1) = ap (λ (x : ℕ). x * 2) e ∙ sym (rw (add-one b) (pow-suc 2 b)) in
    (twice, rw twice (pow_mono {j = 8} (omega arith)))

module _ (f : ℕ → ℕ) (p j : ℕ) where
  abbrev value_at : ℕ → ℕ
  value_at b = bit (leb (8 * j + b) p && is_filled f (8 * j + b)) * 2 ^ (b - 1)

  -- the sum of the values of the lowest b bits
  abbrev pub lowest : ℕ → ℕ
  lowest b = sum value_at b

  pub lowest_none : 0 ≡ lowest 0
  lowest_none = sym (sum_none value_at)

  pub lowest_more : (b power : ℕ) (t : Bool) → power ≡ 2 ^ b → t ≡ (leb (8 * j + b + 1) p && is_filled f (8 * j + b + 1))
      → lowest (b + 1) ≡ lowest b + bit t * power
  lowest_more b power t e h =
      let back : b + 1 - 1 ≡ b = omega arith in
      let place : 8 * j + (b + 1) ≡ 8 * j + b + 1 = omega arith in
      sum_more value_at b ∙ ap (λ (x : ℕ). lowest b + x) (rw (place, back, ← e, ← h))

  lowest_all : (b : ℕ) → b ≤ 8 → b ≡ 8 ⊎ p ≤ 8 * j + b → lowest b ≡ lowest 8
  lowest_all b few (inl e) = ap lowest e
  lowest_all b few (inr h) = sum_past value_at b 8 few (λ a past. rw (lt-leb (8 * j + a) p (omega arith)) (omega arith))

-- the part of a side's list that byte j maps
module _ (l : List ℕ) (p j end : ℕ) (cut : end ≡ min p (8 * j + 8)) (long : p ≤ length l) (begun : 8 * j ≤ p) where
  abbrev part : List ℕ
  part = mid_of (8 * j) (end - 8 * j) l

  part_length : length part ≡ end - 8 * j
  part_length = length-take-le (end - 8 * j) (drop (8 * j) l) (omega (arith, length-drop (8 * j) l))

  module _ (b : ℕ) (within : b < length part) where
    here : get_or part b 0 ≡ get_or l (8 * j + b) 0
    here = get_or-take (end - 8 * j) (drop (8 * j) l) b 0 (omega (arith, part_length)) ∙ get_or-drop (8 * j) l b 0

    place : entry l (8 * j + b + 1) ≡ get_or part b 0
    place = rw (add-one (8 * j + b)) (sym here)

    pub eight : b < 8
    eight = omega (arith, part_length)

    inside : leb (8 * j + b + 1) p ≡ true
    inside = le-leb (8 * j + b + 1) p (omega (arith, part_length))

    pub bit_more : get_or part b 0 ≢ 0 → lowest (entry l) p j (b + 1) ≡ lowest (entry l) p j b + 2 ^ b
    bit_more some =
        let stands = le-leb 1 (get_or part b 0) (omega arith) in
        omega (arith, lowest_more (entry l) p j b (2 ^ b) true refl (sym (rw (inside, place, stands))))

    pub bit_same : get_or part b 0 ≡ 0 → lowest (entry l) p j (b + 1) ≡ lowest (entry l) p j b
    bit_same none =
        let spare = lt-leb 1 (get_or part b 0) (omega arith) in
        omega (arith, lowest_more (entry l) p j b (2 ^ b) false refl (sym (rw (inside, place, spare))))

  pub all_bits : (b : ℕ) → length part ≤ b → b ≤ length part → lowest (entry l) p j b ≡ map_byte (entry l) p j
  unfolding map_byte
  all_bits b over under =
      lowest_all (entry l) p j b (omega (arith, part_length))
      (elim (dec_le p (8 * j + b)) [ yes h ↦ inr h | no h ↦ inl (omega (arith, part_length)) ])

-- ---- the map, and the net numbers

pub values_start : (l : List ℕ) (f : ℕ → ℕ) → l ++ values_from f 0 0 ≡ l
values_start l f = rw values_none (append-nil l)

pub values_step : (l : List ℕ) (f : ℕ → ℕ) (k : ℕ) → l ++ values_from f 0 (k + 1) ≡ l ++ values_from f 0 k ++ f k ∷ []
values_step l f k =
    ap (λ (x : List ℕ). l ++ x) (values_more f 0 k (ap f (sym (zero-add k)))) ∙ sym (append_assoc l (values_from f 0 k) (f k ∷ []))

pub nets_start : (before l : List ℕ) → before ++ nets_to (entry l) 0 ≡ before
unfolding nets_to
nets_start before l = append-nil before

module _ (before l : List ℕ) (i : ℕ) where
  pub nets_more : get_or l i 0 ≢ 0 → before ++ nets_to (entry l) (i + 1) ≡ before ++ nets_to (entry l) i ++ get_or l i 0 ∷ []
  unfolding nets_to
  nets_more h = rw (add-one i, le-leb 1 (get_or l i 0) (omega arith)) (sym (append_assoc before (nets_to (entry l) i) (get_or l i 0 ∷ [])))

  pub nets_same : get_or l i 0 ≡ 0 → before ++ nets_to (entry l) (i + 1) ≡ before ++ nets_to (entry l) i
  unfolding nets_to
  nets_same h = rw (add-one i, lt-leb 1 (get_or l i 0) (omega arith), append-nil)

-- ---- a side

pub side_standing : (before : List ℕ) (f : ℕ → ℕ) (p : ℕ) → has_pins f p ≡ true
    → before ++ side_bytes f p ≡ before ++ values_from (map_byte f p) 0 (map_bytes p) ++ nets_to f p
side_standing before f p h =
    rw (of_side.side_standing f p h) (sym (append_assoc before (values_from (map_byte f p) 0 (map_bytes p)) (nets_to f p)))

pub side_missing : (before : List ℕ) (f : ℕ → ℕ) (p : ℕ) → has_pins f p ≡ false → before ++ side_bytes f p ≡ before
side_missing before f p h = rw (of_side.side_missing f p h) (append-nil before)
