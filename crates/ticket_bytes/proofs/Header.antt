-- The header that was written is read: a side stands only where the kind has it, and its bit of the side map says so.
use Prim.Native.Nat.{ℕ, ◌+◌, ◌*◌, ◌≤◌}
use mathlib.Core.Path.{◌≡◌, refl, sym, ap, ◌∙◌}
use mathlib.Core.Logic.{◌≢◌, by_cases}
use mathlib.Core.Bool.{Bool, true, false, true≢false}
use native.Mathlib.Decide.{ℕ_discrete}
use native.Mathlib.Omega.{arith}
use lib.Dec.{leb}
use borrow.Author.Tests.{le-leb}
use Rattle.counting.specs.Counting.{bit}
use Rattle.counting.proofs.Sums.{bit_le, bit_zero}
use Rattle.counting.proofs.Counts.{some_none}
use Rattle.terms.specs.Kinds.{Side, north, south, west, east, box, has_side, largest_side_map}
use Rattle.terms.proofs.Laws.{Known, is_row, is_channel, is_box, is_two_layer, known, within_of, of_box}
use Rattle.problem.specs.declared.Problem.{Problem}
use Rattle.problem.specs.Problem.{width_of, Good}
use Rattle.ticket_sides.specs.Format.{is_on}
use Rattle.ticket_sides.specs.Stages.{fields_of}
use Rattle.ticket_sides.specs.declared.Cursor.{Cursor}
use Rattle.ticket_bytes.specs.Bytes.{has_pins, side_stands, side_map}
use Rattle.ticket_bytes.proofs.Expansion.{one_bit}

-- ---- the bits of the side map

pub record Bits (x : ℕ) (a b c d : Bool) : Type 0 where
  pub north : is_on x 0 ≡ a
  pub south : is_on x 1 ≡ b
  pub west : is_on x 2 ≡ c
  pub east : is_on x 3 ≡ d

bits : (a b c d : Bool) → Bits (bit a + 2 * bit b + 4 * bit c + 8 * bit d) a b c d
bits a b c d =
    let x = bit a + 2 * bit b + 4 * bit c + 8 * bit d in
    let la = bit_le a in
    let lb = bit_le b in
    let lc = bit_le c in
    let ld = bit_le d in
    record {
      north = one_bit x 0 a (omega arith);
      south = one_bit x 1 b (omega arith);
      west = one_bit x 2 c (omega arith);
      east = one_bit x 3 d (omega arith);
    }

pub map_bits : (q : Problem) → Bits (side_map q) (side_stands q north) (side_stands q south) (side_stands q west) (side_stands q east)
unfolding side_map
map_bits q = bits (side_stands q north) (side_stands q south) (side_stands q west) (side_stands q east)

-- ---- the fields of a good problem

module _ (q : Problem) (good : Good q) where
  lacking : (s : Side) → has_side q.kind s ≡ false → side_stands q s ≡ false
  unfolding has_pins
  lacking s e = some_none _ _ (λ a i. ap (leb 1) (good.bare s e a))

  one : (s : Side) → bit (side_stands q s) ≤ 1
  one s = bit_le (side_stands q s)

  none : {k : ℕ} (s : Side) → q.kind ≡ k → has_side k s ≡ false → bit (side_stands q s) ≡ 0
  none s e h = bit_zero (lacking s (ap (λ (x : ℕ). has_side x s) e ∙ h))

  small_map : {k : ℕ} → Known k → q.kind ≡ k → side_map q ≤ largest_side_map k
  unfolding side_map
  small_map is_row e = omega (arith, one north, none south e refl, none west e refl, none east e refl)
  small_map is_channel e = omega (arith, one north, one south, none west e refl, none east e refl)
  small_map is_box e = omega (arith, one north, one south, one west, one east)
  small_map is_two_layer e = omega (arith, one north, one south, none west e refl, none east e refl)

  -- the width that a standing side was written by is byte 2
  pub width : (s : Side) → (q.kind ≢ box → has_side q.kind s ≡ false) → side_stands q s ≡ true → q.byte2 ≡ width_of q
  width s no_box t =
      by_cases (ℕ_discrete q.kind box)
      (λ e. sym (of_box q.kind 1 1 1 q.byte2 1 e))
      (λ ne. absurd (true≢false (sym t ∙ lacking s (no_box ne))))

  pub fields_read : (rest : Cursor) → fields_of q.kind q.n.0 q.byte2 rest ≡ rest
  unfolding fields_of
  fields_read rest = rw (good.kind, within_of q.n.0 _ good.columns, within_of q.byte2 _ good.byte2)

  pub map_read : leb (side_map q) (largest_side_map q.kind) ≡ true
  map_read = le-leb (side_map q) _ (small_map (known q.kind good.kind) refl)
