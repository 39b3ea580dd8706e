-- A net's pins are as many as its net bytes.
use Prim.Native.Nat.{ℕ, zero, suc, ◌+◌, ◌-◌, ◌≤◌, ◌<◌}
use mathlib.Core.Bool.{Bool, true, false}
use mathlib.Core.List.{List}
use mathlib.Core.Logic.{◌≢◌}
use mathlib.Core.Path.{◌≡◌, refl, sym, ap, ◌∙◌}
use native.Mathlib.Numerals.{add-one}
use native.Mathlib.Omega.{arith}
use lib.Dec.{eqb}
use borrow.Author.Tests.{ne_eqb}
use Rattle.counting.specs.Counting.{bit, count}
use Rattle.counting.proofs.Sums.{split, bit_zero, sum_none, sum_more, sum_zero}
use Rattle.counting.proofs.Counts.{count_same}
use Rattle.grid.specs.Legal.{entry}
use Rattle.terms.specs.Limits.{longest_side}
use Rattle.ticket.specs.Read.{pins_at}
use Rattle.ticket.proofs.Placed.{standing_one, standing_none, pin_stands, pin_empty, pin_past, pin_off}
use Rattle.ticket.proofs.Filled.{entry_values}
use Rattle.problem.specs.Problem.{pins_in, pin_count}
use Rattle.ticket_sides.specs.Format.{byte, stands, standing_bits, map_bytes, pin_net, side_nets}
use Rattle.ticket.specs.Steps.{Extent, Extents}
use Rattle.ticket_sides.specs.Steps.{Header}
use Rattle.ticket_sides.specs.declared.Ends.{Ends}
use Rattle.table.specs.Decide.{times}

-- ---- a net's pins on a side

zero_is_not : (x v : ℕ) → v ≢ 0 → x ≡ 0 → bit (eqb x v) ≡ 0
zero_is_not x v some z = bit_zero (ne_eqb x v (λ e. some (sym e ∙ z)))

module _ (s : List ℕ) (from p v : ℕ) (some : v ≢ 0) where
  abbrev holds : ℕ → ℕ
  holds a = bit (eqb (pin_net s true from p a) v)

  abbrev byte_holds : ℕ → ℕ
  byte_holds j = bit (eqb (byte s (from + map_bytes p + (j - 1))) v)

  -- a place that stands has the next net byte, any other has none
  count_place : (i : ℕ) → i < p → count (λ a. eqb (pin_net s true from p a) v) i ≡ times s v (from + map_bytes p) (standing_bits s from i)
      → count (λ a. eqb (pin_net s true from p a) v) (i + 1) ≡ times s v (from + map_bytes p) (standing_bits s from (i + 1))
  count_place i h e =
      let k = standing_bits s from i in
      split (stands s from (i + 1))
      (λ t.
      let back : k ≡ k + 1 - 1 = omega arith in
      let net = pin_stands s from p i h t ∙ ap (λ (x : ℕ). byte s (from + map_bytes p + x)) back in
      omega (
        arith,
        sum_more holds i,
        sum_more byte_holds k,
        ap (times s v (from + map_bytes p)) (standing_one s from i t),
        ap
            (λ (x : ℕ). bit (eqb x v)) net,
      ))
      (λ t.
      omega (
        arith,
        sum_more holds i,
        ap (times s v (from + map_bytes p)) (standing_none s from i t),
        zero_is_not _ v some
            (pin_empty s true from p (i + 1) t),
      ))

  count_places : (i : ℕ) → i ≤ p → count (λ a. eqb (pin_net s true from p a) v) i ≡ times s v (from + map_bytes p) (standing_bits s from i)
  count_places zero h = sum_none holds ∙ sym (ap (times s v (from + map_bytes p)) (sum_none (λ a. bit (stands s from a))) ∙ sum_none byte_holds)
  count_places (suc i) h = rw (← add-one) (count_place i (omega arith) (count_places i (omega arith)))

  count_past : (d : ℕ) → count (λ a. eqb (pin_net s true from p a) v) (p + d) ≡ count (λ a. eqb (pin_net s true from p a) v) p
  count_past zero = let q : p + 0 ≡ p = omega arith in rw q
  count_past (suc d) =
      let q : p + suc d ≡ p + d + 1 = omega arith in
      rw q (omega (arith, sum_more holds (p + d), count_past d, zero_is_not _ v some (pin_past s true from p (p + d + 1) (omega arith))))

  count_standing : p ≤ longest_side → count (λ a. eqb (pin_net s true from p a) v) longest_side ≡ times s v (from + map_bytes p) (standing_bits s from p)
  count_standing few =
      let q : p + (longest_side - p) ≡ longest_side = omega arith in
      ap (count (λ a. eqb (pin_net s true from p a) v)) (sym q) ∙ count_past (longest_side - p) ∙ count_places p (omega arith)

-- the places that hold net v are as many as the net bytes that are v
pub side_count : (s : List ℕ) (on : Bool) (from p end v : ℕ) → v ≢ 0 → p ≤ longest_side → Extent s on from p end
    → count (λ a. eqb (entry (side_nets s on from p) a) v) longest_side ≡ times s v (from + map_bytes p) (end - (from + map_bytes p))
unfolding side_nets
side_count s on from p end v some few w =
    count_same _ (λ a. eqb (pin_net s on from p a) v) longest_side (λ a i. ap (λ (x : ℕ). eqb x v) (entry_values (pin_net s on from p) longest_side a i))
    ∙ by_side on w
  where
    by_side : (b : Bool) → Extent s b from p end
        → count (λ a. eqb (pin_net s b from p a) v) longest_side ≡ times s v (from + map_bytes p) (end - (from + map_bytes p))
    by_side true t =
        let q : standing_bits s from p ≡ end - (from + map_bytes p) = omega (arith, t.stands refl) in
        count_standing s from p v some few ∙ ap (times s v (from + map_bytes p)) q
    by_side false t =
        let q : end - (from + map_bytes p) ≡ 0 = omega (arith, t.lacks refl) in
        sum_zero (λ a. bit (eqb (pin_net s false from p a) v)) longest_side (λ a i. zero_is_not _ v some (pin_off s from p a))
        ∙ sym (ap (times s v (from + map_bytes p)) q ∙ sum_none (λ j. bit (eqb (byte s (from + map_bytes p + (j - 1))) v)))

-- a net's pins on all sides
module _ (s : List ℕ) (ends : Ends) (v : ℕ) where
  abbrev on_side : ℕ → ℕ → ℕ → ℕ
  on_side from p end = times s v (from + map_bytes p) (end - (from + map_bytes p))

  pub pin_count_lem : v ≢ 0 → Header s → Extents s ends
      → pin_count (pins_in (pins_at s ends)) v
      ≡ on_side 4 (byte s 1) ends.north.at + on_side ends.north.at (byte s 1) ends.south.at
      + on_side ends.south.at (byte s 2) ends.west.at + on_side ends.west.at (byte s 2) ends.east.at
  unfolding pin_count
  pin_count_lem some h w =
      omega (
        arith,
        side_count s _ _ _ _ v some h.one.1 w.north,
        side_count s _ _ _ _ v some h.one.1 w.south,
        side_count s _ _ _ _ v some h.two.1 w.west,
        side_count s _ _ _ _ v some h.two.1 w.east,
      )
