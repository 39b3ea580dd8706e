-- The places of a side, and its net bytes as a list and put at their places: a place has the next net byte times its bit.
use Prim.Native.Nat.{ℕ, zero, suc, ◌+◌, ◌-◌, ◌*◌, ◌/◌, ◌%◌, ◌^◌, ◌≤◌, ◌<◌}
use mathlib.Core.Bool.{Bool, true, false, and-false}
use mathlib.Core.List.{List}
use mathlib.Core.Logic.{⊎_elim}
use mathlib.Core.Path.{◌≡◌, refl, sym, ap, ◌∙◌}
use native.Mathlib.Nat.{add-zero}
use native.Mathlib.Numerals.{add-one}
use native.Mathlib.Omega.{arith}
use lib.ListN.{get_or}
use borrow.Author.Tests.{le-leb, lt-leb}
use Rattle.counting.specs.Counting.{bit}
use Rattle.counting.proofs.Sums.{split, bit_le, bit_one, bit_zero, sum_more, sum_grows}
use Rattle.terms.specs.Limits.{longest_side}
use Rattle.grid.specs.Legal.{entry}
use Rattle.ticket_sides.proofs.Bits.{bit_mod, standing_le}
use Rattle.ticket.proofs.Filled.{up_to, side_at_lem, values_same}
use Rattle.ticket_sides.proofs.Flags.{le_or_lt}
use Rattle.ticket_sides.specs.Format.{byte, is_on, stands, standing_bits, map_bytes, pin_net, side_list, net_list, side_nets}

-- ---- the places of a side, as a loop passes them

pub at_place : (s : List ℕ) (from i : ℕ) → stands s from (i + 1) ≡ is_on (byte s (from + i / 8)) (i % 8)
at_place s from i = let q : i + 1 - 1 ≡ i = omega arith in rw q

pub standing_one : (s : List ℕ) (from i : ℕ) → stands s from (i + 1) ≡ true → standing_bits s from (i + 1) ≡ standing_bits s from i + 1
standing_one s from i e = sum_more (λ a. bit (stands s from a)) i ∙ ap (λ (x : ℕ). standing_bits s from i + x) (bit_one e)

pub standing_none : (s : List ℕ) (from i : ℕ) → stands s from (i + 1) ≡ false → standing_bits s from (i + 1) ≡ standing_bits s from i
standing_none s from i e = sum_more (λ a. bit (stands s from a)) i ∙ ap (λ (x : ℕ). standing_bits s from i + x) (bit_zero e) ∙ add-zero _

-- a place that stands counts
pub standing_below : (s : List ℕ) (from p i : ℕ) → i < p → stands s from (i + 1) ≡ true → standing_bits s from i < standing_bits s from p
standing_below s from p i h t = omega (arith, standing_one s from i t, sum_grows (λ a. bit (stands s from a)) (i + 1) p (omega arith))

-- all of the first p places stand
module _ (s : List ℕ) (from p : ℕ) (all : standing_bits s from p ≡ p) where
  standing_back : (d i : ℕ) → i + d ≡ p → standing_bits s from i ≡ i
  standing_back zero i e = let q : i ≡ p = omega arith in rw q all
  standing_back (suc d) i e =
      omega (
        arith,
        standing_back d (i + 1) (omega arith),
        sum_more (λ a. bit (stands s from a)) i,
        bit_le (stands s from (i + 1)),
        standing_le s from i,
      )

  pub full_standing : (i : ℕ) → i ≤ p → standing_bits s from i ≡ i
  full_standing i h = standing_back (p - i) i (omega arith)

  pub full_stands : (i : ℕ) → i < p → stands s from (i + 1) ≡ true
  full_stands i h =
      split (stands s from (i + 1)) (λ e. e)
      (λ e. absurd (omega (arith, standing_none s from i e, full_standing i (omega arith), full_standing (i + 1) (omega arith))))

pub pin_stands : (s : List ℕ) (from p i : ℕ) → i < p → stands s from (i + 1) ≡ true → pin_net s true from p (i + 1) ≡ byte s
    (from + map_bytes p + standing_bits s from i)
unfolding pin_net
pin_stands s from p i h e = let q : i + 1 - 1 ≡ i = omega arith in rw (le-leb (i + 1) p (omega arith), e, q)

pub pin_empty : (s : List ℕ) (on : Bool) (from p a : ℕ) → stands s from a ≡ false → pin_net s on from p a ≡ 0
unfolding pin_net
pin_empty s on from p a e = simp (e, and-false)

pub pin_past : (s : List ℕ) (on : Bool) (from p a : ℕ) → p < a → pin_net s on from p a ≡ 0
unfolding pin_net
pin_past s on from p a h = simp (lt-leb a p h, and-false)

pub pin_off : (s : List ℕ) (from p a : ℕ) → pin_net s false from p a ≡ 0
unfolding pin_net
pin_off s from p a = refl

-- ---- the list

module _ (s : List ℕ) (from : ℕ) where
  -- the byte of place a
  abbrev pub net_of : ℕ → ℕ
  net_of a = byte s (from + (a - 1))

  pub net_of_lem : (j : ℕ) → net_of (j + 1) ≡ byte s (from + j)
  net_of_lem j = let back : j + 1 - 1 ≡ j = omega arith in rw back

  net_at_lem : (k j : ℕ) → k ≤ longest_side → j < k → get_or (net_list s from k) j 0 ≡ byte s (from + j)
  net_at_lem k j few h = ap (entry (net_list s from k)) (sym (add-one j)) ∙ side_at_lem net_of k (j + 1) few (omega arith) ∙ net_of_lem j

-- ---- its numbers at their places

pub times_bit : (m : ℕ) (b : Bool) → m * bit b ≤ m
times_bit m true = omega arith
times_bit m false = omega arith

module _ (s : List ℕ) (from p : ℕ) where
  pub place_bit : (i : ℕ) → byte s (from + i / 8) / 2 ^ (i % 8) % 2 ≡ bit (stands s from (i + 1))
  place_bit i = sym (ap bit (at_place s from i) ∙ bit_mod _)

  pub next_net : (i : ℕ) → standing_bits s from (i + 1) ≡ standing_bits s from i + bit (stands s from (i + 1))
  next_net i = sum_more (λ a. bit (stands s from a)) i

  abbrev nets : List ℕ
  nets = net_list s (from + map_bytes p) (standing_bits s from p)

  pub pin_product : p ≤ longest_side → (i : ℕ) → i < p
      → get_or nets (standing_bits s from i) 0 * bit (stands s from (i + 1)) ≡ pin_net s true from p (i + 1)
  pin_product few i h =
      split (stands s from (i + 1))
      (λ t.
      let less = standing_below s from p i h t in
      rw (bit_one t) (omega (
        arith,
        net_at_lem s (from + map_bytes p) (standing_bits s from p) (standing_bits s from i) (omega (arith, standing_le s from p)) less,
        pin_stands s from p i h t,
      )))
      (λ t. rw (bit_zero t) (omega (arith, pin_empty s true from p (i + 1) t)))

  -- a pin at each place: the list has them at their places
  pub full_list : standing_bits s from p ≡ p → net_list s (from + map_bytes p) p ≡ side_nets s true from p
  unfolding side_list side_nets
  full_list all = values_same (up_to (net_of s (from + map_bytes p)) p) (pin_net s true from p) longest_side 1 place
    where
      past : (i : ℕ) → p ≤ i → up_to (net_of s (from + map_bytes p)) p (i + 1) ≡ pin_net s true from p (i + 1)
      past i le = rw (lt-leb (i + 1) p (omega arith)) (sym (pin_past s true from p (i + 1) (omega arith)))

      here : (i : ℕ) → i < p → up_to (net_of s (from + map_bytes p)) p (i + 1) ≡ pin_net s true from p (i + 1)
      here i less =
          rw (le-leb (i + 1) p (omega arith)) (net_of_lem s (from + map_bytes p) i)
          ∙ ap (λ (x : ℕ). byte s (from + map_bytes p + x)) (sym (full_standing s from p all i (omega arith)))
          ∙ sym (pin_stands s from p i less (full_stands s from p all i less))

      place : (a : ℕ) → 1 ≤ a → a < 1 + longest_side → up_to (net_of s (from + map_bytes p)) p a ≡ pin_net s true from p a
      place zero h lt = absurd (omega arith)
      place (suc i) h lt = rw (← add-one) (⊎_elim (past i) (here i) (le_or_lt p i))
