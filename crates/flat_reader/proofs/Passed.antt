-- A flat ticket that is accepted: each stage of its reading was passed and says its part; these parts make its problem good.
use Prim.Native.Nat.{ℕ, ◌+◌, ◌-◌, ◌≤◌, ◌<◌}
use mathlib.Core.Path.{◌≡◌, sym, subst}
use mathlib.Core.Bool.{false}
use mathlib.Core.Logic.{⊎_elim}
use mathlib.Core.List.{List}
use native.Mathlib.Omega.{arith}
use lib.ListN.{length}
use Rattle.counting.specs.Counting.{In}
use Rattle.counting.proofs.Sums.{split}
use Rattle.terms.specs.Kinds.{Side, north, south, west, east, has_side}
use Rattle.terms.specs.Limits.{largest_net, longest_side}
use Rattle.grid.specs.Grid.{places}
use Rattle.grid.specs.Legal.{entry}
use Rattle.problem.specs.Problem.{pins_in, lone_net, net_count, shape_of, Good}
use Rattle.ticket_sides.specs.Format.{byte, net_list}
use Rattle.ticket_sides.specs.Steps.{Header}
use Rattle.ticket_sides.proofs.Flags.{le_or_lt}
use Rattle.ticket.specs.declared.Reading.{Reading}
use Rattle.ticket.specs.Read.{left_over, no_lone, accepted_reading, problem_at}
use Rattle.ticket.specs.Steps.{Sited}
use Rattle.ticket.proofs.Filled.{side_at_lem, side_past}
use Rattle.ticket.proofs.Good.{stages, none_left, none_alone, problem_good}
use Rattle.ticket.proofs.Laws.{Fields, start_good, nets_each, nets_extent}
use Rattle.ticket.proofs.Sited.{fits}
use Rattle.flat_reader.specs.Flat.{places_in, places_from, place_count, flat_header, places_end, flat_pins, flat_ticket_of}
use Rattle.flat_reader.proofs.Sides.{places_le, lacked, own}

-- ---- the header and the places

pub head_good : (s : List ℕ) → (flat_header s).refusal.number ≡ 0 → Header s × Fields (byte s 0) (byte s 1) (byte s 2)
unfolding flat_header
head_good s e = let g = start_good s _ e in (g.0, g.1)

pub few : (s : List ℕ) → Header s → (side : Side) → places_in s side ≤ longest_side
few s head side = places_le (byte s 0) (byte s 1) (byte s 2) side head.one.1 head.two.1

-- the places of each side lie among all of them
module _ (s : List ℕ) where
  pub side_end : (side : Side) → places_from s side + places_in s side ≤ 3 + place_count s
  unfolding place_count
  side_end north = omega arith
  side_end south = omega arith
  side_end west = omega arith
  side_end east = omega arith

  side_start : (side : Side) → 3 ≤ places_from s side
  side_start north = omega arith
  side_start south = omega arith
  side_start west = omega arith
  side_start east = omega arith

module _ (s : List ℕ) (head : Header s) (read : (places_end s).refusal.number ≡ 0) where
  pub places_end_lem : ((places_end s).at ≡ 3 + place_count s) × (3 + place_count s ≤ length s)
  unfolding places_end
  places_end_lem = nets_extent 0 s (place_count s) 3 (omega (arith, head.size)) read

  place_small : (side : Side) (a : ℕ) → In a (places_in s side) → byte s (places_from s side + (a - 1)) ≤ largest_net
  unfolding places_end
  place_small side a i =
      let up : 3 + (places_from s side + (a - 1) - 3) ≡ places_from s side + (a - 1) = omega (arith, side_start s side) in
      subst (λ (j : ℕ). byte s j ≤ largest_net) up
      (nets_each 0 s (place_count s) 3 _ read (omega (arith, side_start s side, side_end s side))).small

  abbrev place_byte : Side → ℕ → ℕ
  place_byte side a = byte s (places_from s side + (a - 1))

  -- a side's list, by its places
  small_list : (side : Side) (a : ℕ) → entry (net_list s (places_from s side) (places_in s side)) a ≤ largest_net
  small_list side a =
      ⊎_elim
      (λ le.
      ⊎_elim
      (λ one. omega (arith, side_at_lem (place_byte side) (places_in s side) a (few s head side) (one, le), place_small side a (one, le)))
      (λ zero. let q : a ≡ 0 = omega arith in rw q (omega arith))
      (le_or_lt 1 a))
      (λ lt. omega (arith, side_past (place_byte side) (places_in s side) a lt))
      (le_or_lt a (places_in s side))

  numbered : (side : Side) (a : ℕ) → pins_in (flat_pins s) side a ≤ largest_net
  numbered north = small_list north
  numbered south = small_list south
  numbered west = small_list west
  numbered east = small_list east

pub past_places : (s : List ℕ) (side : Side) (a : ℕ) → places_in s side < a → pins_in (flat_pins s) side a ≡ 0
past_places s north a = side_past (λ a. byte s (places_from s north + (a - 1))) (places_in s north) a
past_places s south a = side_past (λ a. byte s (places_from s south + (a - 1))) (places_in s south) a
past_places s west a = side_past (λ a. byte s (places_from s west + (a - 1))) (places_in s west) a
past_places s east a = side_past (λ a. byte s (places_from s east + (a - 1))) (places_in s east) a

module _ (s : List ℕ) (fields : Fields (byte s 0) (byte s 1) (byte s 2)) where
  pub flat_bare : (side : Side) → has_side (byte s 0) side ≡ false → (a : ℕ) → pins_in (flat_pins s) side a ≡ 0
  flat_bare side e a =
      ⊎_elim
      (λ one. past_places s side a (omega (arith, lacked (byte s 0) (byte s 1) (byte s 2) side e)))
      (λ zero. first side (omega arith))
      (le_or_lt 1 a)
    where
      first : (side : Side) → a ≡ 0 → pins_in (flat_pins s) side a ≡ 0
      first north q = rw q
      first south q = rw q
      first west q = rw q
      first east q = rw q

  past_side : (side : Side) (a : ℕ) → places (shape_of (problem_at s 0 (flat_pins s))) side < a → pins_in (flat_pins s) side a ≡ 0
  past_side side a h =
      split (has_side (byte s 0) side)
      (λ has. past_places s side a (omega (arith, own (byte s 0) (byte s 1) (byte s 2) side fields.named has)))
      (λ no_side. flat_bare side no_side a)

  pub flat_sited : Header s → (places_end s).refusal.number ≡ 0 → Sited s (flat_pins s)
  flat_sited head read = record { numbered = numbered s head read; ends = past_side; fits = fits s fields (flat_pins s) }

-- ---- the whole

pub record FlatRead (s : List ℕ) : Type 0 where
  pub head : Header s
  pub fields : Fields (byte s 0) (byte s 1) (byte s 2)
  pub read : (places_end s).refusal.number ≡ 0
  pub size : length s ≡ 3 + place_count s
  pub lone : lone_net (pins_in (flat_pins s)) ≡ 0
  pub whole : flat_ticket_of s ≡ accepted_reading (problem_at s (net_count (pins_in (flat_pins s))) (flat_pins s))

pub flat_passed : (s : List ℕ) → (flat_ticket_of s).refusal.number ≡ 0 → FlatRead s
unfolding flat_ticket_of
flat_passed s e =
    let g = stages (flat_header s) (places_end s) (left_over s (places_end s).at) (no_lone (lone_net (pins_in (flat_pins s)))) _ e in
    let (head, fields) = head_good s g.first in
    let end = places_end_lem s head g.second in
    record {
      head = head;
      fields = fields;
      read = g.second;
      size = omega (arith, end.0, end.1, none_left s _ g.third);
      lone = none_alone _ g.fourth;
      whole = g.left;
    }

pub flat_good : (s : List ℕ) → (flat_ticket_of s).refusal.number ≡ 0 → Good (flat_ticket_of s).problem
flat_good s e =
    let r = flat_passed s e in
    subst (λ (t : Reading). Good t.problem) (sym r.whole)
    (problem_good s (flat_pins s) r.fields (flat_sited s r.fields r.head r.read) (flat_bare s r.fields) r.lone)
