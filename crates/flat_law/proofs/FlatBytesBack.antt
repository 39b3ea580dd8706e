-- Every flat ticket that is accepted is the flat bytes of its problem: bytes 0 to 2, then side after side, give the list back.
use Prim.Native.Nat.{ℕ, ◌+◌, ◌-◌, ◌≤◌}
use mathlib.Core.List.{List, [], ◌∷◌, ◌++◌}
use mathlib.Core.Path.{◌≡◌, refl, ap, ◌∙◌}
use native.Mathlib.Omega.{arith}
use lib.ListN.{length, drop, drop_of_length-le}
use Rattle.counting.specs.Counting.{In}
use Rattle.terms.specs.Kinds.{Side, north, south, west, east}
use Rattle.problem.specs.declared.Problem.{Problem}
use Rattle.problem.specs.Problem.{pins_in, net_count}
use Rattle.ticket_sides.specs.Format.{byte, values_from}
use Rattle.ticket.specs.declared.Reading.{Reading}
use Rattle.ticket.specs.Read.{problem_at}
use Rattle.ticket.proofs.Filled.{side_at_lem}
use Rattle.ticket_bytes.proofs.BytesBack.{regrouped}
use Rattle.ticket_bytes.proofs.ListBack.{values_drop}
use Rattle.flat_reader.specs.Flat.{places_in, places_from, place_count, flat_pins, flat_ticket_of}
use Rattle.flat_reader.proofs.Passed.{FlatRead, flat_passed, side_end, few}
use Rattle.flat_law.specs.FlatBytes.{flat_on, flat_bytes_of}

abbrev problem : List ℕ → Problem
problem s = problem_at s (net_count (pins_in (flat_pins s))) (flat_pins s)

module _ (s : List ℕ) (r : FlatRead s) where
  pin_at : (side : Side) (a : ℕ) → In a (places_in s side) → pins_in (flat_pins s) side a ≡ byte s (places_from s side + (a - 1))
  pin_at north a = side_at_lem _ (places_in s north) a (few s r.head north)
  pin_at south a = side_at_lem _ (places_in s south) a (few s r.head south)
  pin_at west a = side_at_lem _ (places_in s west) a (few s r.head west)
  pin_at east a = side_at_lem _ (places_in s east) a (few s r.head east)

  -- what a side lists stands before the rest
  side_back : (side : Side) → flat_on (problem s) side ++ drop (places_from s side + places_in s side) s ≡ drop (places_from s side) s
  side_back side =
      values_drop s (pins_in (flat_pins s) side) 1 (places_from s side) (places_in s side)
      (omega (arith, r.size, side_end s side))
      (λ x lt.
      let back : 1 + x - 1 ≡ x = omega arith in
      pin_at side (1 + x) (omega arith) ∙ ap (λ (j : ℕ). byte s (places_from s side + j)) back)

  problem_back : flat_bytes_of (problem s) ≡ s
  unfolding flat_bytes_of place_count values_from
  problem_back =
      let q = problem s in
      let end : length s ≤ places_from s east + places_in s east = omega (arith, r.size) in
      regrouped (byte s 0 ∷ byte s 1 ∷ byte s 2 ∷ []) (flat_on q north) (flat_on q south) (flat_on q west) (flat_on q east)
      ∙ rw (← drop_of_length-le s end, side_back east, side_back west, side_back south, side_back north)
      (values_drop s (byte s) 0 0 3 (omega (arith, r.head.size)) (λ x lt. refl))

pub flat_bytes_back : (s : List ℕ) → (flat_ticket_of s).refusal.number ≡ 0 → flat_bytes_of (flat_ticket_of s).problem ≡ s
flat_bytes_back s e = let r = flat_passed s e in ap (λ (t : Reading). flat_bytes_of t.problem) r.whole ∙ problem_back s r
