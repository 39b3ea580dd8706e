-- The sizes of what is converted: an accepted reading of either form has lists of 90 numbers, as its definition makes them; a flat ticket
-- has three bytes and one for each place, by the lengths of its parts, and so at most 363.
use Prim.Native.Nat.{ℕ, ◌+◌, ◌≤◌}
use mathlib.Core.List.{List}
use mathlib.Core.Path.{◌≡◌, sym, subst}
use native.Mathlib.Omega.{arith}
use lib.ListN.{length, length-append}
use Rattle.terms.specs.Kinds.{north, south, west, east}
use Rattle.terms.specs.Limits.{longest_side}
use Rattle.problem.specs.declared.Problem.{Problem}
use Rattle.ticket_sides.specs.Format.{side_nets}
use Rattle.ticket.specs.declared.Reading.{Reading}
use Rattle.ticket.specs.Read.{ticket_of}
use Rattle.ticket.proofs.Filled.{length_values, length_side}
use Rattle.ticket.proofs.Good.{passed}
use Rattle.ticket_bytes.specs.Bytes.{Sized}
use Rattle.flat_reader.specs.Flat.{places_on, place_count, flat_ticket_of}
use Rattle.flat_reader.proofs.Passed.{few, flat_passed}
use Rattle.flat_law.specs.FlatBytes.{flat_bytes_of, longest_flat}

pub ticket_sized : (s : List ℕ) → (ticket_of s).refusal.number ≡ 0 → Sized (ticket_of s).problem
unfolding side_nets
ticket_sized s e =
    subst (λ (t : Reading). Sized t.problem) (sym (passed s e).whole)
    (record {
      north = length_values _ 1 longest_side;
      south = length_values _ 1 longest_side;
      west = length_values _ 1 longest_side;
      east = length_values _ 1 longest_side;
    })

pub flat_sized : (s : List ℕ) → (flat_ticket_of s).refusal.number ≡ 0 → Sized (flat_ticket_of s).problem
flat_sized s e =
    subst (λ (t : Reading). Sized t.problem) (sym (flat_passed s e).whole)
    (record { north = length_side _ _; south = length_side _ _; west = length_side _ _; east = length_side _ _ })

pub flat_length : (q : Problem) → length (flat_bytes_of q) ≡ 3 + (places_on q.kind q.n.0 q.byte2 north
    + places_on q.kind q.n.0 q.byte2 south + places_on q.kind q.n.0 q.byte2 west
    + places_on q.kind q.n.0 q.byte2 east)
unfolding flat_bytes_of
flat_length q = simp (length-append, length_values) (omega arith)

pub longest_flat_lem : (s : List ℕ) → (flat_ticket_of s).refusal.number ≡ 0 → length s ≤ longest_flat
unfolding place_count
longest_flat_lem s e =
    let r = flat_passed s e in
    let le = few s r.head in
    omega (arith, r.size, le north, le south, le west, le east)
