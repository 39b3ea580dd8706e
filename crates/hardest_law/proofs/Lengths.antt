-- How many bytes a ticket has in which every place is filled: each side stands, with a net number for each of its places.
use Prim.Native.Nat.{ℕ, ◌+◌, ◌≤◌}
use mathlib.Core.Path.{◌≡◌, ap, ◌∙◌}
use mathlib.Core.Logic.{◌≢◌}
use mathlib.Core.Bool.{true}
use mathlib.Core.List.{List, [], ◌∷◌, ◌++◌}
use native.Mathlib.Omega.{arith}
use lib.ListN.{length, length-append}
use borrow.Author.Tests.{le-leb}
use Rattle.counting.specs.Counting.{In}
use Rattle.counting.proofs.Counts.{some_of}
use Rattle.counting.proofs.Tests.{count_all}
use Rattle.terms.specs.Limits.{longest_side}
use Rattle.terms.specs.Kinds.{north, south, west, east}
use Rattle.problem.specs.Problem.{pins_in}
use Rattle.ticket_sides.specs.Format.{map_bytes}
use Rattle.ticket_bytes.specs.Bytes.{is_filled, has_pins, side_bytes, side_map, bytes_on, bytes_of}
use Rattle.ticket_bytes.proofs.MapAndNets.{side_length}
use Rattle.hardest_law.specs.Box.{hardest_box}
use Rattle.hardest_law.specs.Hardest.{full_length}
use Rattle.hardest_law.proofs.GoodBox.{hardest_full}

full_side : (f : ℕ → ℕ) (p : ℕ) → 1 ≤ p → ((a : ℕ) → In a p → f a ≢ 0) → length (side_bytes f p) ≡ map_bytes p + p
unfolding has_pins
full_side f p some full =
    let each : (a : ℕ) → In a p → is_filled f a ≡ true = λ a i. le-leb 1 (f a) (omega (arith, full a i)) in
    side_length f p (some_of (is_filled f) p 1 (omega arith) (each 1 (omega arith)))
    ∙ ap (λ (k : ℕ). map_bytes p + k) (count_all (is_filled f) p each)

pub full_length_lem : (n w : ℕ) → In n longest_side → In w longest_side → length (bytes_of (hardest_box n w)) ≡ full_length n w
unfolding bytes_of
full_length_lem n w long broad =
    let q = hardest_box n w in
    let head : List ℕ = q.kind ∷ q.n.0 ∷ q.byte2 ∷ side_map q ∷ [] in
    omega (
      arith,
      length-append (head ++ bytes_on q north ++ bytes_on q south ++ bytes_on q west) (bytes_on q east),
      length-append (head ++ bytes_on q north ++ bytes_on q south) (bytes_on q west),
      length-append (head ++ bytes_on q north) (bytes_on q south),
      length-append head (bytes_on q north),
      full_side (pins_in q.pins north) n long.0 (hardest_full n w long broad north),
      full_side (pins_in q.pins south) n long.0 (hardest_full n w long broad south),
      full_side (pins_in q.pins west) w broad.0 (hardest_full n w long broad west),
      full_side (pins_in q.pins east) w broad.0 (hardest_full n w long broad east),
    )
