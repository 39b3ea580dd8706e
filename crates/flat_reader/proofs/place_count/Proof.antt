-- `flat_reader::place_count` meets its contract: the places of each side, added.
use Prim.Native.Nat.{◌+◌, ◌≤◌}
use native.Mathlib.Omega.{arith}
use borrow.Author.Rules.{rules}
use Rattle.terms.specs.Kinds.{north, south, west}
use Rattle.terms.specs.Limits.{longest_side}
use Rattle.flat_reader.specs.Flat.{place_count}
use Rattle.flat_reader.proofs.Passed.{few}
use Rattle.flat_reader.proofs.place_count.Statement.{statement}
use Rattle.flat_reader.proofs.place_count.Tie as tie

-- the three numbers are small
small : (c : tie.After-south_places) → (c.north_places.result ≤ longest_side) × (c.south_places.result ≤ longest_side) ×
    (c.end_places-ends.result ≤ longest_side)
small c =
    let s = c.args.flat.now in
    let le = few s c.requires in (
      omega (arith, c.north_places.ensures, le north),
      omega (arith, c.south_places.ensures, le south),
      omega (arith, c.end_places-ends.ensures, le west),
    )

add-result : tie.Need-overflow_add-result
add-result c = omega (arith, small c)

add-result-2 : tie.Need-overflow_add-result-2
add-result-2 c = omega (arith, small c)

add-result-3 : tie.Need-overflow_add-result-3
add-result-3 c = omega (arith, small c)

returns : tie.Need-returns
unfolding place_count
returns c =
    let north = c.north_places.ensures in
    let south = c.south_places.ensures in
    let ends = c.end_places-ends.ensures in
    λ i. north i + south i + ends i + ends i

pub place_count_spec : {M : Type 1} → statement M
place_count_spec =
    tie.close (tie.spec (λ c. search rules) (λ c. search rules) (λ c. search rules) (λ c. search rules) (λ c. search rules)
    (λ c κs. search rules) (λ c κs. search rules) (λ c κs. search rules) add-result add-result-2 add-result-3 returns)
