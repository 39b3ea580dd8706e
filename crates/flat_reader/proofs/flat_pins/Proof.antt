-- `flat_reader::flat_pins` meets its contract: each side's list starts where the one before it ends.
use Prim.Native.Nat.{ℕ, ◌+◌, ◌≤◌}
use mathlib.Core.Path.{◌∙◌}
use native.Mathlib.Omega.{arith}
use lib.ListN.{length}
use borrow.Author.Rules.{rules}
use Rattle.terms.specs.Kinds.{north, south, west}
use Rattle.terms.specs.Limits.{longest_side}
use Rattle.ticket_sides.specs.Format.{net_list}
use Rattle.flat_reader.specs.Flat.{place_count}
use Rattle.flat_reader.proofs.Passed.{few}
use Rattle.flat_reader.proofs.flat_pins.Statement.{statement}
use Rattle.flat_reader.proofs.flat_pins.Tie as tie

-- the sides are short, and their bytes are there
record Room (norths souths ends size : ℕ) : Type 0 where
  north : norths ≤ longest_side
  south : souths ≤ longest_side
  west : ends ≤ longest_side
  all : 3 + norths + souths + ends + ends ≤ size

room : (c : tie.After-end_places-ends) →
    Room c.north_places-norths.result c.south_places-souths.result c.end_places-ends.result
    (length c.args.flat.now)
unfolding place_count
room c =
    let s = c.args.flat.now in
    let le = few s c.requires.0 in
    let n = c.north_places-norths.ensures in
    let u = c.south_places-souths.ensures in
    let e = c.end_places-ends.ensures in
    record {
      north = omega (arith, n, le north);
      south = omega (arith, u, le south);
      west = omega (arith, e, le west);
      all = omega (arith, n, u, e, c.requires.1);
    }

net-list-requires : tie.Need-net_list-north-requires
net-list-requires c κs = let r = room c in (r.north, omega (arith, r.all))

add-net-list : tie.Need-overflow_add-norths
add-net-list c = let r = room c.before in omega (arith, r.north)

net-list-requires-2 : tie.Need-net_list-south-requires
net-list-requires-2 c κs = let r = room c.before in (r.south, omega (arith, r.all))

add-net-list-2 : tie.Need-overflow_add-norths-2
add-net-list-2 c = let r = room c.before.before in omega (arith, r.north)

add-net-list-3 : tie.Need-overflow_add-norths-3
add-net-list-3 c = let r = room c.before.before in omega (arith, r.north, r.south)

net-list-requires-3 : tie.Need-net_list-west-requires
net-list-requires-3 c κs = let r = room c.before.before in (r.west, omega (arith, r.all))

add-net-list-4 : tie.Need-overflow_add-norths-4
add-net-list-4 c = let r = room c.before.before.before in omega (arith, r.north)

add-net-list-5 : tie.Need-overflow_add-norths-5
add-net-list-5 c = let r = room c.before.before.before in omega (arith, r.north, r.south)

add-net-list-6 : tie.Need-overflow_add-norths-6
add-net-list-6 c = let r = room c.before.before.before in omega (arith, r.north, r.south, r.west)

net-list-requires-4 : tie.Need-net_list-east-requires
net-list-requires-4 c κs = let r = room c.before.before.before in (r.west, omega (arith, r.all))

returns : tie.Need-returns
returns c =
    let s = c.args.flat.now in
    let n = c.north_places-norths.ensures in
    let u = c.south_places-souths.ensures in
    let e = c.end_places-ends.ensures in
    let north = c.net_list-north.ensures ∙ (λ i. net_list s 3 (n i)) in
    let south = c.net_list-south.ensures ∙ (λ i. net_list s (3 + n i) (u i)) in
    let west = c.net_list-west.ensures ∙ (λ i. net_list s (3 + n i + u i) (e i)) in
    let east = c.net_list-east.ensures ∙ (λ i. net_list s (3 + n i + u i + e i) (e i)) in
    λ i. record { north = north i; south = south i; west = west i; east = east i }

pub flat_pins_spec : {M : Type 1} → statement M
flat_pins_spec =
    tie.close (tie.spec (λ c. search rules) (λ c. search rules) (λ c. search rules) (λ c κs. search rules) (λ c κs. search rules)
    (λ c. search rules) (λ c. search rules) (λ c κs. search rules) net-list-requires add-net-list net-list-requires-2 add-net-list-2
    add-net-list-3 net-list-requires-3 add-net-list-4 add-net-list-5 add-net-list-6 net-list-requires-4 returns)
