-- `ticket::pins_at` meets its contract: side by side.
use Prim.Native.Nat.{ℕ}
use mathlib.Core.List.{List}
use mathlib.Core.Bool.{Bool}
use mathlib.Core.Path.{ap, ◌∙◌}
use borrow.Author.Rules.{rules}
use Rattle.ticket_sides.specs.Format.{byte, side_nets}
use Rattle.ticket.proofs.Extents.{extent_as}
use Rattle.ticket.proofs.pins_at.Statement.{statement}
use Rattle.ticket.proofs.pins_at.Tie as tie

side-list-requires : tie.Need-side_list-north-requires
side-list-requires c κs =
    let h = c.requires in
    (h.0.one.1, extent_as c.bit_of.ensures h.1.north)

side-list-requires-2 : tie.Need-side_list-south-requires
side-list-requires-2 c κs =
    let h = c.requires in
    (h.0.one.1, extent_as c.bit_of-2.ensures h.1.south)

side-list-requires-3 : tie.Need-side_list-west-requires
side-list-requires-3 c κs =
    let h = c.requires in
    (h.0.two.1, extent_as c.bit_of-3.ensures h.1.west)

side-list-requires-4 : tie.Need-side_list-east-requires
side-list-requires-4 c κs =
    let h = c.requires in
    (h.0.two.1, extent_as c.bit_of-4.ensures h.1.east)

returns : tie.Need-returns
returns c =
    let s = c.args.ticket.now in
    let n : ℕ → Bool → List ℕ = λ from b. side_nets s b from (byte s 1) in
    let w : ℕ → Bool → List ℕ = λ from b. side_nets s b from (byte s 2) in
    let e = c.args.ends in
    let north = c.side_list-north.ensures ∙ ap (n 4)
    c.bit_of.ensures in
    let south = c.side_list-south.ensures ∙ ap (n e.north.at)
    c.bit_of-2.ensures in
    let west = c.side_list-west.ensures ∙ ap (w e.south.at) c.bit_of-3.ensures in
    let east = c.side_list-east.ensures ∙ ap (w e.west.at) c.bit_of-4.ensures in
    λ i. record { north = north i; south = south i; west = west i; east = east i }

pub pins_at_spec : {M : Type 1} → statement M
pins_at_spec =
    tie.close (tie.spec (λ c. search rules) (λ c. search rules) (λ c. search rules) (λ c. search rules) (λ c. search rules)
    (λ c κs. search rules) side-list-requires (λ c κs. search rules) side-list-requires-2 (λ c κs. search rules) side-list-requires-3
    (λ c κs. search rules) side-list-requires-4 returns)
