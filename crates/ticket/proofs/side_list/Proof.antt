-- `ticket::side_list` meets its contract: a side that does not stand is empty, one that is full lies as it is listed, any other has its
-- nets put at their places.
use Prim.Native.Nat.{◌+◌, ◌-◌}
use mathlib.Core.Bool.{Bool}
use mathlib.Core.Path.{◌≡◌, sym, ap, ◌∙◌}
use native.Mathlib.Omega.{arith}
use borrow.Author.Tests.{not-true, not-false}
use borrow.Author.Rules.{rules}
use Rattle.ticket_sides.specs.Format.{standing_bits, map_bytes, pin_net, net_list, side_nets}
use Rattle.ticket_sides.proofs.Bits.{standing_le}
use Rattle.ticket.proofs.Placed.{pin_off, full_list}
use Rattle.ticket.proofs.Filled.{filled_none, filled_end}
use Rattle.ticket.proofs.side_list.Statement.{statement}
use Rattle.ticket.proofs.side_list.Tie as tie

returns : tie.Need-returns-then-not-stands
unfolding side_nets
returns c =
    let a = c.args in
    let off = c.if-not-stands.true in
    filled_end (pin_net a.ticket.now a.stands a.at a.places) 90 0 _
    (λ k h. ap (λ (b : Bool). pin_net a.ticket.now b a.at a.places k) off ∙ pin_off _ _ _ _) (filled_none _ 90)

add-from-2 : tie.Need-overflow_add-from-2
add-from-2 c = omega (arith, c.requires.1.start, c.requires.1.size)

-- the side stands: it ends past its map and its nets
end : (c : tie.Else-not-stands) → let a = c.args in
    a.end ≡ a.at + map_bytes a.places + standing_bits a.ticket.now a.at a.places
end c = c.requires.1.stands (c.if-not-stands.false)

sub-count : tie.Need-overflow_sub-count
sub-count c = omega (arith, end c)

net-list-requires : tie.Need-net_list-nets-requires
net-list-requires c κs =
    let a = c.args in
    let h = c.requires in
    (omega (arith, h.0, end c, standing_le a.ticket.now a.at a.places), omega (arith, h.1.size, end c))

returns-2 : tie.Need-returns-then-count-places
returns-2 c =
    let a = c.args in
    let s = a.ticket.now in
    let from = a.at + map_bytes a.places in
    let full : a.end - from ≡ a.places = omega (arith, c.if-count-places.true) in
    c.net_list-nets.ensures ∙ ap (net_list s from) full ∙ full_list s a.at a.places (omega (arith, full, end c.before.before))
    ∙ ap (λ (b : Bool). side_nets s b a.at a.places) (sym (c.if-not-stands.false))

side-nets-requires : tie.Need-side_nets-requires
side-nets-requires c κs =
    let a = c.args in
    let h = c.requires in
    let s = a.ticket.now in
    let from = a.at + map_bytes a.places in
    let all : a.end - from ≡ standing_bits s a.at a.places = omega (arith, end c.before.before) in
    ((h.0, omega (arith, h.1.size, end c.before.before)), c.net_list-nets.ensures ∙ ap (net_list s from) all)

returns-3 : tie.Need-returns
returns-3 c =
    let a = c.args in
    c.side_nets.ensures
    ∙ ap (λ (b : Bool). side_nets a.ticket.now b a.at a.places) (sym (c.if-not-stands.false))

pub side_list_spec : {M : Type 1} → statement M
side_list_spec =
    tie.close (tie.spec returns (λ c. search rules) add-from-2 sub-count net-list-requires returns-2 side-nets-requires returns-3)
