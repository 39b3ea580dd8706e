-- `ticket::side_nets` meets its contract: the array is filled with the nets of the places passed, and the next net is past their standing ones.
use Prim.Native.Nat.{ℕ, ◌+◌, ◌-◌, ◌*◌, ◌/◌, ◌%◌, ◌^◌, ◌≤◌}
use mathlib.Core.Bool.{true}
use mathlib.Core.List.{List}
use mathlib.Core.Path.{◌≡◌, sym, ap, ap₂, ◌∙◌}
use native.Mathlib.Omega.{arith}
use lib.ListN.{get_or}
use mir.Syntax.{w8}
use mir.Val.{Fits}
use borrow.Author.Rules.{rules}
use Rattle.counting.specs.Counting.{bit}
use Rattle.counting.proofs.Sums.{sum_none}
use Rattle.ticket_sides.specs.Format.{byte, stands, standing_bits, pin_net, side_nets}
use Rattle.ticket_sides.proofs.Bits.{standing_le}
use Rattle.ticket.proofs.Placed.{pin_past, times_bit, place_bit, next_net, pin_product}
use Rattle.ticket.proofs.Filled.{Filled, filled_none, filled_set, filled_end}
use Rattle.ticket.proofs.side_nets.Statement.{statement}
use Rattle.ticket.proofs.side_nets.Tie as tie

abbrev invariant-loop : tie.invariant-loop-i
invariant-loop ticket at places nets list₀ next₀ i₀ list next i = (i ≤ places) × (next ≡ standing_bits ticket at i) × Filled (pin_net ticket true at places) 90 i list

abbrev decreases-loop : tie.decreases-loop-i
decreases-loop ticket at places nets list₀ next₀ i₀ list next i = places - i

-- the list's next net
elem : (c : tie.After-shared_slice_known-1 invariant-loop decreases-loop) → Fits w8 (get_or c.args.nets c.loop-i.next 0)
elem c = search rules

-- the bit of the place at hand
on : (c : tie.After-shared_slice_known-1 invariant-loop decreases-loop) → let a = c.args in
    let i = c.loop-i.i in
    byte a.ticket.now (a.at + i / 8) / 2 ^ (i % 8) % 2 ≡ bit (stands a.ticket.now a.at (i + 1))
on c =
    let a = c.args in
    place_bit a.ticket.now a.at a.places c.loop-i.i

-- past the standing places passed
few : (c : tie.After-shared_slice_known-1 invariant-loop decreases-loop) → c.loop-i.next ≤ c.loop-i.i
few c =
    let a = c.args in
    omega (arith, c.loop-i.invariant.1, standing_le a.ticket.now a.at c.loop-i.i)

loop-holds : tie.Need-loop-i-init invariant-loop decreases-loop
loop-holds c = (omega arith, sym (sum_none (λ k. bit (stands c.args.ticket.now c.args.at k))), filled_none _ 90)

array-read-list : tie.Need-bounds-nets-next invariant-loop decreases-loop
array-read-list c = omega (arith, c.loop-i.invariant.1, standing_le c.args.ticket.now c.args.at c.loop-i.i)

mul-list : tie.Need-overflow_mul-list invariant-loop decreases-loop
mul-list c =
    let a = c.args in
    let i = c.loop-i.i in
    let m = get_or c.args.nets c.loop-i.next 0 in
    omega (arith, elem c, ap (λ (x : ℕ). m * x) (on c), times_bit m (stands a.ticket.now a.at (i + 1)))

add-next : tie.Need-overflow_add-next invariant-loop decreases-loop
add-next c = omega (arith, few c)

loop-again : tie.Need-loop-i-preserved invariant-loop decreases-loop
loop-again c =
    let a = c.args in
    let s = a.ticket.now in
    let l = c.loop-i in
    let net = ap₂ (λ (x : List ℕ) (j : ℕ). get_or x j 0) c.requires.1 l.invariant.1 in (
      omega arith,
      omega (arith, l.invariant.1, on c, next_net s a.at a.places l.i),
      filled_set _ 90 l.i _ l.list (omega arith)
          (ap₂ (λ (x : ℕ) (y : ℕ). x * y) net (on c) ∙ pin_product s a.at a.places c.requires.0.0 l.i c.loop-i-test.true)
          l.invariant.2,
    )

returns : tie.Need-returns invariant-loop decreases-loop
unfolding side_nets
returns c =
    let a = c.args in
    let l = c.loop-i in
    filled_end _ 90 l.i l.list (λ k h. pin_past a.ticket.now true a.at a.places k (omega arith)) l.invariant.2

pub side_nets_spec : {M : Type 1} → statement M
side_nets_spec =
    tie.close (tie.spec invariant-loop decreases-loop loop-holds (λ c. search rules) (λ c. search rules) (λ c. search rules) (λ c. search rules)
    array-read-list mul-list (λ c. search rules) (λ c. search rules) add-next (λ c. search rules) (λ c. search rules) loop-again
    returns)
