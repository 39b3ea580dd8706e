-- `ticket_sides::ones_in` meets its contract: the total is the standing places of the bytes passed.
use Prim.Native.Nat.{ℕ, ◌+◌, ◌*◌, ◌-◌, ◌≤◌}
use mathlib.Core.Path.{◌≡◌, ap, sym, ◌∙◌}
use native.Mathlib.Omega.{arith}
use lib.Count.{ones, ones-le}
use borrow.Author.Rules.{rules}
use Rattle.counting.proofs.Sums.{sum_none}
use Rattle.ticket_sides.proofs.Bits.{standing_ones, standing_le}
use Rattle.ticket_sides.specs.Format.{byte, standing_bits}
use Rattle.ticket_sides.proofs.ones_in.Statement.{statement}
use Rattle.ticket_sides.proofs.ones_in.Tie as tie

abbrev invariant-loop : tie.invariant-loop-j
invariant-loop ticket at bytes total₀ j₀ total j = (j ≤ bytes) × (total ≡ standing_bits ticket at (8 * j))

abbrev decreases-loop : tie.decreases-loop-j
decreases-loop ticket at bytes total₀ j₀ total j = bytes - j

loop-holds : tie.Need-loop-j-init invariant-loop decreases-loop
loop-holds c = (omega arith, sym (sum_none _))

cast-total : tie.Need-overflow_cast-total invariant-loop decreases-loop
cast-total c = let h = (c.shared_slice_known-1.given (c.before.before.before.args.at + c.before.before.loop-j.j)).fits in omega (arith, ones-le 8 _ h)

add-total-2 : tie.Need-overflow_add-total-in-loop-j invariant-loop decreases-loop
add-total-2 c =
    let s = c.before.before.before.args.ticket.now in
    let a = c.before.before.before.args.at in
    let h = (c.shared_slice_known-1.given (a + c.before.before.loop-j.j)).fits in
    omega (arith, ones-le 8 _ h, standing_le s a (8 * c.before.before.loop-j.j))

loop-again : tie.Need-loop-j-preserved invariant-loop decreases-loop
loop-again c =
    let s = c.before.before.before.args.ticket.now in
    let a = c.before.before.before.args.at in
    let l = c.before.before.loop-j in
    let h = (c.shared_slice_known-1.given (a + l.j)).fits in
    (omega arith, ap (λ (x : ℕ). x + ones (byte s (a + l.j))) l.invariant.1 ∙ sym (standing_ones s a l.j h))

returns : tie.Need-returns invariant-loop decreases-loop
returns c =
    let a = c.before.before.args in
    let e : c.before.loop-j.j ≡ a.bytes = omega arith in
    c.before.loop-j.invariant.1 ∙ ap (λ (x : ℕ). standing_bits a.ticket.now a.at (8 * x)) e

pub ones_in_spec : {M : Type 1} → statement M
ones_in_spec =
    tie.close (tie.spec invariant-loop decreases-loop loop-holds (λ c. search rules) (λ c. search rules) cast-total add-total-2 (λ c. search rules)
    (λ c. search rules) loop-again returns)
