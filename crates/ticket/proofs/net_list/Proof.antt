-- `ticket::net_list` meets its contract: the array is filled with the bytes passed.
use Prim.Native.Nat.{◌-◌, ◌≤◌}
use mathlib.Core.Path.{sym}
use native.Mathlib.Omega.{arith}
use borrow.Author.Rules.{rules}
use Rattle.terms.specs.Limits.{longest_side}
use Rattle.ticket.proofs.Filled.{Filled, filled_none, up_to, fill_more, fill_end}
use Rattle.ticket.proofs.Placed.{net_of, net_of_lem}
use Rattle.ticket.proofs.net_list.Statement.{statement}
use Rattle.ticket.proofs.net_list.Tie as tie

abbrev invariant-loop : tie.invariant-loop-i
invariant-loop ticket from count list₀ i₀ list i = (i ≤ count) × Filled (up_to (net_of ticket from) count) longest_side i list

abbrev decreases-loop : tie.decreases-loop-i
decreases-loop ticket from count list₀ i₀ list i = count - i

loop-holds : tie.Need-loop-i-init invariant-loop decreases-loop
loop-holds c = (omega arith, filled_none _ longest_side)

loop-again : tie.Need-loop-i-preserved invariant-loop decreases-loop
loop-again c =
    let a = c.args in
    let l = c.loop-i in (
      omega arith,
      fill_more (net_of a.ticket.now a.from) a.count l.i l.list (omega arith) c.loop-i-test.true
          (sym (net_of_lem a.ticket.now a.from l.i)) l.invariant.1,
    )

returns : tie.Need-returns invariant-loop decreases-loop
returns c =
    let a = c.args in
    let l = c.loop-i in
    fill_end (net_of a.ticket.now a.from) a.count l.i l.list (omega arith) l.invariant.1

pub net_list_spec : {M : Type 1} → statement M
net_list_spec =
    tie.close (tie.spec invariant-loop decreases-loop loop-holds (λ c. search rules) (λ c. search rules) (λ c. search rules) (λ c. search rules)
    (λ c. search rules) loop-again returns)
