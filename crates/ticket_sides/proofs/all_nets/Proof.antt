-- `ticket_sides::all_nets` meets its contract: while all bytes passed are nets, what is left to read is the same cursor as all of them.
use Prim.Native.Nat.{◌+◌, ◌-◌, ◌≤◌}
use mathlib.Core.Bool.{true, and-eq-true_iff}
use mathlib.Core.Path.{◌≡◌, sym, ◌∙◌}
use native.Mathlib.Omega.{arith}
use borrow.Author.Rules.{rules}
use Rattle.ticket_sides.proofs.Laws.{nets_start, nets_pass, nets_passed}
use Rattle.ticket_sides.specs.Stages.{nets_of}
use Rattle.ticket_sides.proofs.all_nets.Statement.{statement}
use Rattle.ticket_sides.proofs.all_nets.Tie as tie

abbrev invariant-loop : tie.invariant-loop-i
invariant-loop ticket least from count good₀ i₀ good i =
    (i ≤ count) × (good ≡ true → nets_of least ticket from count ≡ nets_of least ticket (from + i) (count - i))

abbrev decreases-loop : tie.decreases-loop-i
decreases-loop ticket least from count good₀ i₀ good i = count - i

loop-holds : tie.Need-loop-i-init invariant-loop decreases-loop
loop-holds c = (omega arith, λ h. nets_start _ _ _ _)

loop-again : tie.Need-loop-i-preserved invariant-loop decreases-loop
loop-again c =
    let c3 = c.before.before.before in
    let l = c3.before.loop-i in
    let a = c3.before.before.before.args in (
      omega arith,
      λ h.
          let two = (and-eq-true_iff l.good c.before.is_net.result).0 (sym c.both-good.ensures ∙ h) in
          l.invariant.1 two.0 ∙ nets_pass a.least a.ticket.now a.from a.count l.i c3.loop-i-test.true
          c3.before.before.before.requires (sym c.before.is_net.ensures ∙ two.1),
    )

returns : tie.Need-returns invariant-loop decreases-loop
returns c =
    let a = c.before.before.before.args in
    let l = c.before.loop-i in
    λ h. l.invariant.1 h ∙ nets_passed a.least a.ticket.now a.from a.count l.i (omega arith)

pub all_nets_spec : {M : Type 1} → statement M
all_nets_spec =
    tie.close (tie.spec invariant-loop decreases-loop loop-holds (λ c. search rules) (λ c. search rules) (λ c κs. search rules) (λ c κs. search rules)
    (λ c. search rules) (λ c. search rules) loop-again returns)
