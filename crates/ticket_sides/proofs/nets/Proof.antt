-- `ticket_sides::nets` meets its contract: what is left to read of the nets is the same cursor as all of them.
use Prim.Native.Nat.{◌≤◌}
use mathlib.Core.Path.{◌≡◌, sym, ◌∙◌, refl}
use native.Mathlib.Omega.{arith}
use lib.ListN.{length}
use borrow.Author.Rules.{rules}
use Rattle.ticket_sides.proofs.Laws.{at_refused, at_going, nets_end, nets_missing, nets_bad, nets_more}
use Rattle.ticket_sides.proofs.Flags.{failed, passed}
use Rattle.ticket_sides.specs.Stages.{nets_of}
use Rattle.ticket_sides.proofs.nets.Statement.{statement}
use Rattle.ticket_sides.proofs.nets.Tie as tie

abbrev invariant-loop : tie.invariant-loop-left
invariant-loop ticket least from count at₀ left₀ at left = (nets_of least ticket from count ≡ nets_of least ticket at left) × (at ≤ length ticket)

abbrev decreases-loop : tie.decreases-loop-left
decreases-loop ticket least from count at₀ left₀ at left = left

loop-holds : tie.Need-loop-left-init invariant-loop decreases-loop
loop-holds c = (refl, omega arith)

returns : tie.Need-returns-then-ticket-at invariant-loop decreases-loop
returns c = (
  c.stop.ensures ∙ sym (c.before.before.before.loop-left.invariant.0 ∙ nets_missing _ _ _ _ c.before.before.loop-left-test.true
      c.before.if-ticket-at.true),
  omega (arith, at_refused c.stop.ensures),
)

returns-2 : tie.Need-returns-then-not-is_net invariant-loop decreases-loop
returns-2 c =
    let c4 = c.before.before.before.before in (
      c.stop-then-not-is_net.ensures ∙ sym (c4.before.before.loop-left.invariant.0 ∙ nets_bad _ _ _ _ c4.before.loop-left-test.true c4.if-ticket-at.false
          (failed c.before.before.is_net.ensures c.before.if-not-is_net.true)),
      omega (arith, at_refused c.stop-then-not-is_net.ensures),
    )

loop-again : tie.Need-loop-left-preserved invariant-loop decreases-loop
loop-again c =
    let c3 = c.before.before.before in (
      c3.before.before.loop-left.invariant.0 ∙ nets_more _ _ _ _ c3.before.loop-left-test.true c3.if-ticket-at.false
          (passed c.before.is_net.ensures c.if-not-is_net.false),
      omega arith,
    )

returns-3 : tie.Need-returns invariant-loop decreases-loop
returns-3 c = (
  c.go_on.ensures ∙ sym (c.before.before.loop-left.invariant.0 ∙ nets_end _ _ _ _ c.before.loop-left-test.false),
  omega (arith, at_going c.go_on.ensures),
)

pub nets_spec : {M : Type 1} → statement M
nets_spec =
    tie.close (tie.spec invariant-loop decreases-loop loop-holds (λ c κs. search rules) returns (λ c. search rules) (λ c κs. search rules)
    (λ c κs. search rules) returns-2 (λ c. search rules) (λ c. search rules) (λ c. search rules) loop-again
    (λ c κs. search rules) returns-3)
