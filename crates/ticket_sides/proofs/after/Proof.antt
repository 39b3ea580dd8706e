-- `ticket_sides::after` meets its contract: its three ways are those of `after`.
use native.Mathlib.Omega.{arith}
use borrow.Author.Tests.{eq-eqb, ne_eqb}
use borrow.Author.Rules.{rules}
use Rattle.ticket_sides.specs.Stages.{after}
use Rattle.ticket_sides.proofs.after.Statement.{statement}
use Rattle.ticket_sides.proofs.after.Tie as tie

returns : tie.Need-returns-then-c-ne0
unfolding after
returns c = (simp (ne_eqb _ _ c.if-c-ne0.true), omega arith)

returns-2 : tie.Need-returns-then-stands
unfolding after
returns-2 c = (simp (eq-eqb _ _ c.before.before.if-c-ne0.false, c.before.if-stands.true) c.side.ensures.0, c.side.ensures.1)

returns-3 : tie.Need-returns
unfolding after
returns-3 c = (simp (eq-eqb _ _ c.before.if-c-ne0.false, c.if-stands.false), omega arith)

pub after_spec : {M : Type 1} → statement M
after_spec = tie.close (tie.spec returns (λ c κs. search rules) returns-2 returns-3)
