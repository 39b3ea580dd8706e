-- `ticket_sides::unless` meets its contract: its test is that of the definition.
use borrow.Author.Rules.{rules}
use Rattle.ticket_sides.proofs.unless.Statement.{statement}
use Rattle.ticket_sides.proofs.unless.Tie as tie

returns : tie.Need-returns-then-test
returns c = simp c.if-test.true

returns-2 : tie.Need-returns-else-test
returns-2 c = simp c.before.if-test.false c.stop.ensures

pub unless_spec : {M : Type 1} → statement M
unless_spec = tie.close (tie.spec (λ c κs. search rules) returns returns-2)
