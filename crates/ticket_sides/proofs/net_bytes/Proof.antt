-- `ticket_sides::net_bytes` meets its contract: a test of all bytes at once, and net by net where it fails.
use mathlib.Core.Path.{sym, ◌∙◌}
use native.Mathlib.Omega.{arith}
use borrow.Author.Rules.{rules}
use Rattle.ticket_sides.proofs.Laws.{at_going}
use Rattle.ticket_sides.proofs.net_bytes.Statement.{statement}
use Rattle.ticket_sides.proofs.net_bytes.Tie as tie

returns-2 : tie.Need-returns-then-all_nets
returns-2 c = (c.go_on.ensures ∙ sym (c.before.before.all_nets.ensures c.before.if-all_nets.true), omega (arith, at_going c.go_on.ensures))

pub net_bytes_spec : {M : Type 1} → statement M
net_bytes_spec =
    tie.close (tie.spec (λ c. search rules) (λ c κs. search rules) (λ c. search rules) (λ c κs. search rules) (λ c. search rules)
    (λ c κs. search rules) returns-2 (λ c κs. search rules) (λ c. search rules))
