-- `ticket::left_over` meets its contract: the same test and the same refusal.
use borrow.Author.Rules.{rules}
use Rattle.ticket.proofs.left_over.Statement.{statement}
use Rattle.ticket.proofs.left_over.Tie as tie

returns : tie.Need-returns
returns c = cc

pub left_over_spec : {M : Type 1} → statement M
left_over_spec = tie.close (tie.spec (λ c κs. search rules) (λ c κs. search rules) returns)
