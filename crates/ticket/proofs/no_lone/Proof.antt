-- `ticket::no_lone` meets its contract: the same test and the same refusal.
use borrow.Author.Rules.{rules}
use Rattle.ticket.proofs.no_lone.Statement.{statement}
use Rattle.ticket.proofs.no_lone.Tie as tie

returns : tie.Need-returns
returns c = cc

pub no_lone_spec : {M : Type 1} → statement M
no_lone_spec = tie.close (tie.spec (λ c κs. search rules) (λ c κs. search rules) returns)
