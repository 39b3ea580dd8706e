-- `ticket_sides::is_net` meets its contract: the same two tests.
use borrow.Author.Rules.{rules}
use Rattle.ticket_sides.proofs.is_net.Statement.{statement}
use Rattle.ticket_sides.proofs.is_net.Tie as tie

returns : tie.Need-returns
returns c = cc

pub is_net_spec : {M : Type 1} → statement M
is_net_spec = tie.close (tie.spec (λ c κs. search rules) (λ c κs. search rules) returns)
