-- `ticket::read` meets its contract: it is the answer of `parse`.
use mathlib.Core.Path.{ap}
use borrow.Author.Rules.{rules}
use Rattle.ticket.specs.Read.{answer_of}
use Rattle.ticket.proofs.read.Statement.{statement}
use Rattle.ticket.proofs.read.Tie as tie

returns : tie.Need-returns
returns c = ap answer_of c.parse-whole.ensures

pub read_spec : {M : Type 1} → statement M
read_spec = tie.close (tie.spec (λ c κs. search rules) returns)
