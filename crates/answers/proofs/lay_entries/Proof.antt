-- `answers::lay_entries` meets its contract: the entries are the fields, the first direction as 1 or 0.
use borrow.Author.Rules.{rules}
use Rattle.answers.proofs.lay_entries.Statement.{statement}
use Rattle.answers.proofs.lay_entries.Tie as tie

returns : tie.Need-returns
returns c = cc

pub lay_entries_spec : {M : Type 1} → statement M
lay_entries_spec = tie.close (tie.spec (λ c. search rules) (λ c. search rules) (λ c κs. search rules) (λ c. search rules) returns)
