-- `ticket_sides::fields` meets its contract: the same tests, nested the same way.
use borrow.Author.Rules.{rules}
use Rattle.ticket_sides.specs.Stages.{fields_of}
use Rattle.ticket_sides.proofs.fields.Statement.{statement}
use Rattle.ticket_sides.proofs.fields.Tie as tie

returns : tie.Need-returns
unfolding fields_of
returns c = cc

pub fields_spec : {M : Type 1} → statement M
fields_spec =
    tie.close (tie.spec (λ c κs. search rules) (λ c κs. search rules) (λ c κs. search rules) (λ c κs. search rules)
    (λ c κs. search rules) (λ c κs. search rules) (λ c κs. search rules) (λ c κs. search rules) (λ c κs. search rules) returns)
