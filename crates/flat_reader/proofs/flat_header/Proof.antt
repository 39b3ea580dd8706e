-- `flat_reader::flat_header` meets its contract: four bytes or a refusal, then bytes 0 to 2.
use mathlib.Core.Path.{ap, ◌∙◌}
use borrow.Author.Tests.{le-leb, lt-leb}
use borrow.Author.Rules.{rules}
use Rattle.ticket_sides.specs.Stages.{fields_of}
use Rattle.flat_reader.specs.Flat.{flat_header}
use Rattle.flat_reader.proofs.flat_header.Statement.{statement}
use Rattle.flat_reader.proofs.flat_header.Tie as tie

returns : tie.Need-returns-then-size-lt4
unfolding flat_header
returns c = simp (lt-leb _ _ c.if-size-lt4.true) c.stop.ensures

returns-2 : tie.Need-returns
unfolding flat_header
returns-2 c =
    simp (le-leb _ _ c.if-size-lt4.false)
    (c.fields.ensures ∙ ap (fields_of _ _ _) c.go_on.ensures)

pub flat_header_spec : {M : Type 1} → statement M
flat_header_spec =
    tie.close (tie.spec (λ c κs. search rules) returns (λ c. search rules) (λ c. search rules) (λ c. search rules) (λ c κs. search rules)
    (λ c κs. search rules) returns-2)
