-- `ticket_sides::header` meets its contract: four bytes or a refusal.
use mathlib.Core.Path.{ap, ◌∙◌}
use lib.Dec.{leb}
use borrow.Author.Tests.{le-leb, lt-leb}
use borrow.Author.Rules.{rules}
use Rattle.terms.specs.Refusals.{unless}
use Rattle.ticket_sides.specs.Format.{byte}
use Rattle.ticket_sides.specs.Stages.{stop, fields_of, header_of}
use Rattle.ticket_sides.proofs.header.Statement.{statement}
use Rattle.ticket_sides.proofs.header.Tie as tie

returns : tie.Need-returns-then-size-lt4
unfolding header_of
returns c = simp (lt-leb _ _ c.before.if-size-lt4.true) c.stop.ensures

returns-2 : tie.Need-returns
unfolding header_of
returns-2 c =
    let c3 = c.before.before.before in
    let c6 = c3.before.before.before in
    let kind = byte c6.before.before.before.before.before.args.ticket.now 0 in
    let going = c3.before.go_on.ensures in
    let most = c3.before.before.largest_side_map.ensures in
    let rest = c3.unless-rest.ensures ∙ (λ i. unless (leb (c6.wide.ensures i) (most i)) (stop 5 3) (going i)) in
    simp (le-leb _ _ c6.before.before.before.if-size-lt4.false) (c.fields.ensures ∙ ap (fields_of kind _ _) rest)

pub header_spec : {M : Type 1} → statement M
header_spec =
    tie.close (tie.spec (λ c κs. search rules) returns (λ c. search rules) (λ c. search rules) (λ c κs. search rules)
    (λ c κs. search rules) (λ c κs. search rules) (λ c κs. search rules) (λ c. search rules) (λ c. search rules) (λ c κs. search rules)
    returns-2)
