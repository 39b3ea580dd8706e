-- `flat_reader::end_places` meets its contract: the kinds that have the side.
use mathlib.Core.Path.{◌∙◌}
use mathlib.Core.Bool.{true, false}
use borrow.Author.Rules.{rules}
use Rattle.flat_reader.proofs.Sides.{on_side}
use Rattle.flat_reader.proofs.end_places.Statement.{statement}
use Rattle.flat_reader.proofs.end_places.Tie as tie

returns : tie.Need-returns
returns c = c.by_kind.ensures ∙ on_side c.args.kind c.args.byte2 false false true false

pub end_places_spec : {M : Type 1} → statement M
end_places_spec = tie.close (tie.spec (λ c κs. search rules) returns)
