-- `trunks::Packing::place_one`: the place that the search finds is the one that `placed` gives, and it finds one.
use Rattle.std.proofs.Common.{sym, ◌∙◌, arith}
use Rattle.trunks.proofs.Searches.{free_some, free_none}
use Rattle.trunks.proofs.Packing.place_one.Goals as goal

pub returns-in-Some : goal.returns-in-Some
returns-in-Some c =
    rw (free_some c.args.span.left c.args.self.now.lasts c.in-Some.at (sym c.first_free.ensures ∙ c.in-Some.is), c.from.ensures)

pub returns-in_default : goal.returns-in_default
returns-in_default c =
    absurd (omega (arith, c.requires.0, free_none c.args.span.left c.args.self.now.lasts (sym c.first_free.ensures ∙ c.in_default.is)))
