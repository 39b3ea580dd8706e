-- `edge_floor::edge_floor` meets its contract: a refusal of the reading, or the floors of a problem that `reading_good` says is good.
use Rattle.std.proofs.Common.{ap, ◌∙◌}
use Rattle.ticket.proofs.Good.{reading_good}
use Rattle.edge_floor.specs.Floors.{refused}
use Rattle.edge_floor.proofs.Promise.{no_box, tells_refused, tells_good}
use Rattle.edge_floor.proofs.edge_floor.Goals as goal

pub returns-then-t-ne0 : goal.returns-then-t-ne0
returns-then-t-ne0 c = tells_refused c.args.ticket.now c.parse_spans-t.ensures.reads c.if-t-ne0.true c.refused.ensures

pub returns-then-kind-ne-BOX : goal.returns-then-kind-ne-BOX
returns-then-kind-ne-BOX c =
    tells_good c.args.ticket.now c.parse_spans-t.ensures.reads c.if-t-ne0.false
    (c.refused-then-kind-ne-BOX.ensures ∙ ap refused c.refuse.ensures ∙ no_box c.parse_spans-t.result.problem c.if-kind-ne-BOX.true)

pub box_floors-requires : goal.box_floors-requires
box_floors-requires c = (
  reading_good _ c.parse_spans-t.ensures.reads c.if-t-ne0.false,
  c.if-kind-ne-BOX.false,
  c.parse_spans-t.ensures.spans c.if-t-ne0.false,
)

pub returns : goal.returns
returns c = tells_good c.args.ticket.now c.parse_spans-t.ensures.reads c.if-t-ne0.false c.box_floors.ensures
