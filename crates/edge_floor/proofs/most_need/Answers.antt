-- `edge_floor::most_need` meets its contract: only the first and the last column need more than they must pass.
use Rattle.std.proofs.Common.{arith, ap, ◌∙◌, max}
use Rattle.grid.specs.Legal.{entry}
use Rattle.edge_floor.proofs.Held.{one_side, two_sides}
use Rattle.edge_floor.proofs.Needs.{needs_one, needs_two}
use Rattle.edge_floor.proofs.most_need.Goals as goal

pub need_at-requires : goal.need_at-requires
need_at-requires c =
    let a = c.args in
    omega (arith, c.requires.0.places, two_sides (entry a.near.now) (entry a.far.now) a.w c.held_counts-beside.ensures)

pub returns-then-x-eq1 : goal.returns-then-x-eq1
returns-then-x-eq1 c =
    let only = c.need_at.ensures in
    let beside = c.held_counts-beside in
    needs_one c.requires.0 c.args.x.first.now c.args.x.last.now c.requires.1 beside.result c.if-x-eq1.true beside.ensures only.value
    only.upper_bound c.max.ensures

-- the pins of either side fit a byte
pub need_at-begin-requires : goal.need_at-begin-requires
need_at-begin-requires c =
    let ends = c.requires.0 in
    omega (arith, ends.places, one_side (entry c.args.near.now) c.args.w ends.nears, one_side (entry c.args.far.now) c.args.w ends.fars)

pub need_at-end-requires : goal.need_at-end-requires
need_at-end-requires c =
    let ends = c.requires.0 in
    omega (arith, ends.places, one_side (entry c.args.near.now) c.args.w ends.nears, one_side (entry c.args.far.now) c.args.w ends.fars)

pub returns : goal.returns
returns c =
    let begin = c.need_at-begin.ensures in
    let end = c.need_at-end.ensures in
    needs_two c.requires.0 c.args.x.first.now c.args.x.last.now c.requires.1 (omega (arith, c.requires.0.columns, c.if-x-eq1.false))
    begin.value end.value (begin.upper_bound, end.upper_bound) (c.max-3.ensures ∙ ap (max c.args.across) c.max-2.ensures)
