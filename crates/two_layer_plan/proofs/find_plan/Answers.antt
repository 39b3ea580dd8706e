-- What both sides' tables tell is what the plan promises.
use Rattle.std.proofs.Common.{arith, sym, ◌∙◌}
use Rattle.grid.specs.Legal.{entry}
use Rattle.two_layer_law.specs.Moves.{moves}
use Rattle.two_layer_plan.proofs.Promise.{near, start_agrees, none_first, solid_same}
use Rattle.two_layer_plan.proofs.find_plan.Goals as goal

pub returns-then-is_solid : goal.returns-then-is_solid
returns-then-is_solid c =
    let north = c.args.pins.now.north in
    let south = c.args.pins.now.south in
    let fs = c.firsts-first.ensures in
    let os = c.firsts-other.ensures in
    let start = c.leads-cut.ensures (entry south) fs os in
    let end = c.leads-goal.ensures (entry north) os fs in
    let (few, ns, ss) = rw (← c.column_count-columns.ensures) at c.requires in
    rw (← c.column_count-columns.ensures) (record {
      norths = c.gather_side-norths.ensures (entry south) ns fs os;
      souths = c.gather_side-souths.ensures (entry north) ss os fs;
      moves = sym (solid_same (entry north) (entry south) _ _ _ start end) ∙ sym c.is_solid.ensures ∙ c.if-is_solid.true;
    })

pub find_moves-moves-requires : goal.find_moves-moves-requires
find_moves-moves-requires c =
    let north = c.args.pins.now.north in
    let south = c.args.pins.now.south in
    let fs = c.firsts-first.ensures in (
      omega arith,
      none_first south north _ _ (c.leads-goal.ensures (entry north) c.firsts-other.ensures fs),
      near north _ _ fs,
    )

pub returns : goal.returns
unfolding moves
returns c =
    let north = c.args.pins.now.north in
    let south = c.args.pins.now.south in
    let fs = c.firsts-first.ensures in
    let os = c.firsts-other.ensures in
    let start = c.leads-cut.ensures (entry south) fs os in
    let end = c.leads-goal.ensures (entry north) os fs in
    let (few, ns, ss) = rw (← c.column_count-columns.ensures) at c.requires in
    rw (← c.column_count-columns.ensures) (record {
      norths = c.gather_side-norths.ensures (entry south) ns fs os;
      souths = c.gather_side-souths.ensures (entry north) ss os fs;
      moves = (
        sym (solid_same (entry north) (entry south) _ _ _ start end) ∙ sym c.is_solid.ensures ∙ c.if-is_solid.false,
        c.find_moves-moves.ensures _ _ end (start_agrees north _ _ fs south _ start),
      );
    })
