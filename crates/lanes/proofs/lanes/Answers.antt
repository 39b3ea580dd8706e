-- The nets that are wanted take lanes in two passes.
use Rattle.lanes.proofs.Placing.{lanes_distinct, lanes_of}
use Rattle.lanes.proofs.lanes.Goals as goal

pub fill_spare-requires : goal.fill_spare-requires
fill_spare-requires c =
    let own = c.take_own-placed.ensures in
    rw c.count_left.ensures (lanes_distinct _ _ _ _ _ _ _ c.requires _ c.who_needs-left.ensures _ _ _ own.0 own.1)

pub returns : goal.returns
returns c =
    let own = c.take_own-placed.ensures in
    lanes_of _ _ _ _ _ _ _ c.requires _ c.who_needs-left.ensures _ _ _ own.0 own.1 _ _ c.list_left-list.ensures
    (rw c.count_left.ensures at c.fill_spare.ensures)
