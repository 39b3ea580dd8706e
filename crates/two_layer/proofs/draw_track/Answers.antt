-- Each of the two rows starts at its first point's index and lies in the buffer.
use Rattle.std.proofs.Common.{arith, rules}
use Rattle.two_layer_cuts.proofs.Rows.{row_set}
use Rattle.two_layer.proofs.TrackRows.{track_put}
use Rattle.two_layer.proofs.draw_track.Goals as goal

pub returns : goal.returns
returns c =
    let fact = c.requires.fact in
    track_put fact.0 fact.2 fact.3 c.column_count-columns.ensures c.index_of-one.ensures c.index_of-two.ensures
    (row_set c.args.operation.net c.args.operation.to c.from.result c.args.cut c.from.ensures (search rules) (omega arith))
    c.draw_row.ensures c.draw_trunk.ensures
