-- The lists are drawn one after the other, each in tracks of its own.
use Rattle.two_layer_cuts.specs.Rows.{operations_in, ops_of}
use Rattle.two_layer.specs.Given.{moves_in}
use Rattle.two_layer.proofs.Lists.{all_drawn}
use Rattle.two_layer.proofs.draw.Goals as goal

pub returns : goal.returns
returns c =
    let p = c.args.plan.now in
    let e = c.track_count-top.ensures in
    let first = rw (e, c.as_slice-norths.ensures) at c.draw_list-gathered.ensures.drawn in
    let led = rw c.as_slice-norths.ensures at c.draw_list-gathered.ensures.led in
    let second = simp (e, c.as_slice-norths.ensures, c.moves_in-moves.ensures) at c.draw_list.ensures.drawn in
    let third = rw c.as_slice.ensures at c.draw_list-2.ensures.drawn in
    all_drawn _ _ (ops_of (operations_in p.norths)) (ops_of (moves_in p.moves)) (ops_of (operations_in p.souths)) c.requires.w_value
    c.requires.fact.0.1 c.cut_of-start.ensures c.cut_of-end.ensures c.draw_track.ensures first led second third
