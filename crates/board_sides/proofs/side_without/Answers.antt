-- The nets passed are taken away, each of them a number that a net may have.
use Rattle.std.proofs.Common.{arith}
use Rattle.board_law.proofs.Places.{listed_at}
use Rattle.board_sides.proofs.Left.{left_none, left_more, left_all}
use Rattle.board_sides.proofs.side_without.Goals as goal

pub loop-net-init : goal.loop-net-init
loop-net-init c = left_none c.args.side.now c.padded-long.result c.padded-long.ensures.places

pub overflow_cast-net : goal.overflow_cast-net
overflow_cast-net c =
    omega (arith, c.requires.each _ (listed_at c.args.nets.now c.loop-net.net-index c.loop-net-test.true))

pub loop-net-preserved : goal.loop-net-preserved
loop-net-preserved c =
    let l = c.loop-net in
    left_more c.args.side.now c.args.nets.now l.long l.net-index l.invariant c.clear.new.long c.loop-net-test.true c.clear.ensures

pub returns : goal.returns
returns c =
    let l = c.loop-net in
    left_all c.args.side.now c.args.nets.now l.long l.net-index l.invariant _ (omega arith) c.cut.ensures
