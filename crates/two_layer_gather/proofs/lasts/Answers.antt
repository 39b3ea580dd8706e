-- One more column is the last of its net.
use Rattle.std.proofs.Common.{arith}
use Rattle.two_layer_gather.proofs.Tables.{lasts_none, lasts_more}
use Rattle.two_layer_gather.proofs.lasts.Goals as goal

pub loop-i-init : goal.loop-i-init
loop-i-init c = lasts_none c.args.side.now

pub loop-i-preserved : goal.loop-i-preserved
loop-i-preserved c = lasts_more c.args.side.now c.loop-i.last c.loop-i.i _ (omega arith) (omega arith) c.loop-i.invariant
