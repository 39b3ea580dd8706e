-- `channel::lay_layers`: one layer more is laid.
use Rattle.std.proofs.Common.{arith}
use Rattle.channel.proofs.Layers.{stack_next}
use Rattle.channel.proofs.lay_layers.Goals as goal

pub loop-l-preserved : goal.loop-l-preserved
loop-l-preserved c = record {
  same = c.loop-l.invariant.same;
  stacked = stack_next c.loop-l.invariant.stacked (omega arith) c.lay_layer.ensures;
}
