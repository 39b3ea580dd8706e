-- `channel::lay_layer`: a layer that is no comb is a trunk layer, painted with zeros.
use Rattle.std.proofs.Common.{arith}
use Rattle.channel.proofs.Layers.{trunk_layer}
use Rattle.channel.proofs.lay_layer.Goals as goal

pub returns-in_default : goal.returns-in_default
returns-in_default c = trunk_layer c.args.l c.args.a.now c.args.b.now (omega arith) c.requires.1 c.fill.ensures
