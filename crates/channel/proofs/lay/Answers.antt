-- `channel::lay`: the trunks have room beside the combs.
use Rattle.std.proofs.Common.{take, arith}
use Rattle.trunks.specs.Trunks.{trunks_of}
use Rattle.channel.proofs.Drawings.{may_cross}
use Rattle.channel.proofs.lay.Goals as goal

pub lay_trunks-requires-clause-seated : goal.lay_trunks-requires-clause-seated
lay_trunks-requires-clause-seated c =
    may_cross (take c.args.frame.n.0 c.args.pins.now.north) (take c.args.frame.n.0 c.args.b.now)
    (trunks_of c.args.spans.now.columns.first c.args.spans.now.columns.last c.place_trunks-places.result) c.requires.given (omega arith)
    c.place_trunks-places.ensures c.lay_layers.ensures
