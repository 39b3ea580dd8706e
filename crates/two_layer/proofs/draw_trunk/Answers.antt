-- Zeros in the whole row, and then the net in its trunk's columns.
use Rattle.std.proofs.Common.{arith, rules}
use Rattle.two_layer.proofs.TrackRows.{trunk_put}
use Rattle.two_layer.proofs.draw_trunk.Goals as goal

pub returns-then-from-to : goal.returns-then-from-to
returns-then-from-to c =
    trunk_put c.args.x c.args.low c.args.high c.requires.0 (omega arith) c.from-to.ensures c.if-from-to.true (omega arith)
    (c.fill.ensures.after (search rules)) (c.fill-then-from-to.ensures.after (search rules))
