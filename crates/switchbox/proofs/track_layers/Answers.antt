-- A comb and the track layer above it are the next round.
use Rattle.switchbox.proofs.Rounds.{next_round}
use Rattle.switchbox.proofs.track_layers.Goals as goal

pub loop-t-preserved : goal.loop-t-preserved
loop-t-preserved c =
    next_round c.requires c.loop-t.invariant c.loop-t-test.true c.north_or_south-side.ensures c.paint_comb.ensures c.paint_lines.ensures
