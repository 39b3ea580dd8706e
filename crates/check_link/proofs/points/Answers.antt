-- One layer more.
use Rattle.check_link.proofs.Sweeping.{below_more}
use Rattle.check_link.proofs.points.Goals as goal

pub loop-l-preserved : goal.loop-l-preserved
loop-l-preserved c = below_more _ _ c.loop-l.invariant c.layer-made.ensures
