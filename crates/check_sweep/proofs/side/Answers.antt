-- One pin more.
use Rattle.check_link.proofs.Sweeping.{below_more}
use Rattle.check_sweep.proofs.side.Goals as goal

pub loop-t-preserved : goal.loop-t-preserved
loop-t-preserved c = below_more _ _ c.loop-t.invariant c.touch-made.ensures
