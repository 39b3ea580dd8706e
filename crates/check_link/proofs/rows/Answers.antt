-- One track more.
use Rattle.check_link.proofs.Sweeping.{below_more}
use Rattle.check_link.proofs.rows.Goals as goal

pub loop-j-preserved : goal.loop-j-preserved
loop-j-preserved c = below_more _ _ c.loop-j.invariant c.run-made.ensures
