-- One pin more.
use Rattle.check_sweep.proofs.Settling.{grown_none, grown_then}
use Rattle.check_walk.proofs.take_up_all.Goals as goal

pub loop-a-init : goal.loop-a-init
loop-a-init c = grown_none

pub loop-a-preserved : goal.loop-a-preserved
loop-a-preserved c = grown_then c.loop-a.invariant c.take_up.ensures.grown
