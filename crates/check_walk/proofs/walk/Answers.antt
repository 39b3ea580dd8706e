-- One step more.
use Rattle.check_sweep.proofs.Settling.{grown_none, grown_then}
use Rattle.check_walk.proofs.walk.Goals as goal

pub steps-init : goal.steps-init
steps-init c = record { cell = c.requires.1; grown = grown_none }

pub returns-in_default : goal.returns-in_default
returns-in_default c = grown_then c.steps.invariant.grown c.advance.ensures.grown

pub steps-preserved : goal.steps-preserved
steps-preserved c = record { cell = c.in-Some.ensures.cell; grown = grown_then c.steps.invariant.grown c.advance.ensures.grown }
