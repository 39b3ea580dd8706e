-- One round more.
use Rattle.check_sweep.proofs.Settling.{grown_none, grown_then}
use Rattle.check_walk.proofs.spread.Goals as goal

pub rounds-init : goal.rounds-init
rounds-init c = grown_none

pub rounds-preserved : goal.rounds-preserved
rounds-preserved c = grown_then c.rounds.invariant c.take_up_all.ensures

pub returns-then-not-take_up_all : goal.returns-then-not-take_up_all
returns-then-not-take_up_all c = grown_then c.rounds.invariant c.take_up_all.ensures
