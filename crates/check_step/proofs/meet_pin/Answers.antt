-- A pin that is marked is joined to the cell.
use Rattle.std.proofs.Common.{arith}
use Rattle.check_step.proofs.Growing.{met_none, met_one}
use Rattle.check_step.proofs.meet_pin.Goals as goal

pub returns-then-not-touches : goal.returns-then-not-touches
returns-then-not-touches c = met_none

pub returns : goal.returns
returns c = met_one _ _ _ _ c.requires.cell c.claim.ensures (omega arith) (c.requires.tip c.if-not-touches.false)
