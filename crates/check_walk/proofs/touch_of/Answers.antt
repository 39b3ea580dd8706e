-- Where each side's places begin in the pin list.
use Rattle.std.proofs.Common.{refl, arith}
use Rattle.check_step.specs.Step.{north_tip, south_tip, west_tip, east_tip}
use Rattle.check_walk.proofs.touch_of.Goals as goal

pub returns-then-a-lt-SOUTH_START : goal.returns-then-a-lt-SOUTH_START
returns-then-a-lt-SOUTH_START c = north_tip refl (omega arith)

pub returns-then-a-lt-WEST_START : goal.returns-then-a-lt-WEST_START
returns-then-a-lt-WEST_START c = south_tip (omega arith) refl

pub returns-then-a-lt-EAST_START : goal.returns-then-a-lt-EAST_START
returns-then-a-lt-EAST_START c = west_tip (omega arith) refl

pub returns : goal.returns
returns c = east_tip (omega arith) (omega arith)
