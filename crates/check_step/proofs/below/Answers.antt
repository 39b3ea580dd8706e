-- The point on the layer before.
use Rattle.std.proofs.Common.{arith}
use Rattle.check_step.proofs.Steps.{step_down}
use Rattle.check_step.proofs.below.Goals as goal

pub returns-then-l-gt0 : goal.returns-then-l-gt0
returns-then-l-gt0 c = step_down c.requires c.area.ensures (omega arith)
