-- The point on the next layer.
use Rattle.std.proofs.Common.{arith}
use Rattle.check_step.proofs.Steps.{step_up}
use Rattle.check_step.proofs.above.Goals as goal

pub returns-then-l-layer_count : goal.returns-then-l-layer_count
returns-then-l-layer_count c = step_up c.requires c.area.ensures (omega arith)
