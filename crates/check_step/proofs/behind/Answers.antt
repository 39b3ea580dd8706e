-- The point before along a track, or along a column.
use Rattle.std.proofs.Common.{sym, ◌∙◌, arith}
use Rattle.check_step.proofs.Steps.{step_left, step_back}
use Rattle.check_step.proofs.behind.Goals as goal

pub returns-then-i-gt0 : goal.returns-then-i-gt0
returns-then-i-gt0 c = step_left c.requires (sym c.is_horizontal.ensures ∙ c.if-is_horizontal.true) (omega arith)

pub returns-then-j-gt0 : goal.returns-then-j-gt0
returns-then-j-gt0 c = step_back c.requires (sym c.is_horizontal.ensures ∙ c.if-is_horizontal.false) c.column_count.ensures (omega arith)
