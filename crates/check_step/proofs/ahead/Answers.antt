-- The next point along a track, or along a column.
use Rattle.std.proofs.Common.{sym, ◌∙◌, arith}
use Rattle.check_step.proofs.Steps.{step_right, step_on}
use Rattle.check_step.proofs.ahead.Goals as goal

pub returns-then-i-n : goal.returns-then-i-n
returns-then-i-n c = step_right c.requires (sym c.is_horizontal.ensures ∙ c.if-is_horizontal.true) (omega arith)

pub returns-then-j-track_count : goal.returns-then-j-track_count
returns-then-j-track_count c = step_on c.requires (sym c.is_horizontal.ensures ∙ c.if-is_horizontal.false) c.column_count-n.ensures (omega arith)
