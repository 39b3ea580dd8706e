-- The bytes are a row.
use Rattle.std.proofs.Common.{arith}
use Rattle.paint.proofs.Laws.{lined_row}
use Rattle.paint.proofs.fill_by.Goals as goal

pub returns : goal.returns
returns g c = lined_row c.loop-i.auto.part (λ i h. c.loop-i.invariant i (omega arith))
