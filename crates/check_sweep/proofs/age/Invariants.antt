-- The entries passed have aged, the others are as they were.
use Rattle.check_sweep.proofs.Ageing.{Ageing}
use Rattle.check_sweep.proofs.age.Given as goal

abbrev pub invariant-loop-mark : goal.invariant-loop-mark
invariant-loop-mark l = Ageing l.fn.m l.m l.mark-index
