-- The places passed are taken as the first pass has it.
use Rattle.lanes.specs.Placing.{Took}
use Rattle.lanes.proofs.take_own.Given as goal

abbrev pub invariant-loop-i : goal.invariant-loop-i
invariant-loop-i l = Took l.own l.initial.left l.left l.spare l.lanes l.count l.i
