-- `nets::pin_table`: the places passed are told.
use Rattle.nets.proofs.Tabling.{Passed}
use Rattle.nets.proofs.pin_table.Given as goal

abbrev pub invariant-loop-i : goal.invariant-loop-i
invariant-loop-i l = Passed l.a l.b l.i l.t
