-- The nets of the list that are passed have their lanes.
use Rattle.lanes.specs.Placing.{Spread}
use Rattle.lanes.proofs.fill_spare.Given as goal

abbrev pub invariant-loop-p : goal.invariant-loop-p
invariant-loop-p l = Spread l.initial.lanes l.spare l.list l.p l.lanes
