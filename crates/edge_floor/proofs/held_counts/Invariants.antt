-- The loop of `edge_floor::held_counts`: the places passed are counted.
use Rattle.nets.proofs.Tabling.{Table}
use Rattle.edge_floor.proofs.Held.{held}
use Rattle.edge_floor.proofs.held_counts.Given as goal

abbrev pub invariant-loop-i : goal.invariant-loop-i
invariant-loop-i l = Table (held l.a l.b l.i) l.held
