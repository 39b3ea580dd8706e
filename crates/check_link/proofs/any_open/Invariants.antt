-- What is found of the edges passed says whether one of them asks for a mark.
use Rattle.check_link.specs.Edges.{AllShut}
use Rattle.check_link.proofs.any_open.Given as goal

abbrev pub invariant-loop-t : goal.invariant-loop-t
invariant-loop-t l = AllShut l.x l.m l.start l.t l.gap l.found
