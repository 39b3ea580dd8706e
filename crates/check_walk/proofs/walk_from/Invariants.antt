-- What is marked is reached.
use Rattle.grid.specs.Grid.{grid_of}
use Rattle.check_sweep.specs.Reached.{val, two, Grown}
use Rattle.check_sweep.specs.Pins.{Edges}
use Rattle.check_walk.proofs.walk_from.Given as goal

abbrev pub invariant-loop-l : goal.invariant-loop-l
invariant-loop-l l = Grown (val l.x.pins.now l.x.points.now) (two l.fn.s l.fn.m) (two l.s l.m) (Edges (grid_of l.x.frame))
