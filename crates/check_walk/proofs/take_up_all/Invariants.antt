-- What is marked is reached.
use Rattle.grid.specs.Grid.{grid_of}
use Rattle.check_sweep.specs.Reached.{val, two, Grown}
use Rattle.check_sweep.specs.Pins.{Edges}
use Rattle.check_walk.proofs.take_up_all.Given as goal

abbrev pub invariant-loop-a : goal.invariant-loop-a
invariant-loop-a l = Grown (val l.x.pins.now l.x.points.now) (two l.fn.s l.fn.m) (two l.s l.m) (Edges (grid_of l.x.frame))
