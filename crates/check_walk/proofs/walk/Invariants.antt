-- What is marked is reached, and the walk is at a cell.
use Rattle.grid.specs.Grid.{grid_of}
use Rattle.check_sweep.specs.Reached.{val, two, Grown}
use Rattle.check_sweep.specs.Pins.{Edges}
use Rattle.check_step.specs.Step.{On}
use Rattle.check_walk.proofs.walk.Given as goal

abbrev pub invariant-steps : goal.invariant-steps
invariant-steps l = record { cell : On (grid_of l.x.frame) l.here; grown : Grown (val l.x.pins.now l.x.points.now) (two l.fn.s l.fn.m) (two l.s l.m) (Edges (grid_of l.x.frame)) }
