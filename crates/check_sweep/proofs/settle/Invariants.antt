-- What is marked is reached, and each sweep that is not the last leaves fewer spots without a mark.
use Rattle.std.proofs.Common.{◌+◌}
use Rattle.grid.specs.Grid.{grid_of}
use Rattle.check_link.specs.Marks.{zeros}
use Rattle.check_sweep.specs.Reached.{val, two, Grown}
use Rattle.check_sweep.specs.Pins.{Edges}
use Rattle.check_sweep.proofs.settle.Given as goal

abbrev pub invariant-sweeps : goal.invariant-sweeps
invariant-sweeps l = Grown (val l.x.pins.now l.x.points.now) (two l.fn.s l.fn.m) (two l.s l.m) (Edges (grid_of l.x.frame))

abbrev pub decreases-sweeps : goal.decreases-sweeps
decreases-sweeps l = zeros l.s + zeros l.m
