-- The layers passed are swept.
use Rattle.grid.specs.Grid.{grid_of}
use Rattle.check_link.specs.Marks.{Swept}
use Rattle.check_link.specs.Edges.{Below}
use Rattle.check_sweep.specs.Reached.{val, two}
use Rattle.check_sweep.specs.Pins.{EndsOf}
use Rattle.check_sweep.proofs.pins.Given as goal

abbrev pub invariant-loop-l : goal.invariant-loop-l
invariant-loop-l l = Swept (val l.x.pins.now l.x.points.now) (two l.fn.s l.fn.m) (two l.s l.m) (Below (EndsOf (grid_of l.x.frame)) l.l) l.made
