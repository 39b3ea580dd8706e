-- The layers passed are swept.
use Rattle.check_link.specs.Marks.{at, one, Swept}
use Rattle.grid.specs.Grid.{grid_of}
use Rattle.check_link.specs.Edges.{Below, LayerOf}
use Rattle.check_link.proofs.points.Given as goal

abbrev pub invariant-loop-l : goal.invariant-loop-l
invariant-loop-l l = Swept (at l.x.points.now) (one l.fn.m) (one l.m) (Below (LayerOf (grid_of l.x.frame)) l.l) l.made
