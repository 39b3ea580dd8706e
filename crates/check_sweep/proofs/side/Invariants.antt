-- The edges of the pins passed are swept.
use Rattle.check_link.specs.Marks.{Swept}
use Rattle.check_sweep.specs.Reached.{val, two}
use Rattle.check_sweep.specs.Pins.{PinRun}
use Rattle.check_sweep.proofs.side.Given as goal

abbrev pub invariant-loop-t : goal.invariant-loop-t
invariant-loop-t l = Swept (val l.x.pins.now l.x.points.now) (two l.fn.s l.fn.m) (two l.s l.m) (PinRun l.first l.start l.gap l.t) l.made
