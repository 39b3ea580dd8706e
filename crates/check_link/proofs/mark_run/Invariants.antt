-- The edges passed are swept.
use Rattle.check_link.specs.Marks.{at, one, Swept}
use Rattle.check_link.specs.Edges.{Run}
use Rattle.check_link.proofs.mark_run.Given as goal

abbrev pub invariant-loop-t : goal.invariant-loop-t
invariant-loop-t l = Swept (at l.x) (one l.fn.m) (one l.m) (Run l.start l.t l.gap) l.made
