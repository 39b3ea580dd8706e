-- The loop of `figures::peak`: `now` is the nets that go on from the column passed, `best` the most that went over a column.
use Rattle.figures.proofs.Sweep.{Swept}
use Rattle.figures.proofs.peak.Given as goal

abbrev pub invariant-loop-i : goal.invariant-loop-i
invariant-loop-i l = Swept l.extents.from l.extents.to l.i l.now l.best
