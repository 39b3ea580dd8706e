-- The tracks passed are swept.
use Rattle.check_link.specs.Marks.{at, one, Swept}
use Rattle.check_link.specs.Edges.{Rows}
use Rattle.check_link.proofs.rows.Given as goal

abbrev pub invariant-loop-j : goal.invariant-loop-j
invariant-loop-j l = Swept (at l.x) (one l.fn.m) (one l.m) (Rows l.q l.n l.j) l.made
