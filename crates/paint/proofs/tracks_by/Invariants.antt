-- The rows above row j are values of the closure.
use Rattle.paint.specs.Paint.{Lined}
use Rattle.paint.proofs.tracks_by.Given as goal

abbrev pub invariant-loop-j : goal.invariant-loop-j
invariant-loop-j g l = Lined l.fn.part l.part l.n l.j (λ i k. goal.F-post g l.value k)

abbrev pub invariant-loop-j-2 : goal.invariant-loop-j-2
invariant-loop-j-2 g l = Lined l.fn.part l.part l.n l.j (λ i k. goal.F-post g l.value k)
