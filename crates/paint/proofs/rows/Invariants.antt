-- The rows above row j are copies.
use Rattle.std.proofs.Common.{◌≡◌, get_or}
use Rattle.paint.specs.Paint.{Lined}
use Rattle.paint.proofs.rows.Given as goal

abbrev pub invariant-loop-j : goal.invariant-loop-j
invariant-loop-j l = Lined l.initial.part l.part l.n l.j (λ i k v. v ≡ get_or l.row i 0)
