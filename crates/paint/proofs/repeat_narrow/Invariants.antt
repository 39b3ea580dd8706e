-- The rows above row j are copies of the first.
use Rattle.std.proofs.Common.{◌≡◌, get_or}
use Rattle.paint.specs.Paint.{Lined}
use Rattle.paint.proofs.repeat_narrow.Given as goal

abbrev pub invariant-loop-j : goal.invariant-loop-j
invariant-loop-j l = Lined l.fn.part l.part l.n l.j (λ i k v. v ≡ get_or l.fn.part i 0)

abbrev pub invariant-loop-j-2 : goal.invariant-loop-j-2
invariant-loop-j-2 l = Lined l.fn.part l.part l.n l.j (λ i k v. v ≡ get_or l.fn.part i 0)
