-- The bytes so far are values of the closure.
use Rattle.std.proofs.Common.{ℕ, ◌<◌, get_or}
use Rattle.paint.proofs.fill_by.Given as goal

abbrev pub invariant-loop-i : goal.invariant-loop-i
invariant-loop-i g l = (k : ℕ) → k < l.i → goal.F-post g l.value k (get_or l.part k 0)
