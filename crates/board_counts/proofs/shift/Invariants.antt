-- The entries passed are as they are to be.
use Rattle.board_law.specs.Counts.{count_entries}
use Rattle.board_counts.proofs.InPlace.{Passed}
use Rattle.board_counts.proofs.Shifts.{shifted_at}
use Rattle.board_counts.proofs.shift.Given as goal

abbrev pub invariant-loop-i : goal.invariant-loop-i
invariant-loop-i l = Passed (shifted_at l.from l.size l.step) count_entries l.i l.fn.list l.list
