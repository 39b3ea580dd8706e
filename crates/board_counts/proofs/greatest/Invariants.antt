-- What is kept is the greatest of the entries passed.
use Rattle.std.proofs.Common.{◌≡◌}
use Rattle.counting.specs.Counting.{most}
use Rattle.grid.specs.Legal.{entry}
use Rattle.board_counts.proofs.greatest.Given as goal

abbrev pub invariant-loop-count : goal.invariant-loop-count
invariant-loop-count l = l.largest ≡ most (entry l.list) l.count-index
