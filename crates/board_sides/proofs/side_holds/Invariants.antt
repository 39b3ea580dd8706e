-- What is found so far is whether one of the places passed holds the net.
use Rattle.std.proofs.Common.{◌≡◌, eqb}
use Rattle.counting.specs.Counting.{some}
use Rattle.grid.specs.Legal.{entry}
use Rattle.board_sides.proofs.side_holds.Given as goal

abbrev pub invariant-loop-pin : goal.invariant-loop-pin
invariant-loop-pin l = l.found ≡ some (λ a. eqb (entry l.pin-items a) l.net) l.pin-index
