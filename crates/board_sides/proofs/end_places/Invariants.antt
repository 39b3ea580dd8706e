-- What is kept is what the places passed tell.
use Rattle.grid.specs.Legal.{entry}
use Rattle.board_sides.proofs.Seen.{Seen}
use Rattle.board_sides.proofs.end_places.Given as goal

abbrev pub invariant-loop-i : goal.invariant-loop-i
invariant-loop-i l = Seen (entry l.here) (entry l.there) l.net l.i l.first l.last l.one l.two
