-- The columns passed have told the last of each net.
use Rattle.grid.specs.Legal.{entry}
use Rattle.two_layer_law.specs.Moves.{last_on}
use Rattle.two_layer_gather.specs.Tables.{Table}
use Rattle.two_layer_gather.proofs.lasts.Given as goal

abbrev pub invariant-loop-i : goal.invariant-loop-i
invariant-loop-i l = Table (last_on (entry l.side) l.i) l.last
