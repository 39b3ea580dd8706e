-- The columns passed are led as the rule has it.
use Rattle.std.proofs.Common.{ℕ}
use Rattle.grid.specs.Legal.{entry}
use Rattle.two_layer_law.specs.Moves.{first_on, leads}
use Rattle.two_layer_cuts.specs.Rows.{Row}
use Rattle.two_layer_gather.specs.Tables.{Table}
use Rattle.two_layer_gather.proofs.leads.Given as goal

abbrev pub invariant-loop-i : goal.invariant-loop-i
invariant-loop-i l =
    (b : ℕ → ℕ) → Table (first_on (entry l.side) l.n) l.first → Table (first_on b l.n) l.other → Row l.i (leads (entry l.side) b l.n) l.lead
