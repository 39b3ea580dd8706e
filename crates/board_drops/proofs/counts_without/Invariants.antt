-- The nets passed are there, and the counts are those without them, if none came twice.
use Rattle.problem.specs.Problem.{pins_in}
use Rattle.board_law.specs.Edits.{is_there}
use Rattle.board_law.proofs.Accepted.{CountingThere}
use Rattle.board_drops.proofs.Taken.{TakenTo}
use Rattle.board_drops.proofs.counts_without.Given as goal

abbrev pub invariant-loop-i : goal.invariant-loop-i
invariant-loop-i l = record {
  counting : CountingThere (is_there (pins_in l.q.pins)) l.nets l.i;
  taken : TakenTo l.q l.nets l.i l.fn.columns l.fn.tracks l.columns l.tracks;
}
