-- The places passed are free and new, and the net stands at them.
use Rattle.std.proofs.Common.{take}
use Rattle.problem.specs.Problem.{pins_in}
use Rattle.board_law.specs.Edits.{is_free}
use Rattle.board_law.proofs.Accepted.{Counting}
use Rattle.board_pins.proofs.Frees.{Stands}
use Rattle.board_pins.proofs.place_net.Given as goal

abbrev pub invariant-loop-i : goal.invariant-loop-i
invariant-loop-i l = record {
  counting : Counting (is_free l.q (pins_in l.fn.pins)) l.places l.i;
  stands : Stands (pins_in l.fn.pins) l.net (take l.i l.places) (pins_in l.pins);
}
