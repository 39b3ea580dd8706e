-- `ticket_writer::has_pins`: what is found so far is whether one of the places passed holds a pin.
use Rattle.std.proofs.Common.{◌≡◌}
use Rattle.counting.specs.Counting.{some}
use Rattle.grid.specs.Legal.{entry}
use Rattle.ticket_bytes.specs.Bytes.{is_filled}
use Rattle.ticket_writer.proofs.has_pins.Given as goal

abbrev pub invariant-loop-pin : goal.invariant-loop-pin
invariant-loop-pin l = l.found ≡ some (is_filled (entry l.nets)) l.pin-index
