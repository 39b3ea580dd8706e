-- `ticket_writer::with_map`: what is added are the first j bytes of the map.
use Rattle.std.proofs.Common.{◌≡◌, ◌+◌}
use Rattle.grid.specs.Legal.{entry}
use Rattle.output.specs.Building.{Adds}
use Rattle.ticket_sides.specs.Format.{values_from}
use Rattle.ticket_bytes.specs.Bytes.{map_byte}
use Rattle.ticket_writer.proofs.with_map.Given as goal

abbrev pub invariant-loop-j : goal.invariant-loop-j
invariant-loop-j l = record {
  adds : Adds l.initial.out (values_from (map_byte (entry l.nets) l.places) 0 l.j) l.out;
  size : l.out.used ≡ l.initial.out.used + l.j;
}
