-- `ticket_writer::map_byte`: after b places the value is that of the lowest b bits, less than 2 to the power of b.
use Rattle.std.proofs.Common.{◌≡◌, ◌^◌, ◌<◌, ◌≤◌}
use Rattle.grid.specs.Legal.{entry}
use Rattle.ticket_writer.proofs.Laws.{lowest}
use Rattle.ticket_writer.proofs.map_byte.Given as goal

abbrev pub invariant-loop-net : goal.invariant-loop-net
invariant-loop-net l = record {
  power : l.power ≡ 2 ^ l.net-index;
  small : l.power ≤ 256;
  below : l.value < l.power;
  value : l.value ≡ lowest (entry l.nets) l.places l.j l.net-index;
}
