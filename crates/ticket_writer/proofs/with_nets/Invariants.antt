-- `ticket_writer::with_nets`: what is added are the nets of the places passed.
use Rattle.std.proofs.Common.{◌≡◌, ◌≤◌, ◌+◌, ◌++◌, length, take}
use Rattle.grid.specs.Legal.{entry}
use Rattle.output.specs.Building.{most_output}
use Rattle.ticket_bytes.specs.Bytes.{nets_to}
use Rattle.ticket_writer.proofs.with_nets.Given as goal

abbrev pub invariant-loop-net : goal.invariant-loop-net
invariant-loop-net l = record {
  room : length l.out.bytes ≡ most_output;
  most : l.used ≤ l.initial.out.used + l.net-index;
  bytes : take l.used l.out.bytes ≡ take l.initial.out.used l.initial.out.bytes ++ nets_to (entry l.nets) l.net-index;
}
