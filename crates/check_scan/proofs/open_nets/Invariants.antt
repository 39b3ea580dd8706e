-- Of the pins passed, the table has the nets and the marks the first pins.
use Rattle.std.proofs.Common.{◌≡◌, length}
use Rattle.terms.specs.Limits.{byte_values}
use Rattle.check_sweep.specs.Pins.{pin_places}
use Rattle.check_scan.specs.Scan.{Opened}
use Rattle.check_scan.proofs.open_nets.Given as goal

abbrev pub invariant-loop-a : goal.invariant-loop-a
invariant-loop-a l = record { opened : Opened l.p l.s l.known l.a; marks : length l.s ≡ pin_places; size : length l.known ≡ byte_values }
