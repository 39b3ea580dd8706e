-- `nets::Spans::pin_count`: the total is the sum over the nets passed.
use Rattle.std.proofs.Common.{◌≡◌, ◌*◌, ◌-◌, ◌≤◌}
use Rattle.counting.specs.Counting.{sum}
use Rattle.terms.specs.Limits.{byte_values}
use Rattle.nets.specs.Tables.{pins_of_net}
use Rattle.nets.proofs.Spans.pin_count.Given as goal

abbrev pub invariant-loop-m : goal.invariant-loop-m
invariant-loop-m l = record {
  summed : l.total ≡ sum (pins_of_net l.self) (l.m - 1);
  small : l.total ≤ 4 * byte_values * l.m;
}
