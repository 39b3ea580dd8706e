-- `nets::Spans::net_count`: the total is the count over the nets passed.
use Rattle.std.proofs.Common.{◌≡◌, ◌-◌, ◌<◌, leb}
use Rattle.counting.specs.Counting.{count}
use Rattle.nets.specs.Tables.{pins_of_net}
use Rattle.nets.proofs.Spans.net_count.Given as goal

abbrev pub invariant-loop-m : goal.invariant-loop-m
invariant-loop-m l = record {
  counted : l.total ≡ count (λ x. leb 1 (pins_of_net l.self x)) (l.m - 1);
  small : l.total < l.m;
}
