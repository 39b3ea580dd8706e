-- `nets::Spans::lone_net`: no net passed has one pin.
use Rattle.std.proofs.Common.{◌≡◌, ◌-◌, eqb}
use Rattle.counting.specs.Counting.{least}
use Rattle.nets.specs.Tables.{pins_of_net}
use Rattle.nets.proofs.Spans.lone_net.Given as goal

abbrev pub invariant-loop-m : goal.invariant-loop-m
invariant-loop-m l = least (λ x. eqb (pins_of_net l.self x) 1) (l.m - 1) ≡ 0
