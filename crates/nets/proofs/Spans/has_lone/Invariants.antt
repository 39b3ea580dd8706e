-- `nets::Spans::has_lone`: while no net passed has one pin, the least such is 0.
use Rattle.std.proofs.Common.{◌≡◌, ◌-◌, false, eqb}
use Rattle.counting.specs.Counting.{least}
use Rattle.nets.specs.Tables.{pins_of_net}
use Rattle.nets.proofs.Spans.has_lone.Given as goal

abbrev pub invariant-loop-m : goal.invariant-loop-m
invariant-loop-m l = l.some ≡ false → least (λ x. eqb (pins_of_net l.self x) 1) (l.m - 1) ≡ 0
