-- The count of the nets passed is the sum of their tests.
use Rattle.std.proofs.Common.{◌≡◌, ◌-◌}
use Rattle.counting.specs.Counting.{count}
use Rattle.switchbox.specs.Box.{corner_at}
use Rattle.switchbox.proofs.count_corner.Given as goal

abbrev pub invariant-loop-m : goal.invariant-loop-m
invariant-loop-m l = l.found ≡ count (corner_at l.a l.b l.c l.d) (l.m - 1)
