-- The nets passed that are left are counted.
use Rattle.std.proofs.Common.{◌≡◌, ◌-◌, get_or}
use mathlib.Core.Bool.{false}
use Rattle.counting.specs.Counting.{count}
use Rattle.lanes.proofs.count_left.Given as goal

abbrev pub invariant-loop-m : goal.invariant-loop-m
invariant-loop-m l = l.count ≡ count (λ m. get_or l.left m false) (l.m - 1)
