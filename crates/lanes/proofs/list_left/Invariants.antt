-- The nets passed that are left are listed.
use Rattle.std.proofs.Common.{◌≡◌, ◌-◌, length, get_or}
use mathlib.Core.Bool.{false}
use Rattle.counting.specs.Counting.{count}
use Rattle.terms.specs.Limits.{net_entries}
use Rattle.lanes.specs.Placing.{Listed}
use Rattle.lanes.proofs.list_left.Given as goal

abbrev pub invariant-loop-m : goal.invariant-loop-m
invariant-loop-m l = record {
  long : length l.list ≡ net_entries;
  rank : l.count ≡ count (λ m. get_or l.left m false) (l.m - 1);
  listed : Listed l.left l.list l.count;
}
