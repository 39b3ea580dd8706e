-- The entries of the nets passed are right, and `mine` is the turn of the next one.
use Rattle.std.proofs.Common.{◌≡◌, ◌-◌, length, get_or}
use mathlib.Core.Bool.{false}
use Rattle.terms.specs.Limits.{net_entries}
use Rattle.switchbox_law.specs.Rules.{alternate}
use Rattle.lanes.proofs.Wanting.{Turned}
use Rattle.lanes.proofs.turns.Given as goal

abbrev pub invariant-loop-m : goal.invariant-loop-m
invariant-loop-m l = record {
  long : length l.out ≡ net_entries;
  mine : l.mine ≡ alternate l.first (λ k. get_or l.pairs k false) (l.m - 1);
  passed : Turned l.first (λ k. get_or l.pairs k false) l.out (l.m - 1);
}
