-- The entries of the nets passed are right.
use Rattle.std.proofs.Common.{◌≡◌, length}
use Rattle.terms.specs.Limits.{net_entries}
use Rattle.switchbox_law.specs.Rules.{pair}
use Rattle.lanes.specs.Tables.{tallies}
use Rattle.lanes.proofs.Wanting.{Told}
use Rattle.lanes.proofs.who_pairs.Given as goal

abbrev pub invariant-loop-m : goal.invariant-loop-m
invariant-loop-m l = record {
  long : length l.out ≡ net_entries;
  passed : Told (λ m. pair (tallies l.counts.north.now l.counts.south.now l.counts.west.now l.counts.east.now m)) l.out l.m;
}
