-- The entries of the nets passed are right.
use Rattle.std.proofs.Common.{◌≡◌, length}
use Rattle.terms.specs.Limits.{net_entries}
use Rattle.switchbox_law.specs.Rules.{wanted}
use Rattle.lanes.specs.Tables.{tallies}
use Rattle.lanes.proofs.Wanting.{Told}
use Rattle.lanes.proofs.who_needs.Given as goal

abbrev pub invariant-loop-m : goal.invariant-loop-m
invariant-loop-m l = record {
  long : length l.out ≡ net_entries;
  passed : Told (wanted l.first (tallies l.counts.north.now l.counts.south.now l.counts.west.now l.counts.east.now)) l.out l.m;
}
