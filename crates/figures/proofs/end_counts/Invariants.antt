-- The loop of `figures::end_counts`: the nets below m are counted.
use Rattle.std.proofs.Common.{◌-◌}
use Rattle.figures.specs.Crossings.{EndsCounted}
use Rattle.figures.proofs.end_counts.Given as goal

abbrev pub invariant-loop-m : goal.invariant-loop-m
invariant-loop-m l = EndsCounted l.extents.from l.extents.to l.past (l.m - 1) l.coming l.near l.far
