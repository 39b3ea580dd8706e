-- `channel::lay_trunks`: the trunks of the nets passed are laid.
use Rattle.std.proofs.Common.{◌-◌}
use Rattle.grid.specs.Grid.{upright}
use Rattle.trunks.specs.Trunks.{trunks_of}
use Rattle.channel.specs.Laying.{plan_of, Crossed}
use Rattle.channel.proofs.lay_trunks.Given as goal

abbrev pub invariant-loop-m : goal.invariant-loop-m
invariant-loop-m l = Crossed (plan_of (trunks_of l.spans.columns.first l.spans.columns.last l.places) l.frame.w.0)
    (upright l.frame.n.0 l.frame.w.0 l.frame.k.0) l.initial.wiring l.wiring (l.m - 1)
