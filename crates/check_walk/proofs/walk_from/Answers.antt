-- The pin touches its point on each layer.
use Rattle.std.proofs.Common.{◌∙◌, arith}
use Rattle.check_sweep.proofs.Settling.{grown_none, grown_then}
use Rattle.check_sweep.specs.Reached.{a_pin}
use Rattle.check_walk.proofs.Starting.{on_layer}
use Rattle.check_walk.proofs.walk_from.Goals as goal

pub loop-l-init : goal.loop-l-init
loop-l-init c = grown_none

pub begin-requires : goal.begin-requires
begin-requires c = (
  c.loop-l.auto.m ∙ c.requires.marks,
  record {
    place = c.requires.place.0;
    marked = c.loop-l.invariant.keep (a_pin c.args.a) c.requires.place.1;
    cell = on_layer c.area-each.ensures c.column_count-n.ensures c.requires.point.0 c.requires.point.1 (omega arith);
    tip = c.requires.tip;
  },
)

pub loop-l-preserved : goal.loop-l-preserved
loop-l-preserved c = grown_then c.loop-l.invariant c.begin.ensures
