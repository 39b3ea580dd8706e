-- A pin that waited has another mark, and then its walks are made.
use Rattle.std.proofs.Common.{arith}
use Rattle.check_sweep.proofs.Settling.{grown_none, grown_then}
use Rattle.check_walk.proofs.Starting.{remarked}
use Rattle.check_walk.proofs.take_up.Goals as goal

pub returns-then-s-a-ne1-clause-grown : goal.returns-then-s-a-ne1-clause-grown
returns-then-s-a-ne1-clause-grown c = grown_none

pub returns-then-column_count-i-clause-grown : goal.returns-then-column_count-i-clause-grown
returns-then-column_count-i-clause-grown c =
    remarked c.args.x.pins.now c.args.s.now c.args.x.points.now c.args.m.now (omega arith) (λ z. omega arith) (λ z. omega arith)

pub returns-clause-grown : goal.returns-clause-grown
returns-clause-grown c =
    grown_then
    (remarked c.args.x.pins.now c.args.s.now c.args.x.points.now c.args.m.now (omega arith) (λ z. omega arith) (λ z. omega arith))
    c.walk_from.ensures
