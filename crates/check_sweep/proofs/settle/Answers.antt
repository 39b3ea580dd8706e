-- A sweep that makes no mark is the last.
use Rattle.std.proofs.Common.{arith}
use Rattle.check_sweep.proofs.Ageing.{zeros_aged, aged_two}
use Rattle.check_sweep.proofs.Settling.{grown_none, grown_more, settled_now}
use Rattle.check_sweep.proofs.settle.Goals as goal

pub sweeps-init : goal.sweeps-init
sweeps-init c = grown_none

pub sweeps-preserved : goal.sweeps-preserved
sweeps-preserved c =
    grown_more c.sweeps.invariant (aged_two _ _ c.age.new.m c.age-in-sweeps.new.m c.age.ensures c.age-in-sweeps.ensures) c.sweep.ensures

pub returns-then-sweep-eq0 : goal.returns-then-sweep-eq0
returns-then-sweep-eq0 c =
    settled_now c.sweeps.invariant (aged_two _ _ c.age.new.m c.age-in-sweeps.new.m c.age.ensures c.age-in-sweeps.ensures) c.sweep.ensures c.if-sweep-eq0.true

pub sweeps-smaller : goal.sweeps-smaller
sweeps-smaller c =
    omega (
      arith,
      c.sweep.ensures.less,
      zeros_aged c.sweeps.s c.age.new.m (omega arith) c.age.ensures,
      zeros_aged c.sweeps.m c.age-in-sweeps.new.m (omega arith) c.age-in-sweeps.ensures,
    )
