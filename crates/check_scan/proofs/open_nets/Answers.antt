-- One pin more.
use Rattle.std.proofs.Common.{refl, arith, rules, length-set}
use Rattle.check_scan.proofs.Scans.{opened_start, opened_at}
use Rattle.check_scan.proofs.open_nets.Goals as goal

pub loop-a-init : goal.loop-a-init
loop-a-init c = record { opened = opened_start _ _; marks = search rules; size = simp length-set refl }

pub loop-a-preserved : goal.loop-a-preserved
loop-a-preserved c =
    record {
      opened = opened_at _ _ _ _ _ _ c.from-v.ensures c.from.ensures c.loop-a.invariant.opened (omega (arith, c.loop-a.invariant.marks))
          (omega (arith, c.loop-a.invariant.size, c.fits-p c.loop-a.a)) (omega (arith, c.fits-p c.loop-a.a));
      marks = simp length-set c.loop-a.invariant.marks;
      size = simp length-set c.loop-a.invariant.size;
    }

pub returns-clause-size : goal.returns-clause-size
returns-clause-size c = (search rules, c.loop-a.invariant.marks)
