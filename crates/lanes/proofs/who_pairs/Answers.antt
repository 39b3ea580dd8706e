-- The next net's entry is the test of its pins.
use Rattle.std.proofs.Common.{arith, length-set}
use Rattle.lanes.proofs.Wanting.{told_more}
use Rattle.lanes.proofs.who_pairs.Goals as goal

pub loop-m-preserved : goal.loop-m-preserved
loop-m-preserved c =
    let l = c.loop-m in
    let p = c.pins_of.ensures in record {
      long = simp length-set l.invariant.long;
      passed = told_more _ _ _ _ l.invariant.long (omega arith) (rw (p.0, p.1, p.2, p.3) at c.is_pair.ensures) l.invariant.passed;
    }
