-- The next net's turn, and the entry for it.
use Rattle.std.proofs.Common.{refl, arith, length-set}
use Rattle.lanes.proofs.Wanting.{turn_none, turn_more, turned_more}
use Rattle.lanes.proofs.turns.Goals as goal

pub loop-m-init : goal.loop-m-init
loop-m-init c = record { long = refl; mine = turn_none _ _; passed = λ k l. absurd (omega arith) }

pub loop-m-preserved : goal.loop-m-preserved
loop-m-preserved c =
    let l = c.loop-m in record {
      long = simp length-set l.invariant.long;
      mine = turn_more _ _ l.m l.mine l.auto.m l.invariant.mine;
      passed = turned_more _ _ l.out l.m l.mine l.invariant.long l.auto.m (omega arith) l.invariant.mine l.invariant.passed;
    }

pub returns : goal.returns
returns c = λ m l. c.loop-m.invariant.passed m (omega arith)
