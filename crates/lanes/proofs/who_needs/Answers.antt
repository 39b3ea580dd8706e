-- The next net's entry goes by its pins and its turn.
use Rattle.std.proofs.Common.{arith, length-set}
use Rattle.lanes.proofs.Wanting.{told_more, wanted_by}
use Rattle.lanes.proofs.who_needs.Goals as goal

pub loop-m-preserved : goal.loop-m-preserved
loop-m-preserved c =
    let l = c.loop-m in
    let p = c.pins_of.ensures in record {
      long = simp length-set l.invariant.long;
      passed = told_more _ _ _ _ l.invariant.long (omega arith)
          (wanted_by _ _ _ _ _ _ l.auto.m (omega arith) c.who_pairs.ensures c.turns-turn.ensures
          (rw (p.0, p.1, p.2, p.3) at c.gets_track.ensures))
          l.invariant.passed;
    }
