-- `figures::extents_of` meets its contract: each net that is passed has its entry in both lists.
use Rattle.std.proofs.Common.{arith, rules}
use Rattle.figures.proofs.Entries.{filled_none, filled_more, filled_all}
use Rattle.figures.proofs.extents_of.Goals as goal

pub loop-m-init : goal.loop-m-init
loop-m-init c = record { begins = filled_none (search rules) (search rules); ends = filled_none (search rules) (search rules) }

pub loop-m-preserved : goal.loop-m-preserved
loop-m-preserved c = record {
  begins = filled_more (omega arith) (omega arith) (search rules) c.loop-m.invariant.begins;
  ends = filled_more (omega arith) (omega arith) (search rules) c.loop-m.invariant.ends;
}

pub returns-clause-begins : goal.returns-clause-begins
returns-clause-begins c = filled_all (omega arith) c.loop-m.invariant.begins

pub returns-clause-ends : goal.returns-clause-ends
returns-clause-ends c = filled_all (omega arith) c.loop-m.invariant.ends
