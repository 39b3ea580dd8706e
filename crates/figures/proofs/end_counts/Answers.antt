-- `figures::end_counts` meets its contract: each net that is passed adds a bit to each of the three counts.
use Rattle.std.proofs.Common.{arith, rules}
use Rattle.figures.proofs.Entries.{one_most, ends_none, ends_few, ends_more}
use Rattle.figures.proofs.end_counts.Goals as goal

pub loop-m-init : goal.loop-m-init
loop-m-init c = ends_none

pub overflow_add-coming : goal.overflow_add-coming
overflow_add-coming c = omega (arith, ends_few c.loop-m.invariant, one_most _ c.from-coming.ensures)

pub overflow_add-near : goal.overflow_add-near
overflow_add-near c = omega (arith, ends_few c.loop-m.invariant, one_most _ c.from-near.ensures)

pub overflow_add-far : goal.overflow_add-far
overflow_add-far c = omega (arith, ends_few c.loop-m.invariant, one_most _ c.from-far.ensures)

pub loop-m-preserved : goal.loop-m-preserved
loop-m-preserved c = ends_more (omega arith) c.loop-m.invariant (search rules) (search rules) (search rules)
