-- The first column that passes is the least.
use Rattle.std.proofs.Common.{arith, sym}
use Rattle.counting.proofs.Leasts.{least_start, least_more, least_here}
use Rattle.two_layer_plan.proofs.first_column.Goals as goal

pub loop-i-init : goal.loop-i-init
loop-i-init g c = λ t same. least_start t

pub returns-then-test-clause-first : goal.returns-then-test-clause-first
returns-then-test-clause-first g c =
    λ t same. least_here t c.loop-i.i c.args.n (omega arith) (c.loop-i.invariant t same) (sym (same _ _ c.if-test.ensures))

pub loop-i-preserved : goal.loop-i-preserved
loop-i-preserved g c = λ t same. least_more t c.loop-i.i (c.loop-i.invariant t same) (sym (same _ _ c.if-test.ensures))
