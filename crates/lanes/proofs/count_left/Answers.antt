-- The next net counts if it is left; a byte holds as many.
use Rattle.std.proofs.Common.{◌≡◌, ℕ, ◌+◌, ◌-◌, ◌∙◌, sym, ap, get_or}
use mathlib.Core.Bool.{false}
use native.Mathlib.Omega.{arith}
use Rattle.counting.specs.Counting.{count}
use Rattle.counting.proofs.Sums.{sum_none}
use Rattle.terms.specs.Limits.{largest_net}
use Rattle.lanes.proofs.Counted.{counted_more, counted_few}
use Rattle.lanes.proofs.count_left.Goals as goal

pub loop-m-init : goal.loop-m-init
loop-m-init c = sym (sum_none _)

pub overflow_add-count : goal.overflow_add-count
overflow_add-count c =
    let l = c.loop-m in
    let z = λ (k : ℕ). get_or c.args.left.now k false in
    omega (arith, counted_few z (l.m + 1) _ (counted_more z l.m l.count c.from-count.result l.auto.m l.invariant c.from-count.ensures))

pub loop-m-preserved : goal.loop-m-preserved
loop-m-preserved c =
    let l = c.loop-m in
    counted_more (λ k. get_or c.args.left.now k false) l.m l.count c.from-count.result l.auto.m l.invariant c.from-count.ensures

pub returns : goal.returns
returns c =
    let e : c.loop-m.m - 1 ≡ largest_net = omega arith in
    c.from.ensures ∙ c.loop-m.invariant ∙ ap (count (λ m. get_or c.args.left.now m false)) e
