-- The next net is listed if it is left, and its rank is how many are listed.
use Rattle.std.proofs.Common.{◌≡◌, ℕ, ◌+◌, ◌-◌, refl, sym, length-set, get_or}
use mathlib.Core.Bool.{false}
use native.Mathlib.Omega.{arith}
use Rattle.counting.proofs.Sums.{sum_none}
use Rattle.terms.specs.Limits.{largest_net}
use Rattle.lanes.proofs.Counted.{counted_more, counted_few}
use Rattle.lanes.proofs.Placing.{listed_none, listed_more}
use Rattle.lanes.proofs.list_left.Goals as goal

pub loop-m-init : goal.loop-m-init
loop-m-init c = record { long = refl; rank = sym (sum_none _); listed = listed_none _ _ }

pub bounds-list-count : goal.bounds-list-count
bounds-list-count c = omega (arith, counted_few (λ k. get_or c.args.left.now k false) c.loop-m.m c.loop-m.count c.loop-m.invariant.rank)

pub overflow_add-count : goal.overflow_add-count
overflow_add-count c =
    let l = c.loop-m in
    let z = λ (k : ℕ). get_or c.args.left.now k false in
    omega (arith, counted_few z (l.m + 1) _ (counted_more z l.m l.count c.from-count.result l.auto.m l.invariant.rank c.from-count.ensures))

pub loop-m-preserved : goal.loop-m-preserved
loop-m-preserved c =
    let l = c.loop-m in record {
      long = simp length-set l.invariant.long;
      rank = counted_more (λ k. get_or c.args.left.now k false) l.m l.count c.from-count.result l.auto.m l.invariant.rank
          c.from-count.ensures;
      listed = listed_more c.args.left.now l.list l.m l.count c.from-count.result l.invariant.long l.auto.m (omega arith) l.invariant.rank
          c.from-count.ensures l.invariant.listed;
    }

pub returns : goal.returns
returns c =
    let e : c.loop-m.m - 1 ≡ largest_net = omega arith in
    rw (← e, ← c.loop-m.invariant.rank) c.loop-m.invariant.listed
