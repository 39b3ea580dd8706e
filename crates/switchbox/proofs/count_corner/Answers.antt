-- The next net counts if it is on just these two sides; a byte holds as many.
use Rattle.std.proofs.Common.{◌≡◌, ◌+◌, ◌-◌, ◌∙◌, sym, ap}
use native.Mathlib.Omega.{arith}
use mir.Val.{bool_byte}
use Rattle.counting.specs.Counting.{count}
use Rattle.counting.proofs.Sums.{sum_none}
use Rattle.terms.specs.Limits.{largest_net}
use Rattle.lanes.proofs.Counted.{counted_more, counted_few}
use Rattle.switchbox.specs.Box.{corner_at}
use Rattle.switchbox.proofs.count_corner.Goals as goal

pub loop-m-init : goal.loop-m-init
loop-m-init c = sym (sum_none _)

pub overflow_add-found : goal.overflow_add-found
overflow_add-found c =
    let a = c.args in
    let l = c.loop-m in
    let z = corner_at a.a.now a.b.now a.c.now a.d.now in
    let more = counted_more z l.m l.found c.from-found.result l.auto.m l.invariant (c.from-found.ensures ∙ ap bool_byte c.is_corner.ensures) in
    omega (arith, counted_few z (l.m + 1) _ more)

pub loop-m-preserved : goal.loop-m-preserved
loop-m-preserved c =
    let a = c.args in
    let l = c.loop-m in
    counted_more (corner_at a.a.now a.b.now a.c.now a.d.now) l.m l.found c.from-found.result l.auto.m l.invariant
    (c.from-found.ensures ∙ ap bool_byte c.is_corner.ensures)

pub returns : goal.returns
returns c =
    let a = c.args in
    let e : c.loop-m.m - 1 ≡ largest_net = omega arith in
    c.loop-m.invariant ∙ ap (count (corner_at a.a.now a.b.now a.c.now a.d.now)) e
