-- `nets::pin_table`: no count is above the number of places passed, and one place more of both sides is told.
use Rattle.std.proofs.Common.{arith}
use Rattle.nets.proofs.Tabling.{passed_none, passed_more, counts_le}
use Rattle.nets.proofs.pin_table.Goals as goal

pub loop-i-init : goal.loop-i-init
loop-i-init c = rw c.blank-t.ensures (passed_none c.args.a.now c.args.b.now)

pub overflow_add-t : goal.overflow_add-t
overflow_add-t c = omega (
  arith,
  c.requires.0,
  counts_le c.args.a.now _ c.loop-i.i _ c.net_at-m.ensures.1 c.loop-i.invariant.one,
)

pub overflow_add-t-in-loop-i : goal.overflow_add-t-in-loop-i
overflow_add-t-in-loop-i c = omega (
  arith,
  c.requires.0,
  counts_le c.args.b.now _ c.loop-i.i _ c.net_at-k.ensures.1 c.loop-i.invariant.two,
)

pub loop-i-preserved : goal.loop-i-preserved
loop-i-preserved c =
    passed_more c.args.a.now c.args.b.now c.loop-i.t c.loop-i.i _ _ _ _ c.net_at-m.ensures.0 c.net_at-k.ensures.0 c.net_at-m.ensures.1
    c.net_at-k.ensures.1 c.first_of.ensures c.first_of-in-loop-i.ensures c.loop-i.invariant
