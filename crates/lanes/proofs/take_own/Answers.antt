-- The next place's net takes the lane beside it, if it still needs one.
use Prim.Native.Nat.{ℕ}
use mathlib.Core.Path.{ap, ◌∙◌}
use mathlib.Core.Bool.{false, cond}
use native.Mathlib.Omega.{arith}
use lib.ListN.{get_or}
use Rattle.lanes.proofs.Placing.{small_net, took_none, took_more}
use Rattle.lanes.proofs.take_own.Goals as goal

pub loop-i-init : goal.loop-i-init
loop-i-init c = took_none _ _ _

pub loop-i-preserved : goal.loop-i-preserved
loop-i-preserved c =
    let l = c.loop-i in
    let e = c.net_at-m.ensures in
    rw e (took_more c.args.own.now _ l.left l.spare l.lanes l.count l.i l.invariant (omega arith) (omega arith) (omega arith)
    (small_net _ l.i c.requires.1) c.requires.2 (get_or l.left c.net_at-m.result false) c.if_taken.result c.from-count.result
    (ap (λ (x : ℕ). get_or l.left x false) e)
    (c.if_taken.ensures ∙ ap (λ (x : ℕ). cond (get_or l.left c.net_at-m.result false) x 0) e) c.from-count.ensures)
