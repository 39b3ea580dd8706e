-- One more column tells its net's first column where none was told before.
use Rattle.std.proofs.Common.{arith, ◌≡◌, ◌+◌, get_or, eq-eqb, ne_eqb}
use Rattle.std.specs.Prelude.{cond, eqb}
use Rattle.two_layer_gather.proofs.Tables.{firsts_none, firsts_more}
use Rattle.two_layer_gather.proofs.firsts.Goals as goal
use Rattle.two_layer_gather.proofs.firsts.Goals.{then-first-m-eq0, else-first-m-eq0}

pub loop-i-init : goal.loop-i-init
loop-i-init c = firsts_none c.args.side.now

pub loop-i-preserved : goal.loop-i-preserved
loop-i-preserved c =
    let m = c.from-m.result in
    let list = c.loop-i.first in
    let told : c.if-first-m-eq0.first ≡ cond (eqb (get_or list m 0) 0) (c.loop-i.i + 1) (get_or list m 0) =
    elim c.if-first-m-eq0.branch [
      | then-first-m-eq0 w ↦ rw (eq-eqb (get_or list m 0) 0 w.if-first-m-eq0.true) w.first-is
      | else-first-m-eq0 w ↦ rw (ne_eqb (get_or list m 0) 0 w.if-first-m-eq0.false) w.first-is
    ] in
    firsts_more c.args.side.now list c.loop-i.i m _ (omega arith) (omega arith) told c.loop-i.invariant
