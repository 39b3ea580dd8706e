-- `channel::lay_trunks`: one net's trunk more is laid, or the net has none.
use Rattle.std.proofs.Common.{◌≡◌, ◌+◌, ◌-◌, arith}
use Rattle.terms.specs.Limits.{largest_net}
use Rattle.trunks.specs.Trunks.{trunks_of}
use Rattle.channel.proofs.Runs.{cross_none, cross_at, seats}
use Rattle.channel.proofs.lay_trunks.Goals as goal
use Rattle.channel.proofs.lay_trunks.Goals.{then-left-right, else-left-right}

pub lay_trunk-requires-clause-left_le_right : goal.lay_trunk-requires-clause-left_le_right
lay_trunk-requires-clause-left_le_right c =
    seats (trunks_of c.args.spans.now.columns.first c.args.spans.now.columns.last c.args.places.now) c.args.frame.w.0 c.loop-m.m
    c.requires.seated.0 c.from-left.ensures c.from-right.ensures c.from.ensures c.if-left-right.true

pub loop-m-preserved : goal.loop-m-preserved
loop-m-preserved c =
    let e : c.loop-m.m + 1 - 1 ≡ c.loop-m.m = omega arith in
    elim c.if-left-right.branch [
      | then-left-right w ↦ rw (e, w.wiring-is)
          (cross_at (trunks_of c.args.spans.now.columns.first c.args.spans.now.columns.last c.args.places.now) c.args.frame.w.0
          c.requires.seated.0 c.loop-m.invariant (omega arith) c.from-left.ensures c.from-right.ensures w.from.ensures
          w.if-left-right.true w.lay_trunk.ensures)
      | else-left-right w ↦ rw (e, w.wiring-is) (cross_none c.requires.seated.0 c.loop-m.invariant (omega arith) (omega arith))
    ]

pub returns : goal.returns
returns c = let e : c.loop-m.m - 1 ≡ largest_net = omega arith in rw e at c.loop-m.invariant
