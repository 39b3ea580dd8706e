-- One more net is listed where it has several pins.
use Rattle.std.proofs.Common.{arith, ◌≡◌, ◌+◌, get_or, refl}
use borrow.Author.Tests.{le-leb, lt-leb}
use Rattle.std.specs.Prelude.{cond, leb}
use Rattle.two_layer_gather.proofs.Listing.{held_none}
use Rattle.two_layer_gather.proofs.Gathering.{ranks_none, rank_le, picked_more, passed_over, gathered}
use Rattle.two_layer_gather.proofs.gather.Goals as goal
use Rattle.two_layer_gather.proofs.gather.Goals.{then-several, else-several, then-other-m-ge1, else-other-m-ge1}

pub loop-i-init : goal.loop-i-init
loop-i-init c = rw c.new-found.ensures (ranks_none c.args.pins.now, held_none _)

pub push-requires : goal.push-requires
push-requires c = omega (arith, rank_le c.args.pins.now c.loop-i.i, c.loop-i.invariant.0)

pub loop-i-preserved : goal.loop-i-preserved
loop-i-preserved c =
    let l = c.loop-i in
    let args = c.args in
    elim c.if-several.branch [
      | then-several w ↦
          let to : w.if-other-m-ge1.to ≡ cond (leb 1 (get_or args.other.now (l.i + 1) 0)) (get_or args.first.now (l.i + 1) 0) 0 =
          elim w.if-other-m-ge1.branch [
            | then-other-m-ge1 h ↦ rw (le-leb 1 (get_or args.other.now (l.i + 1) 0) h.if-other-m-ge1.true) h.to-is
            | else-other-m-ge1 h ↦ rw (lt-leb 1 (get_or args.other.now (l.i + 1) 0) h.if-other-m-ge1.false) h.to-is
          ] in
          rw (w.found-is, w.push.ensures) (picked_more args.pins.now args.first.now args.last.now args.other.now _ l.i _
          (omega arith) l.invariant.0 l.invariant.1 (le-leb 2 _ w.if-several.true) refl to refl refl)
      | else-several w ↦
          rw w.found-is (passed_over args.pins.now l.i _ l.invariant.0 (lt-leb 2 _ w.if-several.false), l.invariant.1)
    ]

pub returns : goal.returns
returns c = λ a b n cs fs ls os. gathered c.args.pins.now c.args.first.now c.args.last.now c.args.other.now a b n cs fs ls os
    _ (let e : c.loop-i.i ≡ 180 = omega arith in rw e at c.loop-i.invariant.0) c.loop-i.invariant.1
