-- One more move is the definition's.
use Rattle.std.proofs.Common.{arith, rules, ◌≤◌, ◌<◌, ap, length, length-set, refl, length-append}
use Rattle.terms.specs.Limits.{byte_values}
use Rattle.two_layer_cuts.specs.Rows.{operations_in, item}
use Rattle.two_layer_plan.proofs.Moving.{moving_none, moving_full, moving_done, moving_more, next_le, near_more}
use Rattle.two_layer_plan.proofs.find_moves.Goals as goal

pub loop-init : goal.loop-init
loop-init c = record {
  many = ap length c.new-made.ensures;
  room = search rules;
  inside = omega arith;
  near = c.requires.2;
  moving = λ goal' st r a. rw c.new-made.ensures (moving_none _ goal' st _ _ a);
}

pub cut_after-cut-requires : goal.cut_after-cut-requires
cut_after-cut-requires c =
    let l = c.loop in
    omega (arith, next_le _ (item c.args.goal.now) (item l.cut) (item l.at) l.left _ _ l.invariant.inside (c.in-Some.ensures (item l.at)))

pub loop-preserved : goal.loop-preserved
loop-preserved c =
    let l = c.loop in
    let new = c.in-Some.ensures (item l.at) in
    let inside : c.in-Some.field-0.to ≤ c.args.n =
    next_le _ (item c.args.goal.now) (item l.cut) (item l.at) l.left _ _ l.invariant.inside new in
    let small : c.from-x.result < byte_values = search rules in
    record {
      many = rw c.push.ensures (omega (arith, length-append (operations_in l.made)));
      room = simp length-set l.invariant.room;
      inside = omega (arith, l.invariant.near c.from-x.result);
      near = near_more _ l.at _ _ l.invariant.room small inside l.invariant.near;
      moving = λ goal' st r a. rw c.push.ensures (moving_more _ goal' st (operations_in l.made) l.cut l.at l.left
          (l.invariant.moving goal' st r a) c.args.goal.now r l.invariant.inside _ _ new (omega arith) c.requires.0 l.invariant.room _ _
          c.from-x.ensures small c.from-left.ensures
          _ c.cut_after-cut.ensures _ refl refl c.min.ensures c.max.ensures);
    }

pub returns-after-loop : goal.returns-after-loop
returns-after-loop c = λ goal' st r a. moving_full _ goal' st _ _ _ _ (c.loop.invariant.moving goal' st r a) (omega arith)

pub returns-in_default : goal.returns-in_default
returns-in_default c = λ goal' st r a. moving_done _ goal' st _ _ _ _ (c.loop.invariant.moving goal' st r a) c.args.goal.now r
    c.loop.invariant.inside (omega arith) (c.in_default.ensures (item c.loop.at))
