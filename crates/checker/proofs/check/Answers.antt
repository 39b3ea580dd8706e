-- A refusal is that of the definition, and otherwise the pins listed are the ticket's, so what is judged is its wiring.
use Rattle.std.proofs.Common.{sym, rules, arith, length-take-le}
use Rattle.ticket.proofs.Good.{reading_good}
use Rattle.checker.proofs.Refusals.{room, shape, size, accepted}
use Rattle.checker.proofs.check.Goals as goal

pub early_refusal-refused-requires : goal.early_refusal-refused-requires
early_refusal-refused-requires c = reading_good _ c.parse-t.ensures

pub slice_bounds-judge-end : goal.slice_bounds-judge-end
slice_bounds-judge-end c =
    room _ _ _ _ _ c.early_refusal-refused.ensures c.if-refused-ne0.false

pub slice_bounds-judge-end-2 : goal.slice_bounds-judge-end-2
slice_bounds-judge-end-2 c =
    sym (length-take-le _ _ (room _ _ _ _ _ c.early_refusal-refused.ensures c.if-refused-ne0.false))

pub judge-requires : goal.judge-requires
judge-requires c =
    length-take-le _ _ (room _ _ _ _ _ c.early_refusal-refused.ensures c.if-refused-ne0.false)

pub invariant_of-x : goal.invariant_of-x
invariant_of-x c =
    record {
      shape = shape _ _ c.parse-t.ensures _ _ c.args.first c.args.wiring.now _ _ c.early_refusal-refused.ensures c.if-refused-ne0.false;
      bytes = λ q. omega (arith, c.type_inv.wiring q);
      size = size _ _ c.parse-t.ensures _ _ c.args.first c.args.wiring.now _ _ c.early_refusal-refused.ensures c.if-refused-ne0.false;
    }

pub returns : goal.returns
returns c =
    accepted _ _ c.parse-t.ensures _ _ _ _ _ _ c.early_refusal-refused.ensures c.if-refused-ne0.false (search rules) c.pin_list-list.ensures c.judge.ensures
