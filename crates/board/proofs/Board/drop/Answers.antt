-- Each refusal is the first that applies; and then the pins are without those of the nets, and so are the counts.
use Rattle.std.proofs.Common.{refl, ap}
use Rattle.problem.specs.Problem.{pins_in}
use Rattle.board_law.specs.Edits.{is_there}
use Rattle.board_law.proofs.Orders.{any_order}
use Rattle.board.specs.declared.Board.{Board}
use Rattle.board.proofs.Calls.{is_absent, is_repeat, none_twice, net_numbers, not_dropped, are_dropped, dropped_counts}
use Rattle.board.proofs.Board.drop.Goals as goal

pub returns-clause-dropped : goal.returns-clause-dropped
returns-clause-dropped c = λ sound.
    let new = c.in_default-repeat.ensures in
    are_dropped c.args.self.problem c.limited-q.result _ _ c.args.nets.now _ _ (c.limited-q.ensures.same sound) c.refuse.ensures
    (none_twice _ _ c.in_default.ensures.there new) c.without_nets-pins.ensures c.fewer.ensures c.with_pins-problem.ensures.is
    c.with_pins-problem.ensures.sized (c.in_default.ensures.counts new) sound

pub returns-clause-counted : goal.returns-clause-counted
returns-clause-counted c = λ sound.
    let new = c.in_default-repeat.ensures in
    dropped_counts c.args.self.problem c.limited-q.result _ _ c.args.nets.now _ _ (c.limited-q.ensures.same sound) c.refuse.ensures
    (none_twice _ _ c.in_default.ensures.there new) c.without_nets-pins.ensures c.fewer.ensures c.with_pins-problem.ensures.is
    c.with_pins-problem.ensures.sized (c.in_default.ensures.counts new) sound

pub returns-in-Err-clause-dropped : goal.returns-in-Err-clause-dropped
returns-in-Err-clause-dropped c = λ sound.
    let a = c.args in
    let first = c.in-Err.ensures.absent in
    let same = ap (λ (b : Board). b.problem) c.refused.ensures.1 in
    not_dropped a.self.problem c.limited-q.result _ a.nets.now _ _ (c.limited-q.ensures.same sound) same c.refused.ensures.0
    (is_absent _ a.nets.now first.0 first.1) refl sound

pub first_repeat-repeat-requires : goal.first_repeat-repeat-requires
first_repeat-repeat-requires c = net_numbers (is_there (pins_in c.limited-q.result.pins)) _ c.in_default.ensures.there

pub returns-in-Some-clause-dropped : goal.returns-in-Some-clause-dropped
returns-in-Some-clause-dropped c = λ sound.
    let a = c.args in
    let first = c.in-Some.ensures in
    let same = ap (λ (b : Board). b.problem) c.refused-in-Some.ensures.1 in
    not_dropped a.self.problem c.limited-q.result _ a.nets.now _ _ (c.limited-q.ensures.same sound) same c.refused-in-Some.ensures.0
    (is_repeat _ a.nets.now c.in_default.ensures.there first.0 first.1) refl sound

pub without_nets-pins-requires : goal.without_nets-pins-requires
without_nets-pins-requires c = net_numbers (is_there (pins_in c.limited-q.result.pins)) _ c.in_default.ensures.there

pub returns-clause-singly : goal.returns-clause-singly
returns-clause-singly c = λ sound counted.
    any_order sound counted (returns-clause-dropped c sound) (returns-clause-counted c sound)
