-- Each refusal is the first that applies; and then the pins are with the net's, and so are the counts.
use Rattle.std.proofs.Common.{◌+◌, refl, sym, ap, ◌∙◌}
use Rattle.board_law.specs.Runs.{box_width}
use Rattle.board_law.proofs.Gains.{with_pins}
use Rattle.board.specs.declared.Board.{Board}
use Rattle.board.proofs.Calls.{seven, twenty, too_few, wrong_place, no_wrong, not_added, is_added, added_counts}
use Rattle.board_counts.proofs.Recounts.{Recounts, recounted_along}
use Rattle.board.proofs.Board.add.Goals as goal

pub returns-then-not-is_within-clause-added : goal.returns-then-not-is_within-clause-added
returns-then-not-is_within-clause-added c = λ sound.
    let a = c.args in
    let refused = seven _ _ a.net a.places.now (sym c.is_within.ensures ∙ c.if-not-is_within.true) in
    let same = ap (λ (b : Board). b.problem) c.refused.ensures.1 in
    not_added a.self.problem c.limited-q.result _ a.net a.places.now _ _ (c.limited-q.ensures.same sound) same c.refused.ensures.0 refused
    refl sound

pub returns-then-there-clause-added : goal.returns-then-there-clause-added
returns-then-there-clause-added c = λ sound.
    let a = c.args in
    let refused = twenty _ _ a.net a.places.now (sym c.is_within.ensures ∙ c.if-not-is_within.false)
    (sym c.holds_net-there.ensures ∙ c.if-there.true) in
    let same = ap (λ (b : Board). b.problem) c.refused-then-there.ensures.1 in
    not_added a.self.problem c.limited-q.result _ a.net a.places.now _ _ (c.limited-q.ensures.same sound) same
    c.refused-then-there.ensures.0 refused refl sound

pub returns-then-size-lt2-clause-added : goal.returns-then-size-lt2-clause-added
returns-then-size-lt2-clause-added c = λ sound.
    let a = c.args in
    let refused = too_few _ _ a.net a.places.now (sym c.is_within.ensures ∙ c.if-not-is_within.false)
    (sym c.holds_net-there.ensures ∙ c.if-there.false) c.if-size-lt2.true in
    let same = ap (λ (b : Board). b.problem) c.refused-then-size-lt2.ensures.1 in
    not_added a.self.problem c.limited-q.result _ a.net a.places.now _ _ (c.limited-q.ensures.same sound) same
    c.refused-then-size-lt2.ensures.0 refused refl sound

pub returns-in-Err-clause-added : goal.returns-in-Err-clause-added
returns-in-Err-clause-added c = λ sound.
    let a = c.args in
    let first = c.in-Err.ensures.refused in
    let refused = wrong_place _ _ a.net a.places.now (sym c.is_within.ensures ∙ c.if-not-is_within.false)
    (sym c.holds_net-there.ensures ∙ c.if-there.false) c.if-size-lt2.false _ first.0 first.1 in
    let same = ap (λ (b : Board). b.problem) c.refused-in-Err.ensures.1 in
    not_added a.self.problem c.limited-q.result _ a.net a.places.now _ _ (c.limited-q.ensures.same sound) same c.refused-in-Err.ensures.0
    refused refl sound

pub returns-clause-added : goal.returns-clause-added
returns-clause-added c = λ sound.
    let a = c.args in
    let right = no_wrong _ _ a.net a.places.now (sym c.is_within.ensures ∙ c.if-not-is_within.false)
    (sym c.holds_net-there.ensures ∙ c.if-there.false) c.if-size-lt2.false c.in_default.ensures.right in
    is_added a.self.problem c.limited-q.result _ c.place_net.new.pins a.net a.places.now _ (c.limited-q.ensures.same sound) c.refuse.ensures
    right c.in_default.ensures.placed c.with_pins-problem.ensures.is c.with_pins-problem.ensures.sized sound

pub returns-clause-counted : goal.returns-clause-counted
returns-clause-counted c = λ sound.
    let a = c.args in
    let q = c.limited-q.result in
    let along = c.end_places-along.result in
    let ends = c.end_places-ends.result in
    let right = no_wrong _ _ a.net a.places.now (sym c.is_within.ensures ∙ c.if-not-is_within.false)
    (sym c.holds_net-there.ensures ∙ c.if-there.false) c.if-size-lt2.false c.in_default.ensures.right in
    let counts : Recounts (with_pins q (q.nets + 1) c.place_net.new.pins) a.net 1 along ends a.self.columns a.self.tracks
    c.recount.new.list c.recount-2.new.list = record {
      along = c.end_places-along.ensures.ends;
      ends = c.end_places-ends.ensures.ends;
      on_columns = recounted_along _ q.n.0 1 along ends _ _ c.column_count-n.ensures c.recount.ensures.recounted;
      on_tracks = recounted_along _ (box_width q) 1 ends along _ _ c.box_width-w.ensures.0 c.recount-2.ensures.recounted;
    } in
    added_counts a.self.problem q _ c.place_net.new.pins a.net a.places.now _ (c.limited-q.ensures.same sound) c.refuse.ensures right
    c.in_default.ensures.placed c.with_pins-problem.ensures.is c.with_pins-problem.ensures.sized sound counts
