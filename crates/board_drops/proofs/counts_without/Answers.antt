-- A number that is no net's or on no side is the first absent one; a net that is there goes out of the counts.
use Rattle.std.proofs.Common.{◌≡◌, Bool, ◌&&◌, length, get_or, sym, ap, ◌∙◌, arith}
use mathlib.Core.Bool.{and-false}
use Rattle.terms.specs.Limits.{largest_net, within}
use Rattle.terms.proofs.Laws.{within_in}
use Rattle.problem.specs.Problem.{pins_in}
use Rattle.board_law.specs.Edits.{is_there}
use Rattle.board_law.specs.Runs.{box_width}
use Rattle.board_law.proofs.Accepted.{absent_at, there_at, all_at}
use Rattle.board_counts.proofs.Recounts.{Recounts, recounted_along}
use Rattle.board_drops.proofs.Taken.{on_a_side, none_taken, one_taken}
use Rattle.board_drops.proofs.counts_without.Goals as goal

pub loop-i-init : goal.loop-i-init
loop-i-init c = record { counting = omega arith; taken = λ no_repeat sound. none_taken sound }

pub returns-then-not-is_within-clause-absent : goal.returns-then-not-is_within-clause-absent
returns-then-not-is_within-clause-absent c =
    let l = c.loop-i in
    let nets = c.args.nets.now in
    let there = is_there (pins_in c.args.q.now.pins) in
    let out = sym c.is_within.ensures ∙ c.if-not-is_within.true in
    let h = c.loop-i-test.true in
    (absent_at there nets l.i h l.invariant.counting (ap (λ (t : Bool). t && there (get_or nets l.i 0)) out), h)

pub returns-then-not-has_place-clause-absent : goal.returns-then-not-has_place-clause-absent
returns-then-not-has_place-clause-absent c =
    let l = c.loop-i in
    let q = c.args.q.now in
    let nets = c.args.nets.now in
    let m = get_or nets l.i 0 in
    let found = on_a_side q.pins m c.end_places-along.result c.end_places-ends.result c.end_places-along.ensures.ends
    c.end_places-ends.ensures.ends c.has_place.ensures in
    let away = ap (λ (t : Bool). within m largest_net && t) (sym found ∙ c.if-not-has_place.true) ∙ and-false (within m largest_net) in
    let h = c.loop-i-test.true in
    (absent_at (is_there (pins_in q.pins)) nets l.i h l.invariant.counting away, h)

pub loop-i-preserved : goal.loop-i-preserved
loop-i-preserved c =
    let l = c.loop-i in
    let q = c.args.q.now in
    let nets = c.args.nets.now in
    let m = get_or nets l.i 0 in
    let along = c.end_places-along.result in
    let ends = c.end_places-ends.result in
    let here = sym (on_a_side q.pins m along ends c.end_places-along.ensures.ends c.end_places-ends.ensures.ends c.has_place.ensures)
    ∙ c.if-not-has_place.false in
    let inside = sym c.is_within.ensures ∙ c.if-not-is_within.false in
    let counts : Recounts q m 255 along ends l.columns l.tracks c.recount.new.list c.recount-in-loop-i.new.list = record {
      along = c.end_places-along.ensures.ends;
      ends = c.end_places-ends.ensures.ends;
      on_columns = recounted_along _ q.n.0 255 along ends _ _ c.column_count-n.ensures c.recount.ensures.recounted;
      on_tracks = recounted_along _ (box_width q) 255 ends along _ _ c.box_width-w.ensures.0 c.recount-in-loop-i.ensures.recounted;
    } in
    let h = c.loop-i-test.true in
    record {
      counting = there_at (is_there (pins_in q.pins)) nets l.i h l.invariant.counting
          (ap (λ (t : Bool). t && is_there (pins_in q.pins) m) inside ∙ here);
      taken = one_taken q nets l.i h along ends (within_in m largest_net inside) here counts l.invariant.taken;
    }

pub returns-clause-there : goal.returns-clause-there
returns-clause-there c =
    let l = c.loop-i in
    let end : l.i ≡ length c.args.nets.now = omega arith in
    sym (all_at (is_there (pins_in c.args.q.now.pins)) c.args.nets.now l.i end l.invariant.counting) ∙ end
