-- What is kept is what the places passed tell; in the end that is where the net stands, and the first place is one if there is any.
use Rattle.std.proofs.Common.{◌≡◌, ◌+◌, cond, ◌||◌, eqb, get_or, sym, arith}
use Rattle.grid.specs.Legal.{entry}
use Rattle.grid.proofs.Entries.{entry_next}
use Rattle.board_law.specs.Runs.{no_place}
use Rattle.board_sides.specs.Limits.{padded_side}
use Rattle.board_sides.proofs.Padding.{padded_is}
use Rattle.board_sides.proofs.Seen.{seen_none, seen_more, seen_all, a_place, without_place}
use Rattle.board_sides.proofs.end_places.Goals as goal
use Rattle.board_sides.proofs.end_places.Goals.{then-hit, else-hit, then-hit-2, else-hit-2}

pub loop-i-init : goal.loop-i-init
loop-i-init c = seen_none _ _ _

pub loop-i-preserved : goal.loop-i-preserved
loop-i-preserved c =
    let l = c.loop-i in
    let here = c.padded-here.result in
    let there = c.padded-there.result in
    let net = c.args.net in
    let hit = eqb (get_or here l.i 0) net || eqb (get_or there l.i 0) net in
    let least : c.if-hit.min ≡ cond hit (l.i + 1) no_place = elim c.if-hit.branch [
      | then-hit w ↦ rw w.if-hit.true w.min-is
      | else-hit w ↦ rw w.if-hit.false w.min-is
    ] in
    let greatest : c.if-hit-2.max ≡ cond hit (l.i + 1) 0 = elim c.if-hit-2.branch [
      | then-hit-2 w ↦ rw w.if-hit-2.true w.max-is
      | else-hit-2 w ↦ rw w.if-hit-2.false w.max-is
    ] in
    seen_more (entry here) (entry there) net l.i _ _ (omega arith) (sym (entry_next here l.i)) (sym (entry_next there l.i)) least greatest
    c.min-first.ensures c.max-last.ensures l.invariant

pub returns-then-first-clause-ends : goal.returns-then-first-clause-ends
returns-then-first-clause-ends c =
    let l = c.loop-i in
    let q = c.padded-there in
    let p = c.padded-here in
    let end : l.i ≡ padded_side = omega arith in
    let ends = seen_all _ _ _ _ c.args.net l.first l.last l.one l.two c.requires
    (padded_is c.args.a.now p.result p.ensures.places p.ensures.past)
    (padded_is c.args.b.now q.result q.ensures.places q.ensures.past) (rw (← end) l.invariant) in
    without_place ends c.if-first.true

pub returns-else-first-clause-ends : goal.returns-else-first-clause-ends
returns-else-first-clause-ends c =
    let l = c.loop-i in
    let q = c.padded-there in
    let p = c.padded-here in
    let end : l.i ≡ padded_side = omega arith in
    seen_all _ _ _ _ c.args.net l.first l.last l.one l.two c.requires
    (padded_is c.args.a.now p.result p.ensures.places p.ensures.past)
    (padded_is c.args.b.now q.result q.ensures.places q.ensures.past) (rw (← end) l.invariant)

pub returns-else-first-clause-a_place : goal.returns-else-first-clause-a_place
returns-else-first-clause-a_place c = a_place (returns-else-first-clause-ends c) c.if-first.false
