-- A net that is marked is a repeat, the first; the others are marked.
use Rattle.std.proofs.Common.{◌≡◌, ℕ, true, not, List, length, get_or, set, take, sym, ap, ◌∙◌, subst, arith}
use Rattle.std.proofs.lemmas.List.{take_more}
use Rattle.board_law.proofs.Places.{listed_at}
use Rattle.board_law.proofs.Accepted.{wrong_at, right_at, all_right}
use Rattle.board_drops.proofs.Marks.{Marked, marked_none, marked_next}
use Rattle.board_drops.proofs.first_repeat.Goals as goal

pub loop-i-init : goal.loop-i-init
loop-i-init c = record { counting = omega arith; marks = marked_none }

pub bounds-seen-net : goal.bounds-seen-net
bounds-seen-net c =
    let l = c.loop-i in
    omega (arith, l.invariant.marks.size, c.requires.each _ (listed_at c.args.nets.now l.i c.loop-i-test.true))

pub returns-then-seen-net : goal.returns-then-seen-net
returns-then-seen-net c =
    let l = c.loop-i in
    let nets = c.args.nets.now in
    let h = c.loop-i-test.true in
    let small = (c.requires.each (get_or nets l.i 0) (listed_at nets l.i h)).1 in
    let wrong = ap not (sym (l.invariant.marks.each (get_or nets l.i 0) small) ∙ c.if-seen-net.true) in
    (wrong_at (λ v. true) nets l.i h l.invariant.counting wrong, h)

pub bounds-seen-net-in-loop-i : goal.bounds-seen-net-in-loop-i
bounds-seen-net-in-loop-i c =
    let l = c.loop-i in
    omega (arith, l.invariant.marks.size, c.requires.each _ (listed_at c.args.nets.now l.i c.loop-i-test.true))

pub loop-i-preserved : goal.loop-i-preserved
loop-i-preserved c =
    let l = c.loop-i in
    let nets = c.args.nets.now in
    let h = c.loop-i-test.true in
    let m = get_or nets l.i 0 in
    let small = (c.requires.each m (listed_at nets l.i h)).1 in
    let new = ap not (sym (l.invariant.marks.each m small) ∙ c.if-seen-net.false) in
    record {
      counting = right_at (λ v. true) nets l.i h l.invariant.counting new;
      marks = subst (λ (t : List ℕ). Marked t (set l.seen m true)) (sym (take_more nets l.i 0 h))
          (marked_next (take l.i nets) l.seen m small l.invariant.marks);
    }

pub returns : goal.returns
returns c =
    let l = c.loop-i in
    let end : l.i ≡ length c.args.nets.now = omega arith in
    sym (all_right (λ v. true) c.args.nets.now l.i end l.invariant.counting) ∙ end
