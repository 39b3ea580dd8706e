-- A place passed is free and new, and then it has the net; the first that is not is told.
use Rattle.std.proofs.Common.{◌≡◌, ℕ, List, get_or, take, sym, ◌∙◌, subst, length, arith, take_all}
use Rattle.std.proofs.lemmas.List.{take_more}
use Rattle.problem.specs.Problem.{pins_in}
use Rattle.board_law.specs.Edits.{is_free}
use Rattle.board_law.proofs.Accepted.{wrong_at, right_at, all_right}
use Rattle.board_pins.proofs.Frees.{sides_fit, free_place, Stands, stands_none, free_now, one_more}
use Rattle.board_pins.proofs.place_net.Goals as goal

pub loop-i-init : goal.loop-i-init
loop-i-init c = record { counting = omega arith; stands = stands_none _ _ }

pub returns-then-not-is_free-clause-refused : goal.returns-then-not-is_free-clause-refused
returns-then-not-is_free-clause-refused c =
    let l = c.loop-i in
    let a = c.args in
    let places = a.places.now in
    let p = pins_in a.pins.now in
    let fits = sides_fit a.q.now c.requires.0 c.requires.1 in
    let now-free = free_now a.q.now p (pins_in l.pins) a.net (take l.i places) c.requires.2 fits l.invariant.stands (get_or places l.i 0) in
    let h = c.loop-i-test.true in
    (wrong_at (is_free a.q.now p) places l.i h l.invariant.counting (sym now-free ∙ sym c.is_free.ensures ∙ c.if-not-is_free.true), h)

pub put_net-requires : goal.put_net-requires
put_net-requires c =
    let fits = sides_fit c.args.q.now c.requires.0 c.requires.1 in
    free_place c.args.q.now _ _ fits (sym c.is_free.ensures ∙ c.if-not-is_free.false)

pub loop-i-preserved : goal.loop-i-preserved
loop-i-preserved c =
    let l = c.loop-i in
    let a = c.args in
    let places = a.places.now in
    let p = pins_in a.pins.now in
    let p' = pins_in l.pins in
    let p'' = pins_in c.put_net.new.pins in
    let v = get_or places l.i 0 in
    let h = c.loop-i-test.true in
    let fits = sides_fit a.q.now c.requires.0 c.requires.1 in
    let now-free = free_now a.q.now p p' a.net (take l.i places) c.requires.2 fits l.invariant.stands v in
    let right = sym now-free ∙ sym c.is_free.ensures ∙ c.if-not-is_free.false in
    let more = one_more a.q.now p p' a.net (take l.i places) c.requires.2 fits l.invariant.stands p'' v c.put_net.ensures in
    record {
      counting = right_at (is_free a.q.now p) places l.i h l.invariant.counting right;
      stands = subst (λ (t : List ℕ). Stands p a.net t p'') (sym (take_more places l.i 0 h)) more;
    }

pub returns-clause-right : goal.returns-clause-right
returns-clause-right c =
    let l = c.loop-i in
    let end : l.i ≡ length c.args.places.now = omega arith in
    sym (all_right (is_free c.args.q.now (pins_in c.args.pins.now)) c.args.places.now l.i end l.invariant.counting) ∙ end

pub returns-clause-placed : goal.returns-clause-placed
returns-clause-placed c =
    let l = c.loop-i in
    let places = c.args.places.now in
    subst (λ (t : List ℕ). Stands (pins_in c.args.pins.now) c.args.net t (pins_in l.pins)) (take_all l.i places (omega arith))
    l.invariant.stands
