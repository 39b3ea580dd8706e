-- One place more is one more that may hold the net; and past a side's places none does.
use Rattle.std.proofs.Common.{◌≡◌, ℕ, eqb, sym, refl, ap, ◌∙◌, arith}
use Rattle.counting.specs.Counting.{some}
use Rattle.counting.proofs.Tests.{some_none_yet, some_more}
use Rattle.grid.specs.Legal.{entry}
use Rattle.grid.proofs.Entries.{entry_next}
use Rattle.board_sides.specs.Limits.{padded_side}
use Rattle.board_sides.proofs.Padding.{padded_is, some_padded}
use Rattle.board_sides.proofs.side_holds.Goals as goal

pub loop-pin-init : goal.loop-pin-init
loop-pin-init c = sym (some_none_yet _)

pub loop-pin-preserved : goal.loop-pin-preserved
loop-pin-preserved c =
    let l = c.loop-pin in
    let long = c.padded-long.result in
    let net = c.args.net in
    let here = ap (λ (x : ℕ). eqb x net) (sym (entry_next long l.pin-index)) in
    some_more (λ x. eqb (entry long x) net) l.pin-index _ _ _ l.invariant here refl

pub returns : goal.returns
returns c =
    let p = c.padded-long in
    let end : c.loop-pin.pin-index ≡ padded_side = omega arith in
    c.loop-pin.invariant ∙ ap (some _) end
    ∙ some_padded c.args.net c.requires (padded_is c.args.side.now p.result p.ensures.places p.ensures.past)
