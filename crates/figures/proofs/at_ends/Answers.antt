-- `figures::at_ends` meets its contract: the nets that begin on the near side or at column 1, and those that end at column n or on the far
-- side.
use Rattle.std.proofs.Common.{ℕ, ◌+◌, max, ap₂, ◌∙◌, arith}
use Rattle.figures.proofs.Sweep.{two_pins}
use Rattle.figures.proofs.Outer.{coming_few, outer_two, outer_one}
use Rattle.figures.proofs.at_ends.Goals as goal

pub overflow_sub-ends : goal.overflow_sub-ends
overflow_sub-ends c =
    omega (arith, coming_few (omega (arith, c.args.x.held.fits)) c.requires.ends_at c.requires.ends_counted)

pub returns-then-n-eq1 : goal.returns-then-n-eq1
returns-then-n-eq1 c =
    let x = c.args.x in
    ap₂ (λ (u v : ℕ). u + c.now_at-end.result + v) c.from-6.ensures c.from-then-n-eq1.ensures
    ∙ outer_one (omega (arith, x.held.fits)) c.requires.ends_at c.requires.ends_counted (omega (arith, x.held.fits))
    (two_pins x.held.on_a x.held.on_b c.from.ensures c.from-2.ensures) (two_pins x.held.on_a x.held.on_b c.from-3.ensures c.from-4.ensures)
    c.now_at-begin.ensures c.now_at-end.ensures c.if-n-eq1.true

pub returns : goal.returns
returns c =
    let x = c.args.x in
    c.max.ensures
    ∙ ap₂ (λ (u v : ℕ). max (u + c.now_at-begin.result) (v + c.now_at-end.result)) c.from-5.ensures c.from-6.ensures
    ∙ outer_two (omega (arith, x.held.fits)) c.requires.ends_at c.requires.ends_counted (omega (arith, x.held.fits))
    (two_pins x.held.on_a x.held.on_b c.from.ensures c.from-2.ensures) (two_pins x.held.on_a x.held.on_b c.from-3.ensures c.from-4.ensures)
    c.now_at-begin.ensures c.now_at-end.ensures (omega (arith, x.held.fits, c.if-n-eq1.false))
