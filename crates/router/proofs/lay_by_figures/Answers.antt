-- `router::lay_by_figures`: the sizes are those of a grid, and the problem is drawn into a buffer that is long enough.
use Rattle.std.proofs.Common.{arith, ◌∙◌}
use mathlib.Core.Path.{ap}
use Rattle.figures.specs.declared.Figures.{Figures}
use Rattle.router.proofs.Laws.{never_solid, width_laid, size_needed, sizes}
use Rattle.router.proofs.Promise.{drawn, answer_is}
use Rattle.router.proofs.lay_by_figures.Goals as goal

pub points-size-requires : goal.points-size-requires
points-size-requires c =
    let q = c.args.q.now in
    let (good, other, same) = c.requires.good in
    let z = sizes q good other in
    let w = width_laid q good other c.args.f same in
    (z.long.1, omega (arith, z.wide, w), omega (arith, z.high, ap (λ (u : Figures). u.layers.0) same))

pub returns : goal.returns
returns c =
    let q = c.args.q.now in
    let (good, other, same) = c.requires.good in
    let size = size_needed q good other c.args.f same c.points-size.result c.points-size.ensures in
    drawn q c.args.wiring.now c.answered.result c.draw.new.wiring (never_solid q other)
    (omega (arith, size, c.if-wiring-size.false)) c.draw.ensures
    (c.answered.ensures ∙ answer_is q same (width_laid q good other c.args.f same))
