-- `router::lay_two_layer`: a plan without moves says that the channel is solid, and one with moves its tracks; then the buffer is too
-- short, or the channel is laid into it.
use Rattle.std.proofs.Common.{arith, sym, ◌∙◌, ℕ, ◌*◌}
use mathlib.Core.Path.{ap}
use mathlib.Core.Bool.{not}
use Rattle.two_layer.proofs.Laying.{narrow}
use Rattle.router.proofs.Laws.{two_layer_solid}
use Rattle.router.proofs.TwoLayer.{solid_found, given, tracks_laid, two_layers, width_laid, size_needed, laid_there}
use Rattle.router.proofs.Promise.{turned_solid, too_short, drawn, answer_is}
use Rattle.router.proofs.lay_two_layer.Goals as goal

pub returns-then-is_none : goal.returns-then-is_none
returns-then-is_none c =
    let q = c.args.q.now in
    let (good, two, same) = c.requires.good in
    let solid = ap not (c.is_none.ensures ∙ ap not c.if-is_none.true) in
    turned_solid q c.args.wiring.now c.refused.result
    (two_layer_solid q two ∙ sym (solid_found q good two c.find_plan-plan.ensures) ∙ solid) c.refused.ensures

pub points-length-requires : goal.points-length-requires
points-length-requires c =
    let q = c.args.q.now in
    let (good, two, same) = c.requires.good in
    let found = c.find_plan-plan.ensures in
    let wirable = ap not (c.is_none.ensures ∙ ap not c.if-is_none.false) in
    let w = tracks_laid q good two found wirable c.tracks-tracks.result.0 c.tracks-tracks.ensures in (
      good.columns.1,
      omega (arith, narrow (given q good two found wirable), w),
      omega (arith, two_layers q good two c.tracks-tracks.result.0 w c.args.f same),
    )

pub returns-then-wiring-length : goal.returns-then-wiring-length
returns-then-wiring-length c =
    let q = c.args.q.now in
    let (good, two, same) = c.requires.good in
    let found = c.find_plan-plan.ensures in
    let wirable = ap not (c.is_none.ensures ∙ ap not c.if-is_none.false) in
    let w = tracks_laid q good two found wirable c.tracks-tracks.result.0 c.tracks-tracks.ensures in
    let size = size_needed q good two c.tracks-tracks.result.0 w c.args.f same c.points-length.result c.points-length.ensures in
    too_short q c.args.wiring.now c.refused-then-wiring-length.result c.points-length.result
    (two_layer_solid q two ∙ sym (solid_found q good two found) ∙ wirable) size c.if-wiring-length.true
    c.refused-then-wiring-length.ensures

pub lay-requires-clause-layable : goal.lay-requires-clause-layable
lay-requires-clause-layable c =
    let (good, two, same) = c.requires.good in
    given c.args.q.now good two c.find_plan-plan.ensures (ap not (c.is_none.ensures ∙ ap not c.if-is_none.false))

pub lay-requires-clause-w_value : goal.lay-requires-clause-w_value
lay-requires-clause-w_value c =
    let q = c.args.q.now in
    let (good, two, same) = c.requires.good in
    let tracks = c.tracks-tracks.result.0 in
    let wirable = ap not (c.is_none.ensures ∙ ap not c.if-is_none.false) in
    let w = tracks_laid q good two c.find_plan-plan.ensures wirable tracks c.tracks-tracks.ensures in
    let size = ap (λ (k : ℕ). q.n.0 * tracks * k) (two_layers q good two tracks w c.args.f same) in
    (w, omega (arith, size, c.points-length.ensures, c.if-wiring-length.false))

pub returns : goal.returns
returns c =
    let q = c.args.q.now in
    let (good, two, same) = c.requires.good in
    let found = c.find_plan-plan.ensures in
    let wirable = ap not (c.is_none.ensures ∙ ap not c.if-is_none.false) in
    let tracks = c.tracks-tracks.result.0 in
    let w = tracks_laid q good two found wirable tracks c.tracks-tracks.ensures in
    let size = size_needed q good two tracks w c.args.f same c.points-length.result c.points-length.ensures in
    drawn q c.args.wiring.now c.answered.result c.lay.new.wiring (two_layer_solid q two ∙ sym (solid_found q good two found) ∙ wirable)
    (omega (arith, size, c.if-wiring-length.false)) (laid_there q good two tracks w c.args.f same c.lay.ensures)
    (c.answered.ensures ∙ answer_is q same (width_laid q good two tracks w c.args.f same))
