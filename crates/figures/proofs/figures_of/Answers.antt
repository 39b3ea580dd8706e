-- `figures::figures_of` meets its contract: each figure is the definition's own, and the counts are those of a good problem.
use Rattle.std.proofs.Common.{ap₂, ◌∙◌}
use Rattle.density.specs.Density.{floor}
use Rattle.problem.specs.Problem.{width_of}
use Rattle.figures.proofs.Bounds.{figures_are}
use Rattle.figures.proofs.figures_of.Goals as goal

pub returns : goal.returns
returns c =
    let q = c.args.q.now in
    let (good, spans) = c.requires in
    let columns = c.columns-columns.ensures in
    let tracks = c.tracks-tracks.ensures in
    let crossed = rw (columns.sides.0, columns.sides.1, columns.ends.0, columns.ends.1) at c.density-across.ensures in
    let up = rw (tracks.sides.0, tracks.sides.1, tracks.ends.0, tracks.ends.1) at c.up_for-up.ensures in
    figures_are good record { length = columns.places; width = tracks.places; byte2 = c.from-byte2.ensures }
    (crossed.columns q.pins.west q.pins.east (width_of q) spans.tracks.one spans.tracks.two)
    (up.tracks q.pins.south q.pins.north q.n.0 spans.columns.two spans.columns.one) c.tracks_for-trunks.ensures c.layers_for-layers.ensures
    (c.floor_for-floor.ensures ∙ ap₂ floor c.div_ceil.ensures c.div_ceil-2.ensures) c.by_kind.ensures c.by_kind-2.ensures
