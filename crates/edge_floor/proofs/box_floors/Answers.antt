-- `edge_floor::box_floors` meets its contract: both floors are the definitions' own.
use Rattle.std.proofs.Common.{ap, ap₂, ◌∙◌}
use Rattle.density.specs.Density.{floor}
use Rattle.edge_floor.proofs.Promise.{column_ends, track_ends, across_few, up_few, box_answered}
use Rattle.edge_floor.proofs.box_floors.Goals as goal

pub most_need-column_need-requires : goal.most_need-column_need-requires
most_need-column_need-requires c =
    let (good, kind, spans) = c.requires in
    let n = c.columns-columns.ensures.places in
    let w = c.tracks-tracks.ensures.places in
    let ends = c.columns-columns.ensures.ends in (
      rw (ends.0, ends.1) (column_ends good kind n w c.args.spans.now spans),
      across_few good kind n w c.args.spans.now spans (ap (λ f. f.across) c.figures_of-f.ensures),
    )

pub most_need-track_need-requires : goal.most_need-track_need-requires
most_need-track_need-requires c =
    let (good, kind, spans) = c.requires in
    let n = c.columns-columns.ensures.places in
    let w = c.tracks-tracks.ensures.places in
    let ends = c.tracks-tracks.ensures.ends in (
      rw (ends.0, ends.1) (track_ends good kind n w c.args.spans.now spans),
      up_few good kind n w c.args.spans.now spans (ap (λ f. f.up) c.figures_of-f.ensures),
    )

pub returns : goal.returns
returns c =
    let (good, kind, spans) = c.requires in
    let columns = c.columns-columns.ensures in
    let tracks = c.tracks-tracks.ensures in
    box_answered good kind columns.places tracks.places c.args.spans.now spans c.figures_of-f.ensures
    (rw (columns.table.0, columns.table.1, columns.ends.0, columns.ends.1) at c.most_need-column_need.ensures)
    (rw (tracks.table.0, tracks.table.1, tracks.ends.0, tracks.ends.1) at c.most_need-track_need.ensures)
    (c.floor_for-edge.ensures ∙ ap₂ floor c.div_ceil.ensures c.div_ceil-2.ensures)
