-- Each of the last four layers is painted in the part of the wiring that it is.
use Rattle.std.proofs.Common.{refl, arith}
use Rattle.terms.specs.Kinds.{north, west, east}
use Rattle.switchbox.proofs.Drawing.{combed_up, combed_across}
use Rattle.switchbox.proofs.Drawing.{lower_layers, north_comb, east_comb, column_layer, west_comb}
use Rattle.switchbox.proofs.draw.Goals as goal

pub paint_comb-requires : goal.paint_comb-requires
paint_comb-requires c =
    let y0 = lower_layers _ c.requires c.track_layers.ensures in
    combed_up c.requires y0 (omega arith)

pub paint_comb-requires-2 : goal.paint_comb-requires-2
paint_comb-requires-2 c =
    let long = c.requires.lined.sides.long in
    let y0 = lower_layers _ c.requires c.track_layers.ensures in
    let y1 = north_comb _ c.requires (long north) y0 c.paint_comb.ensures in
    combed_across c.requires y1 (omega arith) east refl

pub paint_comb-requires-3 : goal.paint_comb-requires-3
paint_comb-requires-3 c =
    let long = c.requires.lined.sides.long in
    let y0 = lower_layers _ c.requires c.track_layers.ensures in
    let y1 = north_comb _ c.requires (long north) y0 c.paint_comb.ensures in
    let y2 = east_comb _ c.requires (long east) y1 c.paint_comb-2.ensures in
    let y3 = column_layer _ c.requires y2 c.paint_lines.ensures in
    combed_across c.requires y3 (omega arith) west refl

pub returns : goal.returns
returns c =
    let long = c.requires.lined.sides.long in
    let y0 = lower_layers _ c.requires c.track_layers.ensures in
    let y1 = north_comb _ c.requires (long north) y0 c.paint_comb.ensures in
    let y2 = east_comb _ c.requires (long east) y1 c.paint_comb-2.ensures in
    let y3 = column_layer _ c.requires y2 c.paint_lines.ensures in
    west_comb _ c.requires (long west) y3 c.paint_comb-3.ensures
