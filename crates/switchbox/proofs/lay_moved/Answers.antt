-- What is looked up are the moved box's own lists. The code's q is n/w rounded up; then the lanes are asked for as the rules have it, and
-- what is drawn with them is a box that is laid.
use Rattle.std.proofs.Common.{◌∙◌, sym, arith}
use lib.Seq.{length-take-le}
use Rattle.switchbox.proofs.Assigned.{tracks_asked, columns_asked, drawable, now_on, ceil_is}
use Rattle.switchbox.proofs.Assigned.{found_on, tracks_found, columns_found, laid_found}
use Rattle.switchbox.proofs.lay_moved.Goals as goal

pub lanes-tracks-requires : goal.lanes-tracks-requires
lanes-tracks-requires c =
    let q = c.div_ceil-q.ensures ∙ ceil_is _ _ c.requires.narrow in
    let own = c.moved_counts-upright.ensures in
    rw q (tracks_found c.requires (found_on own.north own.south own.west own.east
    (now_on _ _ _ _ c.on-west_pins.ensures c.own_side-west.ensures.side)
    (now_on _ _ _ _ c.on-south_pins.ensures c.own_side-south.ensures.side)))

pub lanes-columns-requires : goal.lanes-columns-requires
lanes-columns-requires c =
    let own = c.moved_counts-upright.ensures in
    columns_found c.requires (found_on own.north own.south own.west own.east
    (now_on _ _ _ _ c.on-west_pins.ensures c.own_side-west.ensures.side)
    (now_on _ _ _ _ c.on-south_pins.ensures c.own_side-south.ensures.side))

pub slice_bounds-tracks-end : goal.slice_bounds-tracks-end
slice_bounds-tracks-end c =
    let q = c.div_ceil-q.ensures ∙ ceil_is _ _ c.requires.narrow in
    rw q (omega (arith, (tracks_asked c.requires).most, c.lanes-tracks.type_inv))

pub slice_bounds-draw-end : goal.slice_bounds-draw-end
slice_bounds-draw-end c =
    let q = c.div_ceil-q.ensures ∙ ceil_is _ _ c.requires.narrow in
    sym (length-take-le _ _ (rw q (omega (arith, (tracks_asked c.requires).most, c.lanes-tracks.type_inv))))

pub slice_bounds-columns-end : goal.slice_bounds-columns-end
slice_bounds-columns-end c = omega (arith, (columns_asked c.requires).most, c.lanes-columns.type_inv)

pub slice_bounds-draw-end-2 : goal.slice_bounds-draw-end-2
slice_bounds-draw-end-2 c = sym (length-take-le _ _ (omega (arith, (columns_asked c.requires).most, c.lanes-columns.type_inv)))

pub draw-requires : goal.draw-requires
draw-requires c =
    let q = c.div_ceil-q.ensures ∙ ceil_is _ _ c.requires.narrow in
    rw q (drawable c.requires c.lanes-tracks.result c.lanes-columns.result (omega (arith, c.lanes-tracks.type_inv))
    (omega (arith, c.lanes-columns.type_inv)))

pub returns : goal.returns
returns c =
    let q = c.div_ceil-q.ensures ∙ ceil_is _ _ c.requires.narrow in
    let own = c.moved_counts-upright.ensures in
    record {
      tracks = _;
      columns = _;
      wiring = _;
      laid = laid_found c.requires (found_on own.north own.south own.west own.east
          (now_on _ _ _ _ c.on-west_pins.ensures c.own_side-west.ensures.side)
          (now_on _ _ _ _ c.on-south_pins.ensures c.own_side-south.ensures.side))
          c.lanes-tracks.result c.lanes-columns.result (rw q at c.lanes-tracks.ensures) c.lanes-columns.ensures;
      drawn = rw q at c.draw.ensures;
    }
