-- The slices of the arrays tell how many entries these have; moved, the longer side is the box's columns.
use Rattle.std.proofs.Common.{◌≡◌, ◌∙◌, length, rules}
use Rattle.terms.specs.Limits.{longest_side}
use Rattle.orientation.specs.Code.{orientation_of}
use Rattle.switchbox.proofs.Ticket.{canonical, wired}
use Rattle.switchbox.proofs.lay_box.Goals as goal

pub lay_moved-requires : goal.lay_moved-requires
lay_moved-requires c =
    let pre = c.requires in
    let p = c.args.pins.now in
    let north : length p.north ≡ longest_side = search rules in
    let south : length p.south ≡ longest_side = search rules in
    let west : length p.west ≡ longest_side = search rules in
    let east : length p.east ≡ longest_side = search rules in
    rw (c.max.ensures, c.min.ensures, c.column_count-long.ensures, c.track_count-wide.ensures)
    (canonical pre.0 north south west east (orientation_of c.best_orientation.result)
    (c.best_orientation.ensures.0 ∙ c.is_turned.ensures) pre.1 pre.2 pre.3 pre.4 c.best_orientation.ensures.1)

pub returns : goal.returns
returns c =
    let pre = c.requires in
    let p = c.args.pins.now in
    let north : length p.north ≡ longest_side = search rules in
    let south : length p.south ≡ longest_side = search rules in
    let west : length p.west ≡ longest_side = search rules in
    let east : length p.east ≡ longest_side = search rules in
    wired pre.0 north south west east (orientation_of c.best_orientation.result)
    (c.best_orientation.ensures.0 ∙ c.is_turned.ensures)
    (rw (c.max.ensures, c.min.ensures, c.column_count-long.ensures, c.track_count-wide.ensures) at c.lay_moved.ensures)
