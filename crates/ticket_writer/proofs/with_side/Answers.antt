-- `ticket_writer::with_side`: the map and the nets, or nothing.
use Rattle.std.proofs.Common.{sym}
use Rattle.output.proofs.Laws.{adds_none, adds_adds, adds_as}
use Rattle.ticket_bytes.proofs.MapAndNets.{side_standing, side_missing}
use Rattle.ticket_writer.proofs.with_side.Goals as goal

pub returns-then-has_pins-clause-adds : goal.returns-then-has_pins-clause-adds
returns-then-has_pins-clause-adds c =
    adds_as (sym (side_standing _ _ (sym c.if-has_pins.ensures))) (adds_adds c.with_map.ensures.adds c.with_nets.ensures.adds)

pub returns-else-has_pins-clause-adds : goal.returns-else-has_pins-clause-adds
returns-else-has_pins-clause-adds c = adds_as (sym (side_missing _ _ (sym c.if-has_pins.ensures))) (adds_none c.args.out.now)
