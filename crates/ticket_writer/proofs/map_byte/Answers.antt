-- `ticket_writer::map_byte`: a place that holds a pin adds the power of its bit; past the part no bit is left.
use Rattle.std.proofs.Common.{arith, refl, ◌∙◌}
use Rattle.grid.specs.Legal.{entry}
use Rattle.ticket_writer.proofs.Laws.{lowest_none, doubled, eight, bit_more, bit_same, all_bits}
use Rattle.ticket_writer.proofs.map_byte.Goals as goal
use Rattle.ticket_writer.proofs.map_byte.Goals.{then-net-ne0, else-net-ne0}

pub loop-net-init : goal.loop-net-init
loop-net-init c = let a = c.args in
    record { power = refl; small = omega arith; below = omega arith; value = lowest_none (entry a.nets.now) a.places a.j }

pub loop-net-preserved : goal.loop-net-preserved
loop-net-preserved c =
    let a = c.args in
    let l = c.loop-net in
    let end = c.min-end in
    let b = l.net-index in
    let few = eight a.nets.now a.places a.j end.result end.ensures (omega arith) (omega arith) b c.loop-net-test.true in
    let more = bit_more a.nets.now a.places a.j end.result end.ensures (omega arith) (omega arith) b c.loop-net-test.true in
    let same = bit_same a.nets.now a.places a.j end.result end.ensures (omega arith) (omega arith) b c.loop-net-test.true in
    let twice = doubled b l.power few l.invariant.power in
    elim c.if-net-ne0.branch [
      | then-net-ne0 w ↦ record { power = twice.0; small = twice.1; below = omega arith; value = omega (arith, more w.if-net-ne0.true) }
      | else-net-ne0 w ↦ record { power = twice.0; small = twice.1; below = omega arith; value = omega (arith, same w.if-net-ne0.false) }
    ]

pub returns : goal.returns
returns c =
    let a = c.args in
    let end = c.min-end in
    c.loop-net.invariant.value ∙ all_bits a.nets.now a.places a.j end.result end.ensures (omega arith) (omega arith)
    c.loop-net.net-index c.loop-net-test.false (omega arith)
