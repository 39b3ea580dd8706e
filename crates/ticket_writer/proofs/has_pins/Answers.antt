-- `ticket_writer::has_pins`: a place that holds a pin is one that is not 0.
use Rattle.std.proofs.Common.{◌≡◌, ◌<◌, ap, ◌∙◌, arith, length-take}
use Rattle.std.proofs.lemmas.List.{get_or-take}
use Rattle.counting.specs.Counting.{some}
use Rattle.ticket_writer.proofs.Laws.{found_none, found_more, found_all}
use Rattle.ticket_writer.proofs.has_pins.Goals as goal

pub loop-pin-init : goal.loop-pin-init
loop-pin-init c = found_none c.args.nets.now

pub loop-pin-preserved : goal.loop-pin-preserved
loop-pin-preserved c =
    let a = c.args in
    let i = c.loop-pin.pin-index in
    let within : i < a.places = omega (arith, length-take a.places a.nets.now) in
    cc (get_or-take a.places a.nets.now i 0 within, found_more a.nets.now i)

pub returns : goal.returns
returns c =
    let a = c.args in
    let all : c.loop-pin.pin-index ≡ a.places = omega (arith, length-take a.places a.nets.now) in
    c.loop-pin.invariant ∙ ap (some _) all ∙ found_all a.nets.now a.places
