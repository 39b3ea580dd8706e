-- `flat::unflatten`: what the flat ticket states is good, and is written in the other form.
use Rattle.problem.proofs.Sizes.{width_in}
use Rattle.ticket_bytes.specs.Bytes.{Bytes}
use Rattle.flat_law.proofs.Promise.{ticket_faithful, flat_faithful, reads_good, convert_written}
use Rattle.flat.proofs.unflatten.Goals as goal

pub write_ticket-requires : goal.write_ticket-requires
write_ticket-requires c =
    let good = reads_good flat_faithful c.args.flat.now c.parse_flat-whole.ensures c.if-whole-ne0.false in
    (good.columns.1, (width_in good).1)

pub returns : goal.returns
returns c =
    let a = c.args in
    let known : Bytes a.flat.now = record { small = λ i. (c.type_inv.flat i).fits } in
    convert_written a.flat.now a.ticket.now c.parse_flat-whole.ensures flat_faithful ticket_faithful known c.if-whole-ne0.false
    c.write_ticket.ensures
