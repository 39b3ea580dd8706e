-- `flat::flatten`: what the ticket states is good, and is written in the other form.
use Rattle.std.proofs.Common.{◌∙◌}
use Rattle.output.proofs.Laws.{wrote_as}
use Rattle.ticket_bytes.specs.Bytes.{Bytes}
use Rattle.flat_law.proofs.Promise.{ticket_faithful, flat_faithful, reads_good, convert_written}
use Rattle.flat.proofs.flatten.Goals as goal

pub flat_of-requires : goal.flat_of-requires
flat_of-requires c = reads_good ticket_faithful c.args.ticket.now c.parse-whole.ensures c.if-whole-ne0.false

pub returns : goal.returns
returns c =
    let a = c.args in
    let known : Bytes a.ticket.now = record { small = λ i. (c.type_inv.ticket i).fits } in
    convert_written a.ticket.now a.flat.now c.parse-whole.ensures ticket_faithful flat_faithful known c.if-whole-ne0.false
    (wrote_as (c.as_slice.ensures ∙ c.flat_of.ensures.bytes) c.deliver.ensures)
