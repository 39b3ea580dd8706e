-- `hardest::hardest_box`: a shape outside the limits is refused, and any other box is written as its bytes.
use Rattle.std.proofs.Common.{sym, ap, ◌∙◌, subst, Err}
use Rattle.terms.specs.declared.Refusal.{Refusal}
use Rattle.output.proofs.Laws.{wrote_as}
use Rattle.ticket_bytes.specs.Bytes.{bytes_of}
use Rattle.hardest_law.specs.Hardest.{WritesHardest}
use Rattle.hardest_law.proofs.Promise.{shape_refused, box_written}
use Rattle.hardest.proofs.hardest_box.Goals as goal

pub returns-then-not-is_shape : goal.returns-then-not-is_shape
returns-then-not-is_shape c =
    let a = c.args in
    subst (λ (r : Refusal). WritesHardest a.n.0 a.w.0 a.ticket.now a.ticket.now (Err r)) (sym c.refuse.ensures)
    (shape_refused a.n.0 a.w.0 a.ticket.now (sym c.is_shape.ensures ∙ c.if-not-is_shape.true))

pub returns : goal.returns
returns c =
    let a = c.args in
    box_written a.n.0 a.w.0 a.ticket.now (sym c.is_shape.ensures ∙ c.if-not-is_shape.false)
    (wrote_as (ap bytes_of c.make_box.ensures) c.write_ticket.ensures)
