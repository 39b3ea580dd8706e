-- `ticket::judged`: the table is that of the pins, so its lone net and its number of nets are theirs.
use Rattle.ticket.proofs.Counted.{spans_read, spans_ask, judged_refused, judged_accepted}
use Rattle.ticket.proofs.judged.Goals as goal

pub of-spans-requires-clause-numbered : goal.of-spans-requires-clause-numbered
of-spans-requires-clause-numbered c = (spans_ask c.args.ticket.now c.args.pins c.requires.1 c.by_kind-w.ensures).1

pub returns-then-last-ne0-clause-reads : goal.returns-then-last-ne0-clause-reads
returns-then-last-ne0-clause-reads c =
    judged_refused c.args.ticket.now c.args.pins c.requires.1 c.of-spans.result
    (spans_read c.args.ticket.now c.by_kind-w.ensures c.of-spans.ensures.tabled c.of-spans.ensures.tabled_2) c.tally-tally.ensures.last
    c.if-last-ne0.true c.refused.ensures.0

pub returns-clause-reads : goal.returns-clause-reads
returns-clause-reads c =
    judged_accepted c.args.ticket.now c.args.pins c.requires.1 c.of-spans.result
    (spans_read c.args.ticket.now c.by_kind-w.ensures c.of-spans.ensures.tabled c.of-spans.ensures.tabled_2) c.tally-tally.ensures.last
    c.if-last-ne0.false c.tally-tally.ensures.nets c.accepted.ensures.0
