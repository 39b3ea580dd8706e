-- `flat_reader::flat_judged`: the table is that of the pins, so its lone net and its number of nets are theirs.
use Rattle.ticket.proofs.Counted.{spans_read, spans_ask, judged_refused, judged_accepted}
use Rattle.flat_reader.proofs.flat_judged.Goals as goal

pub of-spans-requires-clause-numbered : goal.of-spans-requires-clause-numbered
of-spans-requires-clause-numbered c = (spans_ask c.args.flat.now c.args.pins c.requires.1 c.by_kind-w.ensures).1

pub returns-then-last-ne0 : goal.returns-then-last-ne0
returns-then-last-ne0 c =
    judged_refused c.args.flat.now c.args.pins c.requires.1 c.of-spans.result
    (spans_read c.args.flat.now c.by_kind-w.ensures c.of-spans.ensures.tabled c.of-spans.ensures.tabled_2) c.tally-tally.ensures.last
    c.if-last-ne0.true c.refused.ensures.0

pub returns : goal.returns
returns c =
    judged_accepted c.args.flat.now c.args.pins c.requires.1 c.of-spans.result
    (spans_read c.args.flat.now c.by_kind-w.ensures c.of-spans.ensures.tabled c.of-spans.ensures.tabled_2) c.tally-tally.ensures.last
    c.if-last-ne0.false c.tally-tally.ensures.nets c.accepted.ensures.0
