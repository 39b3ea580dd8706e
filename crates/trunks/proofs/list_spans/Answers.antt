-- `trunks::list_spans`: one pin more is passed, and its net's span is listed or not.
use Rattle.std.proofs.Common.{◌∙◌, arith}
use Rattle.trunks.proofs.Listings.{list_on, list_new}
use Rattle.trunks.proofs.list_spans.Goals as goal
use Rattle.trunks.proofs.list_spans.Goals.{then-starts, else-starts}

pub loop-q-preserved : goal.loop-q-preserved
loop-q-preserved c = elim c.if-starts.branch [
  | then-starts w ↦ record {
    few = rw w.list-is (omega (arith, w.push.ensures.len, c.loop-q.invariant.few));
    listed = rw (w.list-is, w.push.ensures.items)
        (list_new _ _ c.requires.1 c.requires.2 c.requires.3 c.args.spans.now.columns.one c.args.spans.now.columns.two (omega arith)
        c.loop-q.invariant.listed (c.from-net.ensures ∙ c.pin_at.ensures) c.starts.ensures w.if-starts.true w.span-span.ensures.reads);
  }
  | else-starts w ↦ record {
    few = rw w.list-is (omega arith);
    listed = rw w.list-is
        (list_on _ _ c.requires.1 c.requires.2 c.requires.3 c.args.spans.now.columns.one c.args.spans.now.columns.two (omega arith)
        c.loop-q.invariant.listed (c.from-net.ensures ∙ c.pin_at.ensures) c.starts.ensures w.if-starts.false);
  }
]
