-- `router::lay`: turned down by Read, or the outcome of its problem, which proofs/Promise makes a promise.
use Rattle.ticket.specs.Steps.{reading_of}
use Rattle.ticket.proofs.Good.{reading_good}
use Rattle.router.proofs.Promise.{turned_down, promised}
use Rattle.router.proofs.lay.Goals as goal

pub returns-then-t-ne0 : goal.returns-then-t-ne0
returns-then-t-ne0 c =
    turned_down c.args.ticket.now (reading_of c.parse_spans-t.result) c.parse_spans-t.ensures.reads c.args.wiring.now c.refused.result
    c.if-t-ne0.true c.refused.ensures

pub figures_of-f-requires : goal.figures_of-f-requires
figures_of-f-requires c =
    let read = c.parse_spans-t.ensures in
    (reading_good _ read.reads c.if-t-ne0.false, read.spans c.if-t-ne0.false)

pub lay_two_layer-requires-clause-good : goal.lay_two_layer-requires-clause-good
lay_two_layer-requires-clause-good c =
    (reading_good _ c.parse_spans-t.ensures.reads c.if-t-ne0.false, c.if-q-eq-TWO_LAYER.true, c.figures_of-f.ensures)

pub returns-then-q-eq-TWO_LAYER : goal.returns-then-q-eq-TWO_LAYER
returns-then-q-eq-TWO_LAYER c =
    promised c.args.ticket.now (reading_of c.parse_spans-t.result) c.parse_spans-t.ensures.reads c.args.wiring.now
    c.lay_two_layer.result _ c.if-t-ne0.false c.lay_two_layer.ensures

pub lay_by_figures-requires-clause-good : goal.lay_by_figures-requires-clause-good
lay_by_figures-requires-clause-good c =
    (reading_good _ c.parse_spans-t.ensures.reads c.if-t-ne0.false, c.if-q-eq-TWO_LAYER.false, c.figures_of-f.ensures)

pub returns : goal.returns
returns c =
    promised c.args.ticket.now (reading_of c.parse_spans-t.result) c.parse_spans-t.ensures.reads c.args.wiring.now
    c.lay_by_figures.result _ c.if-t-ne0.false c.lay_by_figures.ensures
