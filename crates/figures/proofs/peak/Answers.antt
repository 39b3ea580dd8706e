-- `figures::peak` meets its contract: from column to column, the nets that begin come in and those that end go.
use Rattle.std.proofs.Common.{arith, ◌∙◌}
use Rattle.figures.proofs.Sweep.{two_pins, swept_none, swept_in, swept_out, swept_more}
use Rattle.figures.proofs.peak.Goals as goal

pub loop-i-init : goal.loop-i-init
loop-i-init c = swept_none (omega (arith, c.args.x.held.fits)) c.requires.ends (c.from-now.ensures ∙ c.requires.coming_value)

pub overflow_add-now : goal.overflow_add-now
overflow_add-now c =
    let held = c.args.x.held in
    let pins = two_pins held.on_a held.on_b c.from-m.ensures c.from-k.ensures in
    omega (
      arith,
      swept_in (omega (arith, held.fits)) c.requires.ends c.loop-i.invariant c.loop-i-test.true pins c.now_at-now.ensures,
    )

pub overflow_sub-now : goal.overflow_sub-now
overflow_sub-now c =
    let held = c.args.x.held in
    let pins = two_pins held.on_a held.on_b c.from-m.ensures c.from-k.ensures in
    swept_out (omega (arith, held.fits)) c.requires.ends c.loop-i.invariant c.loop-i-test.true pins c.now_at-now.ensures
    c.now_at-now-in-loop-i.ensures

pub loop-i-preserved : goal.loop-i-preserved
loop-i-preserved c =
    let held = c.args.x.held in
    let pins = two_pins held.on_a held.on_b c.from-m.ensures c.from-k.ensures in
    let out = overflow_sub-now c in
    swept_more (omega (arith, held.fits)) c.requires.ends c.loop-i.invariant c.loop-i-test.true pins c.now_at-now.ensures
    c.now_at-now-in-loop-i.ensures _ (omega arith) c.max-best.ensures
