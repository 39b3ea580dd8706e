-- One more operation is drawn in its own track.
use Rattle.std.proofs.Common.{arith, rules}
use Rattle.two_layer.proofs.Lists.{drawn_none, drawn_next, cut_none, cut_next}
use Rattle.two_layer.proofs.draw_list.Goals as goal

pub loop-s-init : goal.loop-s-init
loop-s-init c = record { drawn = drawn_none _; led = cut_none _ _ (search rules) }

pub loop-s-preserved : goal.loop-s-preserved
loop-s-preserved c =
    let i = c.loop-s.invariant in record {
      drawn = drawn_next c.requires.fact.0.1 c.loop-s-test.true c.requires.ops_fit.1 (omega arith) i.led i.drawn c.track_from-j.ensures
          c.draw_track.ensures;
      led = cut_next _ _ _ i.led c.cut_after-cut.ensures;
    }
