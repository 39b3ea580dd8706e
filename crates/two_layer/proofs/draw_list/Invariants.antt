-- The tracks of the first s operations are drawn, and the cut is the one after them.
use Rattle.terms.specs.Limits.{longest_side}
use Rattle.grid.specs.Grid.{upright}
use Rattle.two_layer_law.specs.Cuts.{cut_of}
use Rattle.two_layer_cuts.specs.Rows.{ops_of, item, Row}
use Rattle.two_layer.specs.Drawing.{track_from, ListDrawn}
use Rattle.two_layer.proofs.draw_list.Given as goal

abbrev pub invariant-loop-s : goal.invariant-loop-s
invariant-loop-s l = record {
  drawn : ListDrawn (upright l.n.0 l.w.0 2) (ops_of l.operations) (item l.fn.cut) (track_from l.from_north l.first) l.s
      l.fn.wiring l.wiring;
  led : Row longest_side (cut_of (ops_of l.operations) (item l.fn.cut) l.s) l.cut;
}
