-- `Along::columns` makes what its type says: a good problem's columns are few, north and south hold nets, and the table is of these.
use Rattle.terms.specs.Kinds.{north, south}
use Rattle.figures.proofs.Bounds.{sides}
use Rattle.figures.proofs.along.Along.columns.Goals as goal

pub invariant_of-result : goal.invariant_of-result
invariant_of-result c =
    let (good, spans) = c.requires in record {
      held = sides c.args.q.now.n.0 c.column_count.ensures good.columns (good.numbered north) (good.numbered south) spans.columns.first
          spans.columns.last;
    }
