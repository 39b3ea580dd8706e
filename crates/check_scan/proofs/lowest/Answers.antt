-- One entry more.
use Rattle.check_scan.proofs.Scans.{lowest_more}
use Rattle.check_scan.proofs.lowest.Goals as goal

pub loop-q-preserved : goal.loop-q-preserved
loop-q-preserved c =
    lowest_more _ _ _ _ _ _ c.loop-q.invariant c.unmarked.ensures c.min-best.ensures
