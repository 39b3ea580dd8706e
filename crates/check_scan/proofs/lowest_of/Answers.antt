-- The smaller of what the pins and the points have.
use Rattle.check_scan.proofs.Scans.{lowest_of}
use Rattle.check_scan.proofs.lowest_of.Goals as goal

pub returns-else-best-clause-lowest : goal.returns-else-best-clause-lowest
returns-else-best-clause-lowest c =
    lowest_of _ _ _ _ _ _ _ c.lowest.ensures c.lowest-2.ensures c.min-best.ensures c.if-best.false
