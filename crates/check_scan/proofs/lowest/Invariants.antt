-- What the entries passed have.
use Rattle.check_scan.specs.Scan.{Lowest}
use Rattle.check_scan.proofs.lowest.Given as goal

abbrev pub invariant-loop-q : goal.invariant-loop-q
invariant-loop-q l = Lowest l.x l.m l.q l.best
