-- A remainder is less than the modulus.
use Rattle.std.proofs.Common.{◌<◌}
use Rattle.records.proofs.hash.Given as goal

abbrev pub invariant-loop-b : goal.invariant-loop-b
invariant-loop-b l = l.h < 1000003
