-- `hardest::side_of`: the places passed hold what the closure gives, the others nothing.
use Rattle.std.proofs.Common.{◌≡◌, ℕ, ◌+◌, ◌≤◌, ◌<◌, get_or, length}
use Rattle.hardest.proofs.side_of.Given as goal

abbrev pub invariant-loop-i : goal.invariant-loop-i
invariant-loop-i g l = record {
  size : length l.list ≡ 90;
  nets : (k : ℕ) → k < l.i → goal.F-post g l.net (k + 1) (get_or l.list k 0);
  empty : (k : ℕ) → l.i ≤ k → get_or l.list k 0 ≡ 0;
}
