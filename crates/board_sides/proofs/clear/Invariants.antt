-- The net is taken away from the places passed, and the others are as they were.
use Rattle.std.proofs.Common.{◌≡◌, cond, ℕ, ◌≤◌, ◌<◌, eqb, get_or}
use Rattle.board_sides.proofs.clear.Given as goal

abbrev pub invariant-loop-pin : goal.invariant-loop-pin
invariant-loop-pin l = record {
  done : (k : ℕ) → k < l.pin-index → get_or l.long k 0 ≡ cond (eqb (get_or l.fn.long k 0) l.net) 0 (get_or l.fn.long k 0);
  rest : (k : ℕ) → l.pin-index ≤ k → get_or l.long k 0 ≡ get_or l.fn.long k 0;
}
