-- q counts the points passed: those of whole layers, then of whole tracks, then of columns.
use Rattle.std.proofs.Common.{ℕ, ◌≡◌, ◌≢◌, ◌+◌, ◌*◌, ◌<◌}
use Rattle.check_link.specs.Marks.{at}
use Rattle.check_scan.proofs.first_unknown.Given as goal

abbrev pub invariant-layers : goal.invariant-layers
invariant-layers l = record { place : l.q ≡ l.l * (l.frame.n.0 * l.frame.w.0); before : (b : ℕ) → b < l.q → at l.known (at l.points b) ≢ 0 }

abbrev pub invariant-loop-j : goal.invariant-loop-j
invariant-loop-j l = record { place : l.q ≡ l.l * (l.frame.n.0 * l.frame.w.0) + l.j * l.frame.n.0; before : (b : ℕ) → b < l.q → at l.known (at l.points b) ≢ 0 }

abbrev pub invariant-loop-i : goal.invariant-loop-i
invariant-loop-i l = record { place : l.q ≡ l.l * (l.frame.n.0 * l.frame.w.0) + l.j * l.frame.n.0 + l.i; before : (b : ℕ) → b < l.q → at l.known (at l.points b) ≢ 0 }
