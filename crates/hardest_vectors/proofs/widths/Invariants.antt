-- Each width adds at most the buffer's bytes to the sum, and a hash is a remainder.
use Rattle.std.proofs.Common.{◌≡◌, ◌≤◌, length, ◌*◌, ◌+◌, ◌<◌}
use Rattle.hardest_vectors.proofs.widths.Given as goal

abbrev pub invariant-loop-w : goal.invariant-loop-w
invariant-loop-w g l = (length l.buffer ≡ length l.initial.buffer) × (l.total + 512 ≤ 512 * l.w) × (l.h < 1000003)
