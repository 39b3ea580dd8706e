-- Two problems of one kind and shape that one net tells apart: q without it, and q' with it.
use Prim.Native.Nat.{ℕ, ◌≤◌}
use mathlib.Core.Path.{◌≡◌}
use Rattle.counting.specs.Counting.{In}
use Rattle.terms.specs.Limits.{largest_net}
use Rattle.terms.specs.Kinds.{Side}
use Rattle.problem.specs.declared.Problem.{Problem}
use Rattle.problem.specs.Problem.{pins_in, pin_count, Good}
use Rattle.board_law.proofs.Gains.{Gains}

pub record Apart (m : ℕ) (q q' : Problem) : Type 0 where
  pub kind : q'.kind ≡ q.kind
  pub n : q'.n ≡ q.n
  pub byte2 : q'.byte2 ≡ q.byte2
  pub gains : (s : Side) (a : ℕ) → Gains m (pins_in q.pins s a) (pins_in q'.pins s a)
  pub net : In m largest_net
  pub there : 1 ≤ pin_count (pins_in q'.pins) m
  pub good : Good q'
