-- The counts that the calls take are so small that their products fit.
use Prim.Native.Nat.{ℕ, ◌+◌, ◌-◌, ◌*◌, ◌≤◌}
use mathlib.Core.Path.{◌≡◌, refl}
use mathlib.Core.Bool.{Bool, true, false, ◌&&◌, and-eq-true_iff}
use mathlib.Core.List.{List}
use native.Mathlib.Nat.{mul-le-mul}
use native.Mathlib.Omega.{arith}
use lib.Dec.{eqb, leb}
use lib.ListN.{length}
use borrow.Author.Tests.{eqb-true, leb-true}
use Rattle.counting.specs.Counting.{In}
use Rattle.terms.specs.Refusals.{refusal, unless}
use Rattle.terms.specs.Limits.{longest_side, widest_grid, most_layers, within}
use Rattle.terms.proofs.Laws.{within_in}

pub area_le : (n w : ℕ) → n ≤ longest_side → w ≤ widest_grid → n * w ≤ longest_side * widest_grid
area_le n w a b = mul-le-mul a b

pub points_le : (n w k : ℕ) → n ≤ longest_side → w ≤ widest_grid → k ≤ most_layers → n * w * k ≤ longest_side * widest_grid * most_layers
points_le n w k a b c = mul-le-mul (area_le n w a b) c

-- the three counts are those of a grid that the calls take
pub record Sized (n w k : ℕ) : Type 0 where
  pub long : In n longest_side
  pub wide : In w widest_grid
  pub high : In k most_layers

pub sized : (n w k : ℕ) → (within n longest_side && within w widest_grid && within k most_layers) ≡ true → Sized n w k
sized n w k e =
    let (f, c) = (and-eq-true_iff (within n longest_side && within w widest_grid) (within k most_layers)).0 e in
    let (a, b) = (and-eq-true_iff (within n longest_side) (within w widest_grid)).0 f in
    record { long = within_in n longest_side a; wide = within_in w widest_grid b; high = within_in k most_layers c }

-- a row of the buffer, and the points before it, are within the buffer
pub rows_le : (n w k j l : ℕ) → In j w → In l k → n ≤ longest_side → w ≤ widest_grid → k ≤ most_layers
    → ((l - 1) * w ≤ most_layers * widest_grid) × (((l - 1) * w + (j - 1)) * n ≤ most_layers * widest_grid * longest_side)
rows_le n w k j l hj hl a b c =
    let p : (l - 1) * w ≤ (most_layers - 1) * widest_grid = mul-le-mul {n₂ = most_layers - 1} {m₂ = widest_grid} (omega arith) b in
    (omega arith, mul-le-mul {n₂ = most_layers * widest_grid} {m₂ = longest_side} (omega arith) a)
