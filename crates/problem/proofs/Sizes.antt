-- The sizes of a good problem are within a side's limit, whatever its kind.
use Prim.Native.Nat.{ℕ, ◌≤◌}
use mathlib.Core.Path.{◌≡◌, refl}
use native.Mathlib.Omega.{arith}
use Rattle.counting.specs.Counting.{In}
use Rattle.terms.specs.Kinds.{Side, north, south, west, east, box, by_kind, largest_byte2}
use Rattle.terms.specs.Limits.{longest_side}
use Rattle.terms.proofs.Laws.{Known, is_row, is_channel, is_box, is_two_layer, known, of_box}
use Rattle.grid.specs.Grid.{places}
use Rattle.grid.specs.Legal.{GridOf}
use Rattle.problem.specs.declared.Problem.{Problem}
use Rattle.problem.specs.Problem.{width_of, shape_of, Good}

both_in : {kind v : ℕ} → Known kind → In v (largest_byte2 kind) → In v longest_side × In (by_kind kind 1 1 1 v 1) longest_side
both_in is_row h = omega arith
both_in is_channel h = omega arith
both_in is_box h = (h, h)
both_in is_two_layer h = omega arith

module _ {q : Problem} (good : Good q) where
  pub byte2_in : In q.byte2 longest_side
  byte2_in = (both_in (known q.kind good.kind) good.byte2).0

  pub width_in : In (width_of q) longest_side
  width_in = (both_in (known q.kind good.kind) good.byte2).1

  pub side_fits : (s : Side) → places (shape_of q) s ≤ longest_side
  side_fits north = good.columns.1
  side_fits south = good.columns.1
  side_fits west = width_in.1
  side_fits east = width_in.1

  -- the shape of a box is one of its grids
  pub box_shape : q.kind ≡ box → GridOf box q.n.0 q.byte2 (shape_of q)
  box_shape e = record {
    length = refl;
    width = λ z. of_box q.kind 1 1 1 q.byte2 1 e;
    columns = good.columns.0;
    tracks = width_in.0;
    layers = omega arith;
  }
