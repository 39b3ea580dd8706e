-- `grid::points` meets its contract: the product fits.
use borrow.Author.Rules.{rules}
use native.Mathlib.Omega.{arith}
use native.Mathlib.Nat.{mul-le-mul}
use Prim.Native.Nat.{ℕ, ◌*◌, ◌≤◌}
use mathlib.Core.Path.{ap}
use Rattle.terms.specs.Limits.{longest_side, widest_grid, most_layers}
use Rattle.grid.proofs.Sizes.{area_le}
use Rattle.grid.proofs.points.Statement.{statement}
use Rattle.grid.proofs.points.Tie as tie

area-requires : tie.Need-area-each-requires
area-requires c κs = search rules

mul-result : tie.Need-overflow_mul-result
mul-result c = let each : c.before.area-each.result ≤ longest_side * widest_grid = omega (
  arith,
  c.before.area-each.ensures,
  area_le c.before.before.args.n.0 c.before.before.args.w.0 c.before.before.requires.0
      c.before.before.requires.1,
) in
    omega (arith, mul-le-mul {n₂ = longest_side * widest_grid} {m₂ = most_layers} each c.before.before.requires.2)

returns : tie.Need-returns
returns c = ap (λ (t : ℕ). t * c.before.before.args.k.0) c.before.area-each.ensures

pub points_spec : {M : Type 1} → statement M
points_spec = tie.close (tie.spec area-requires mul-result returns)
