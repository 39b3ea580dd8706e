-- `grid::area` meets its contract: the product fits.
use borrow.Author.Rules.{rules}
use native.Mathlib.Omega.{arith}
use Rattle.grid.proofs.Sizes.{area_le}
use Rattle.grid.proofs.area.Statement.{statement}
use Rattle.grid.proofs.area.Tie as tie

mul-result : tie.Need-overflow_mul-result
mul-result c = omega (
  arith,
  area_le c.before.before.args.n.0 c.before.before.args.w.0 c.before.before.requires.0
      c.before.before.requires.1,
)

returns : tie.Need-returns
returns c = search rules

pub area_spec : {M : Type 1} → statement M
area_spec = tie.close (tie.spec mul-result returns)
