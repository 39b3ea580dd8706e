-- `grid::index_of` meets its contract: neither product is larger than the largest buffer.
use native.Mathlib.Omega.{arith}
use Rattle.grid.proofs.Sizes.{rows_le}
use Rattle.grid.proofs.index_of.Statement.{statement}
use Rattle.grid.proofs.index_of.Tie as tie

sub-before : tie.Need-overflow_sub-before
sub-before c = omega arith

mul-before : tie.Need-overflow_mul-before
mul-before c = omega (
  arith,
  rows_le c.before.before.args.n.0 c.before.before.args.w.0 c.before.before.args.k.0
      c.before.before.args.j.0 c.before.before.args.l.0 c.before.before.requires.1.1 c.before.before.requires.1.2
      c.before.before.requires.0.0 c.before.before.requires.0.1 c.before.before.requires.0.2,
)

sub-before-2 : tie.Need-overflow_sub-before-2
sub-before-2 c = omega arith

add-before : tie.Need-overflow_add-before
add-before c = omega (
  arith,
  rows_le c.before.before.before.args.n.0 c.before.before.before.args.w.0
      c.before.before.before.args.k.0 c.before.before.before.args.j.0 c.before.before.before.args.l.0
      c.before.before.before.requires.1.1 c.before.before.before.requires.1.2 c.before.before.before.requires.0.0
      c.before.before.before.requires.0.1 c.before.before.before.requires.0.2,
)

mul-result : tie.Need-overflow_mul-result
mul-result c = omega (
  arith,
  rows_le c.before.before.before.before.args.n.0 c.before.before.before.before.args.w.0
      c.before.before.before.before.args.k.0 c.before.before.before.before.args.j.0 c.before.before.before.before.args.l.0
      c.before.before.before.before.requires.1.1 c.before.before.before.before.requires.1.2 c.before.before.before.before.requires.0.0
      c.before.before.before.before.requires.0.1 c.before.before.before.before.requires.0.2,
)

sub-result : tie.Need-overflow_sub-result
sub-result c = omega arith

add-result : tie.Need-overflow_add-result
add-result c = omega (
  arith,
  rows_le c.before.before.before.before.before.args.n.0 c.before.before.before.before.before.args.w.0
      c.before.before.before.before.before.args.k.0 c.before.before.before.before.before.args.j.0
      c.before.before.before.before.before.args.l.0 c.before.before.before.before.before.requires.1.1
      c.before.before.before.before.before.requires.1.2 c.before.before.before.before.before.requires.0.0
      c.before.before.before.before.before.requires.0.1 c.before.before.before.before.before.requires.0.2,
)

returns : tie.Need-returns
returns c = omega arith

pub index_of_spec : {M : Type 1} → statement M
index_of_spec =
    tie.close (tie.spec sub-before mul-before sub-before-2 add-before mul-result sub-result add-result returns)
