-- `grid::is_grid` meets its contract: its three tests are those of the definition.
use borrow.Author.Rules.{rules}
use borrow.Author.Tests.{not-true, not-false}
use Rattle.grid.proofs.is_grid.Statement.{statement}
use Rattle.grid.proofs.is_grid.Tie as tie

is-within-requires : tie.Need-is_within-requires
is-within-requires c κs = search rules

returns : tie.Need-returns-then-not-is_within
returns c = simp (← c.before.is_within.ensures, c.if-not-is_within.true)

is-within-requires-2 : tie.Need-is_within-requires-2
is-within-requires-2 c κs = search rules

returns-2 : tie.Need-returns-then-not-is_within-2
returns-2 c = simp (
  ← c.before.before.before.is_within.ensures,
  ← c.before.is_within-2.ensures,
  c.before.before.if-not-is_within.false,
  c.if-not-is_within-2.true,
)

is-within-requires-3 : tie.Need-is_within-requires-3
is-within-requires-3 c κs = search rules

returns-3 : tie.Need-returns
returns-3 c = simp (
  ← c.before.before.before.before.is_within.ensures,
  ← c.before.before.is_within-2.ensures,
  c.before.before.before.if-not-is_within.false,
  c.before.if-not-is_within-2.false,
) c.is_within-3.ensures

pub is_grid_spec : {M : Type 1} → statement M
is_grid_spec =
    tie.close (tie.spec is-within-requires returns is-within-requires-2 returns-2 is-within-requires-3 returns-3)
