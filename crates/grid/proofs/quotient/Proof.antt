-- `grid::quotient` meets its contract: it is the definition's own formula.
use mathlib.Core.Path.{ap₂, ◌∙◌}
use native.Mathlib.Omega.{arith}
use borrow.Author.Rules.{rules}
use Rattle.counting.specs.Counting.{ceil}
use Rattle.grid.proofs.quotient.Statement.{statement}
use Rattle.grid.proofs.quotient.Tie as tie

returns : tie.Need-returns
returns c = (c.rounded_up.ensures.0 ∙ ap₂ ceil c.before.before.larger.ensures c.before.smaller.ensures, omega arith)

pub quotient_spec : {M : Type 1} → statement M
quotient_spec = tie.close (tie.spec (λ c κs. search rules) (λ c κs. search rules) (λ c κs. search rules) returns)
