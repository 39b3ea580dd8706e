-- `terms::rounded_up` meets its contract: it is the definition's own formula.
use mathlib.Core.Path.{refl}
use borrow.Author.Rules.{rules}
use Rattle.counting.specs.Counting.{ceil}
use Rattle.terms.proofs.Laws.{ceil_small}
use Rattle.terms.proofs.rounded_up.Statement.{statement}
use Rattle.terms.proofs.rounded_up.Tie as tie

returns : tie.Need-returns
unfolding ceil
returns c = (refl, ceil_small c.args.a c.args.b c.requires.1.0)

pub rounded_up_spec : {M : Type 1} → statement M
rounded_up_spec = tie.close (tie.spec (λ c. search rules) (λ c. search rules) (λ c. search rules) returns)
