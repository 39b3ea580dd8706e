-- `terms::is_kind` meets its contract: the table of ones is 1 just at a kind.
use Prim.Native.Nat.{ℕ}
use mathlib.Core.Path.{◌≡◌, refl, ap, ◌∙◌}
use mathlib.Core.Bool.{Bool, true, false, cond}
use lib.Dec.{eqb}
use borrow.Author.Rules.{rules}
use Rattle.terms.specs.Kinds.{row, channel, box, two_layer}
use Rattle.terms.proofs.is_kind.Statement.{statement}
use Rattle.terms.proofs.is_kind.Tie as tie

ones : (a b c d : Bool) → eqb (cond a 1 (cond b 1 (cond c 1 (cond d 1 0)))) 1 ≡ cond a true (cond b true (cond c true (cond d true false)))
ones true b c d = refl
ones false true c d = refl
ones false false true d = refl
ones false false false true = refl
ones false false false false = refl

returns : tie.Need-returns
returns c = ap (λ (x : ℕ). eqb x 1) c.by_kind.ensures ∙ ones (eqb c.before.args.kind row) (eqb c.before.args.kind channel)
    (eqb c.before.args.kind box) (eqb c.before.args.kind two_layer)

pub is_kind_spec : {M : Type 1} → statement M
is_kind_spec = tie.close (tie.spec (λ c κs. search rules) returns)
