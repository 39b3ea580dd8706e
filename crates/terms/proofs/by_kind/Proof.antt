-- `terms::by_kind` meets its contract: its tests are those of the definition.
use borrow.Author.Tests.{eq-eqb, ne_eqb}
use Rattle.terms.proofs.by_kind.Statement.{statement}
use Rattle.terms.proofs.by_kind.Tie as tie

returns : tie.Need-returns-then-kind-eq-ROW
returns c = simp (eq-eqb _ _ c.if-kind-eq-ROW.true)

returns-2 : tie.Need-returns-then-kind-eq-CHANNEL
returns-2 c = simp (ne_eqb _ _ c.before.if-kind-eq-ROW.false, eq-eqb _ _ c.if-kind-eq-CHANNEL.true)

returns-3 : tie.Need-returns-then-kind-eq-BOX
returns-3 c = simp (ne_eqb _ _ c.before.before.if-kind-eq-ROW.false, ne_eqb _ _ c.before.if-kind-eq-CHANNEL.false, eq-eqb _ _ c.if-kind-eq-BOX.true)

returns-4 : tie.Need-returns-then-kind-eq-TWO_LAYER
returns-4 c =
    let c1 = c.before in
    let c2 = c1.before in
    let c3 = c2.before in
    simp (ne_eqb _ _ c3.if-kind-eq-ROW.false, ne_eqb _ _ c2.if-kind-eq-CHANNEL.false, ne_eqb _ _ c1.if-kind-eq-BOX.false, eq-eqb _ _ c.if-kind-eq-TWO_LAYER.true)

returns-5 : tie.Need-returns
returns-5 c =
    let c1 = c.before in
    let c2 = c1.before in
    let c3 = c2.before in
    simp (ne_eqb _ _ c3.if-kind-eq-ROW.false, ne_eqb _ _ c2.if-kind-eq-CHANNEL.false, ne_eqb _ _ c1.if-kind-eq-BOX.false, ne_eqb _ _ c.if-kind-eq-TWO_LAYER.false)

pub by_kind_spec : {M : Type 1} → statement M
by_kind_spec = tie.close (tie.spec returns returns-2 returns-3 returns-4 returns-5)
