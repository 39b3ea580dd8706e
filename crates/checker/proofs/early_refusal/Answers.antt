-- The tests come in the order of the definition, and the product is taken of counts that passed theirs.
use Rattle.std.proofs.Common.{sym, ◌∙◌}
use borrow.Author.Tests.{eq-eqb, ne_eqb, lt-leb, le-leb}
use Rattle.terms.proofs.Laws.{known}
use Rattle.checker.specs.Check.{check_refusal}
use Rattle.checker.proofs.Refusals.{counts}
use Rattle.checker.proofs.early_refusal.Goals as goal

pub returns-then-refusal-ne0 : goal.returns-then-refusal-ne0
unfolding check_refusal
returns-then-refusal-ne0 c = simp (ne_eqb _ _ c.if-refusal-ne0.true)

pub points-size-requires : goal.points-size-requires
points-size-requires c =
    let good = c.requires c.if-refusal-ne0.false in
    let q = c.args.t.problem in
    let h = counts q c.args.w.0 c.args.k.0 (sym c.has_counts.ensures ∙ c.if-has_counts.true) (known q.kind good.kind) in
    (good.columns.1, h.0, h.1)

pub returns-then-wiring-size : goal.returns-then-wiring-size
unfolding check_refusal
returns-then-wiring-size c =
    simp (eq-eqb _ _ c.if-refusal-ne0.false, sym c.has_counts.ensures ∙ c.if-has_counts.true, ← c.points-size.ensures, ne_eqb _ _ c.if-wiring-size.true, c.refuse.ensures)

pub returns-then-scratch-size : goal.returns-then-scratch-size
unfolding check_refusal
returns-then-scratch-size c =
    simp (eq-eqb _ _ c.if-refusal-ne0.false, sym c.has_counts.ensures ∙ c.if-has_counts.true, ← c.points-size.ensures, eq-eqb _ _ c.if-wiring-size.false, lt-leb _ _ c.if-scratch-size.true, c.refuse-then-scratch-size.ensures)

pub returns-then-has_counts : goal.returns-then-has_counts
unfolding check_refusal
returns-then-has_counts c =
    simp (eq-eqb _ _ c.if-refusal-ne0.false, sym c.has_counts.ensures ∙ c.if-has_counts.true, ← c.points-size.ensures, eq-eqb _ _ c.if-wiring-size.false, le-leb _ _ c.if-scratch-size.false, c.refuse-then-has_counts.ensures)

pub returns : goal.returns
unfolding check_refusal
returns c =
    simp (eq-eqb _ _ c.if-refusal-ne0.false, sym c.has_counts.ensures ∙ c.if-has_counts.false, c.refuse-2.ensures)
