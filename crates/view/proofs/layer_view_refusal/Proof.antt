-- `view::layer_view_refusal` meets its contract: the tests come in the order of the definition, and the product is taken of counts that passed the first.
use mathlib.Core.Path.{sym, ap, ◌∙◌}
use borrow.Author.Tests.{not-true, not-false, eq-eqb, ne_eqb}
use Rattle.terms.specs.Refusals.{refusal}
use Rattle.grid.proofs.Sizes.{sized}
use Rattle.view.specs.View.{view_refusal}
use borrow.Author.Rules.{rules}
use Rattle.view.proofs.layer_view_refusal.Statement.{statement}
use Rattle.view.proofs.layer_view_refusal.Tie as tie

returns : tie.Need-returns-then-not-is_grid
unfolding view_refusal
returns c = simp (← c.is_grid.ensures, c.if-not-is_grid.true) c.refuse.ensures

points-requires : tie.Need-points-size-requires
points-requires c κs =
    let z = sized _ _ _ (sym c.is_grid.ensures ∙ c.if-not-is_grid.false) in
    (z.long.1, z.wide.1, z.high.1)

returns-2 : tie.Need-returns-then-wiring-size
unfolding view_refusal
returns-2 c =
    simp (
      ← c.is_grid.ensures,
      c.if-not-is_grid.false,
      ← c.points-size.ensures,
      ne_eqb _ _ c.if-wiring-size.true,
    ) c.refuse-then-wiring-size.ensures

returns-3 : tie.Need-returns-then-not-is_layer
unfolding view_refusal
returns-3 c =
    simp (
      ← c.is_grid.ensures,
      c.if-not-is_grid.false,
      ← c.points-size.ensures,
      eq-eqb _ _ c.if-wiring-size.false,
      ← c.is_layer.ensures,
      c.if-not-is_layer.true,
    ) (c.refuse-then-not-is_layer.ensures ∙ ap (refusal 16) c.layer_count.ensures)

returns-4 : tie.Need-returns
unfolding view_refusal
returns-4 c =
    simp (
      ← c.is_grid.ensures,
      c.if-not-is_grid.false,
      ← c.points-size.ensures,
      eq-eqb _ _ c.if-wiring-size.false,
      ← c.is_layer.ensures,
      c.if-not-is_layer.false,
    ) c.refuse-2.ensures

pub layer_view_refusal_spec : {M : Type 1} → statement M
layer_view_refusal_spec =
    tie.close (tie.spec (λ c κs. search rules) (λ c κs. search rules) returns points-requires (λ c κs. search rules) returns-2
    (λ c κs. search rules) (λ c κs. search rules) (λ c κs. search rules) returns-3 (λ c κs. search rules) returns-4)
