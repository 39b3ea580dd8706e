-- The searches find what the definitions name.
use Rattle.std.proofs.Common.{arith, rules, ◌≡◌, sym, ap, ◌∙◌}
use Rattle.counting.specs.Counting.{least}
use Rattle.two_layer_law.specs.Moves.{wrong, spare}
use Rattle.two_layer_cuts.specs.Rows.{item}
use Rattle.two_layer_plan.proofs.Promise.{found_or}
use Rattle.two_layer_plan.proofs.Moving.{wrong_held}
use Rattle.two_layer_plan.proofs.unblock.Goals as goal

pub returns : goal.returns
returns c =
    let wanted = item c.args.goal.now in
    let cut = item c.args.cut.now in
    let at : least (wrong wanted cut) c.args.n ≡ c.in_ok-blocked.blocked =
    c.in_ok-blocked.ensures.first (wrong wanted cut) (λ k b e. search rules) in
    let free = found_or _ _ _ (c.first_column-2.ensures.first (spare wanted cut) (λ k b e. search rules)) in (
      omega (arith, at, c.in_ok-blocked.ensures.within),
      ap cut (sym at),
      wrong_held c.args.n wanted cut c.in_ok-blocked.blocked c.in_ok-blocked.ensures.within at c.requires.none_ready,
      c.unwrap_or-to.ensures ∙ free,
    )
