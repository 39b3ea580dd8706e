-- The pins are the first row, and that is copied to all others.
use Rattle.std.proofs.Common.{◌≡◌, ◌+◌, rules, add-one, ap, ◌∙◌}
use Rattle.grid.specs.Legal.{entry}
use Rattle.paint.proofs.Laws.{first_size, first_repeated, lined_striped}
use Rattle.combs.proofs.column_comb.Goals as goal

pub returns : goal.returns
returns c =
    let own = c.args.own.now in
    first_repeated _ _ c.args.part.now c.requires.1 c.requires.2 (first_size _ c.args.w c.args.part.now c.requires.1 c.requires.2)
    (lined_striped (λ i j v h. let pin : v ≡ entry own (i + 1) = search rules in pin ∙ ap (entry own) (add-one i)) c.fill_by.ensures) c.repeat.ensures
