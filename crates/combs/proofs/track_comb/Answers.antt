-- The closure reads the pins.
use Rattle.std.proofs.Common.{◌≡◌, ◌+◌, rules, add-one, ap, ◌∙◌}
use Rattle.grid.specs.Legal.{entry}
use Rattle.paint.proofs.Laws.{lined_striped}
use Rattle.combs.proofs.track_comb.Goals as goal

pub returns : goal.returns
returns c =
    let own = c.args.own.now in
    lined_striped (λ i j v h. let pin : v ≡ entry own (j + 1) = search rules in pin ∙ ap (entry own) (add-one j)) c.tracks_by.ensures
