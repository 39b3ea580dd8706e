-- The side after the turn is mirrored; the law says what pin that is.
use mathlib.Core.Path.{◌≡◌, ap, ◌∙◌}
use mathlib.Core.Bool.{cond}
use Rattle.orientation.specs.Lookup.{diagonal, mirror_side, mirror_order}
use Rattle.orientation.specs.Code.{side_named}
use Rattle.orientation.proofs.Looks.{looks_up}
use Rattle.orientation.proofs.own_side.Goals as goal
use Rattle.orientation.proofs.own_side.Goals.{then-o, else-o}

pub returns : goal.returns
returns c =
    let o = c.args.o in
    let turned : side_named c.if-o.s ≡ cond o.turned (diagonal (side_named c.args.side)) (side_named c.args.side)
    = elim c.if-o.branch [
      | then-o w ↦ rw w.if-o.true (ap side_named w.s-is ∙ w.turn_side-s.ensures)
      | else-o w ↦ rw w.if-o.false (ap side_named w.s-is)
    ] in
    looks_up (c.mirror_side.ensures ∙ ap (mirror_side o.columns_reversed o.tracks_reversed) turned)
    (c.is_reversed.ensures ∙ ap (mirror_order o.columns_reversed o.tracks_reversed) turned)
