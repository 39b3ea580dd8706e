-- The size is multiplied only of counts that passed, and is at most the given length.
use Rattle.std.proofs.Common.{sym, ◌∙◌}
use Rattle.grid.proofs.Sizes.{sized}
use Rattle.lay_vectors.proofs.taken.Goals as goal

pub points-size-requires : goal.points-size-requires
points-size-requires c =
    let s = sized _ _ _ (sym c.is_grid.ensures ∙ c.if-not-is_grid.false) in
    (s.long.1, s.wide.1, s.high.1)
