-- The four counts are those of the four corners; a turn exchanges two of them.
use Rattle.std.proofs.Common.{◌∙◌, refl, sym}
use Rattle.orientation.specs.Code.{orientation_of}
use Rattle.switchbox.proofs.Counts.{top_same, top_turned}
use Rattle.switchbox.proofs.best_orientation.Goals as goal

pub returns-then-turned : goal.returns-then-turned
returns-then-turned c =
    let m = c.best_mirror-m.result in (
      refl,
      top_same _ _ _ _ _ _ _ _ (orientation_of (record {
        turned = c.args.turned;
        columns_reversed = m.tracks_reversed;
        tracks_reversed = m.columns_reversed;
      }))
          c.count_corner-ne.ensures c.count_corner-nw.ensures c.count_corner-se.ensures c.count_corner-sw.ensures
          (top_turned c.count_corner-ne.result c.count_corner-nw.result c.count_corner-se.result c.count_corner-sw.result
          m.turned
          c.args.turned m.columns_reversed m.tracks_reversed c.best_mirror-m.ensures.1),
    )

pub returns : goal.returns
returns c = (
  c.best_mirror.ensures.0 ∙ sym c.if-turned.false,
  top_same _ _ _ _ _ _ _ _ (orientation_of c.best_mirror.result)
      c.count_corner-ne.ensures c.count_corner-nw.ensures c.count_corner-se.ensures c.count_corner-sw.ensures
      c.best_mirror.ensures.1,
)
