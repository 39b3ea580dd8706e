-- The figures of a problem, by kind.
--
--   across_of q   across; a box's counts the nets all of whose pins are west or east too: "This holds for boxes only" (document 02, job 6)
--   figures_of q  w: for a row and a channel "the larger of 1 and across/h rounded up", for a box its own, for a two-layer channel 0
--                 ("Survey prints `two-layer` and no tracks"); across; up, and the floor with
--                 "a = across/w rounded up and b = up/n rounded up": "Up and the floor belong to boxes only"; the layers that Lay uses
use Rattle.std.specs.Prelude.{ℕ}
use Rattle.terms.specs.Kinds.{by_kind, layers_for}
use Rattle.density.specs.Density.{across, box_across, up, tracks_for, floor_of}
use Rattle.problem.specs.declared.Problem.{Problem}
use Rattle.problem.specs.Problem.{pins_in, shape_of}
use Rattle.figures.specs.declared.Figures.{Figures}

abbrev pub across_of : Problem → ℕ
across_of q =
    let a = across (shape_of q) (pins_in q.pins) in
    by_kind q.kind 0 a a (box_across (shape_of q) (pins_in q.pins)) a

abbrev pub tracks_of : Problem → ℕ
tracks_of q = tracks_for q.byte2 (across_of q)

unfoldable pub figures_of : Problem → Figures
figures_of q =
    record {
      w = record { 0 = by_kind q.kind 0 (tracks_of q) (tracks_of q) q.byte2 0 };
      across = across_of q;
      up = by_kind q.kind 0 0 0 (up (shape_of q) (pins_in q.pins)) 0;
      layers = record { 0 = layers_for q.kind q.n.0 q.byte2 };
      floor = record { 0 = by_kind q.kind 0 0 0 (floor_of (shape_of q) (pins_in q.pins)) 0 };
    }
