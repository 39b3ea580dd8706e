-- `Along::tracks` makes what its type says: a good problem's tracks are few, west and east hold nets, and the table is of these.
use Rattle.std.proofs.Common.{ℕ, ap, ◌∙◌}
use Rattle.terms.specs.Kinds.{west, east, by_kind}
use Rattle.problem.specs.Problem.{width_of}
use Rattle.problem.proofs.Sizes.{width_in}
use Rattle.figures.proofs.Bounds.{sides}
use Rattle.figures.proofs.along.Along.tracks.Goals as goal

pub invariant_of-result : goal.invariant_of-result
invariant_of-result c =
    let (good, spans) = c.requires in
    let q = c.args.q.now in record {
      held = sides (width_of q) (c.by_kind.ensures ∙ ap (λ (v : ℕ). by_kind q.kind 1 1 1 v 1) c.from-width.ensures) (width_in good)
          (good.numbered west) (good.numbered east) spans.tracks.first spans.tracks.last;
    }
