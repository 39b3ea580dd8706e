-- The edges between points, then those from pins.
use Rattle.std.proofs.Common.{inl, inr}
use Rattle.grid.specs.Grid.{grid_of}
use Rattle.check_link.proofs.Sweeping.{swept_then}
use Rattle.check_sweep.specs.Pins.{Edges}
use Rattle.check_sweep.proofs.Spots.{inner}
use Rattle.check_sweep.proofs.sweep.Goals as goal

pub returns : goal.returns
returns c =
    swept_then (Edges (grid_of c.args.x.frame)) (λ a b e. inl e) (λ a b e. inr e) (λ a b e. e)
    (inner c.args.x.pins.now c.args.x.points.now c.args.s.now _ _ c.points.ensures) c.pins.ensures
