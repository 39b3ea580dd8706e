-- `channel::lay_trunk`: what is painted in the layer's part is painted in the wiring.
use Rattle.std.proofs.Common.{ℕ, ◌+◌, ap}
use Rattle.channel.proofs.Runs.{run_put}
use Rattle.channel.proofs.lay_trunk.Goals as goal

pub returns : goal.returns
returns c =
    let e = c.track_count-tracks.ensures in
    run_put c.requires.left_le_right.0 c.requires.left_le_right.1 c.requires.left_le_right.2 _ _ (rw e at c.index_of-from.ensures)
    (ap (λ (u : ℕ). c.index_of-from.result + u) c.area.ensures) c.requires.n_le_longest_side.3 (rw e at c.paint_trunk.ensures)
