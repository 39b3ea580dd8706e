-- `channel::paint_trunk`: the run starts at its first point's index in the layer and lies in the layer.
use Rattle.std.proofs.Common.{arith}
use Rattle.std.proofs.Math.Nat.{add-sub_cancel_left}
use Rattle.paint.proofs.Laws.{put_row}
use Rattle.channel.proofs.Runs.{run_in_layer}
use Rattle.channel.proofs.paint_trunk.Goals as goal

pub returns : goal.returns
returns c =
    rw (← c.index_of-at.ensures, ← c.column_count.ensures, ← c.column_count-2.ensures)
    (put_row _ _ (add-sub_cancel_left _ _)
    (omega (
      arith,
      c.column_count-2.ensures,
      c.column_count.ensures,
      c.index_of-at.ensures,
      run_in_layer c.requires.left_le_right.0 c.requires.left_le_right.1 c.requires.left_le_right.2,
      c.requires.n_le_longest_side,
    )) c.fill.ensures)
