-- The nets passed are taken away.
use Rattle.std.proofs.Common.{take}
use Rattle.board_sides.proofs.Left.{Left}
use Rattle.board_sides.proofs.side_without.Given as goal

abbrev pub invariant-loop-net : goal.invariant-loop-net
invariant-loop-net l = Left (take l.net-index l.nets) l.side l.long
