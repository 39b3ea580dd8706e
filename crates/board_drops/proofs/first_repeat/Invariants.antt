-- The nets passed are marked, and none of them is a repeat.
use Rattle.std.proofs.Common.{true, take}
use Rattle.board_law.proofs.Accepted.{Counting}
use Rattle.board_drops.proofs.Marks.{Marked}
use Rattle.board_drops.proofs.first_repeat.Given as goal

abbrev pub invariant-loop-i : goal.invariant-loop-i
invariant-loop-i l = record { counting : Counting (λ v. true) l.nets l.i; marks : Marked (take l.i l.nets) l.seen }
