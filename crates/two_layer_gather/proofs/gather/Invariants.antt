-- The nets passed that have several pins are listed.
use Rattle.std.proofs.Common.{◌≡◌, length}
use Rattle.counting.specs.Counting.{count}
use Rattle.two_layer_cuts.specs.Rows.{operations_in}
use Rattle.two_layer_gather.proofs.Listing.{Held}
use Rattle.two_layer_gather.proofs.Gathering.{many, Picked}
use Rattle.two_layer_gather.proofs.gather.Given as goal

abbrev pub invariant-loop-i : goal.invariant-loop-i
invariant-loop-i l =
    (length (operations_in l.found) ≡ count (many l.pins) l.i)
    × Held (Picked l.pins l.first l.last l.other) (operations_in l.found)
