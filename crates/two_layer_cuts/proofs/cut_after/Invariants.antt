-- The entries passed hold the cut without net x.
use Rattle.std.specs.Prelude.{ℕ, ◌<◌, ◌≡◌, cond, eqb, get_or, length}
use Rattle.two_layer_cuts.specs.Rows.{column_entries}
use Rattle.two_layer_cuts.proofs.cut_after.Given as goal

abbrev pub invariant-loop-c : goal.invariant-loop-c
invariant-loop-c l =
    (length l.next ≡ column_entries)
    × ((k : ℕ) → k < l.c → get_or l.next k 0 ≡ cond (eqb (get_or l.cut k 0) l.x) 0 (get_or l.cut k 0))
