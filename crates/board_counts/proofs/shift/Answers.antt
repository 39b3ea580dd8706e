-- The entries passed are as they are to be: a place is one of the run if the difference modulo 256 says so.
use Rattle.std.proofs.Common.{◌≡◌, ℕ, ◌+◌, ◌%◌, cond, get_or, ap, arith}
use Rattle.terms.specs.Limits.{byte_values}
use Rattle.board_law.specs.Counts.{count_entries}
use Rattle.board_counts.proofs.InPlace.{passed_none, passed_set}
use Rattle.board_counts.proofs.Shifts.{covers, near_in, near_out, shifted_all}
use Rattle.board_counts.proofs.shift.Goals as goal
use Rattle.board_counts.proofs.shift.Goals.{then-inside, else-inside}

pub loop-i-init : goal.loop-i-init
loop-i-init c = passed_none _ count_entries c.args.list.now c.told-list

pub loop-i-preserved : goal.loop-i-preserved
loop-i-preserved c =
    let l = c.loop-i in
    let a = c.args in
    let here : c.if-inside.list ≡ cond (covers a.from a.size (l.i + 1)) a.step 0 = elim c.if-inside.branch [
      | then-inside w ↦ rw (near_in a.from a.size (l.i + 1) c.requires.0 c.requires.1 (omega arith) w.if-inside.true) w.list-is
      | else-inside w ↦ rw (near_out a.from a.size (l.i + 1) c.requires.0 c.requires.1 (omega arith) w.if-inside.false) w.list-is
    ] in
    passed_set _ count_entries l.i _ a.list.now l.list (omega arith)
    (ap (λ (y : ℕ). (get_or l.list l.i 0 + y) % byte_values) here) l.invariant

pub returns : goal.returns
returns c =
    let l = c.loop-i in
    let a = c.args in
    shifted_all a.from a.size a.step l.i a.list.now l.list (omega arith) l.invariant
