-- One entry more.
use Rattle.std.proofs.Common.{◌≡◌, ℕ, max, get_or, sym, ap, ◌∙◌, arith}
use Rattle.counting.specs.Counting.{most}
use Rattle.board_law.specs.Counts.{count_entries}
use Rattle.board_counts.proofs.Shifts.{most_none, most_next}
use Rattle.board_counts.proofs.greatest.Goals as goal

pub loop-count-init : goal.loop-count-init
loop-count-init c = sym (most_none _)

pub loop-count-preserved : goal.loop-count-preserved
loop-count-preserved c =
    let l = c.loop-count in
    let list = c.args.list.now in
    c.max-largest.ensures ∙ ap (λ (x : ℕ). max x (get_or list l.count-index 0)) l.invariant ∙ sym (most_next list l.count-index)

pub returns : goal.returns
returns c =
    let end : c.loop-count.count-index ≡ count_entries = omega arith in
    c.loop-count.invariant ∙ ap (most _) end
