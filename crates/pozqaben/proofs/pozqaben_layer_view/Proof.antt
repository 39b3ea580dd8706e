-- `pozqaben::pozqaben_layer_view` meets its contract: it stores what `view_entries` gives, and these entries name the part.
use borrow.Author.Rules.{rules}
use Rattle.answers.proofs.Storing.{answered, unanswered, not_both}
use Rattle.answers.proofs.Views.{part_told_lem}
use Rattle.pozqaben.proofs.pozqaben_layer_view.Statement.{statement}
use Rattle.pozqaben.proofs.pozqaben_layer_view.Tie as tie

returns : tie.Need-returns-then-answer-lt-LAYER_VIEW_ENTRIES
returns c = (unanswered _ _ c.if-answer-lt-LAYER_VIEW_ENTRIES.true, λ e. not_both e)

returns-2 : tie.Need-returns
returns-2 c =
    let kept = c.put.ensures in
    let entries = c.view_entries-entries.ensures in
    (answered entries c.if-answer-lt-LAYER_VIEW_ENTRIES.false kept, λ _. part_told_lem _ _ _ _ _ _ entries kept)

pub pozqaben_layer_view_spec : {M : Type 1} → statement M
pozqaben_layer_view_spec =
    tie.close (tie.spec returns (λ c κs. search rules) (λ c. search rules) (λ c κs. search rules) (λ c. search rules) returns-2)
