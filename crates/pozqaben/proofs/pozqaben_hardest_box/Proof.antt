-- `pozqaben::pozqaben_hardest_box` meets its contract: it stores the fields of what `hardest_box` answers, whose promise is the export's.
use mathlib.Core.Path.{refl, sym, ap, ◌∙◌}
use borrow.Author.Rules.{rules}
use Rattle.answers.specs.Answers.{written_entries}
use Rattle.answers.proofs.Storing.{answered, unanswered, not_both}
use Rattle.pozqaben.proofs.pozqaben_hardest_box.Statement.{statement}
use Rattle.pozqaben.proofs.pozqaben_hardest_box.Tie as tie

returns : tie.Need-returns-then-answer-lt-WRITTEN_ENTRIES
returns c = (unanswered _ _ (search rules), (λ _. refl, λ e. not_both e))

returns-2 : tie.Need-returns
returns-2 c =
    let put = c.put in
    let l = c.hardest_box.ensures in (
      answered (c.written_entries-entries.ensures ∙ ap written_entries l.answer) c.if-answer-lt-WRITTEN_ENTRIES.false put.ensures,
      (
        λ e. not_both (sym e),
        λ _. rw (← l.answer) l,
      ),
    )

pub pozqaben_hardest_box_spec : {M : Type 1} → statement M
pozqaben_hardest_box_spec =
    tie.close (tie.spec returns (λ c κs. search rules) (λ c κs. search rules) (λ c. search rules) (λ c κs. search rules)
    (λ c. search rules) (λ c. search rules) returns-2)
