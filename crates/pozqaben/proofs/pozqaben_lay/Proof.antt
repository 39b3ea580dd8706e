-- `pozqaben::pozqaben_lay` meets its contract: it stores the fields of what `router::lay` answers, whose promise is the export's.
use mathlib.Core.Path.{refl, sym, ap, ◌∙◌}
use borrow.Author.Rules.{rules}
use Rattle.answers.specs.Answers.{lay_entries}
use Rattle.answers.proofs.Storing.{answered, unanswered, not_both}
use Rattle.pozqaben.proofs.pozqaben_lay.Statement.{statement}
use Rattle.pozqaben.proofs.pozqaben_lay.Tie as tie

returns : tie.Need-returns-then-answer-lt-LAY_ENTRIES
returns c = (unanswered _ _ (search rules), (λ _. refl, λ e. not_both e))

returns-2 : tie.Need-returns
returns-2 c =
    let put = c.put in
    let l = c.lay.ensures in (
      answered (c.lay_entries-entries.ensures ∙ ap lay_entries l.answer) c.if-answer-lt-LAY_ENTRIES.false put.ensures,
      (
        λ e. not_both (sym e),
        λ _. rw (← l.answer) l,
      ),
    )

pub pozqaben_lay_spec : {M : Type 1} → statement M
pozqaben_lay_spec =
    tie.close (tie.spec returns (λ c κs. search rules) (λ c κs. search rules) (λ c. search rules) (λ c κs. search rules)
    (λ c. search rules) (λ c. search rules) returns-2)
