-- `pozqaben::pozqaben_check` meets its contract: the two entries that it stores tell what `checker::check` answers.
use mathlib.Core.Path.{refl, sym}
use borrow.Author.Rules.{rules}
use Rattle.answers.proofs.Storing.{told, untold, not_both}
use Rattle.pozqaben.proofs.pozqaben_check.Statement.{statement}
use Rattle.pozqaben.proofs.pozqaben_check.Tie as tie

returns : tie.Need-returns-then-answer-lt-CHECK_ENTRIES
returns c = (untold (search rules), λ _. refl)

returns-2 : tie.Need-returns
returns-2 c =
    let put = c.put in
    (told c.check.ensures c.check_entries-entries.ensures c.if-answer-lt-CHECK_ENTRIES.false put.ensures, λ e. not_both (sym e))

pub pozqaben_check_spec : {M : Type 1} → statement M
pozqaben_check_spec =
    tie.close (tie.spec returns (λ c κs. search rules) (λ c κs. search rules) (λ c. search rules) (λ c κs. search rules)
    (λ c. search rules) (λ c. search rules) returns-2)
