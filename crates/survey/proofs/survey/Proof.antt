-- `survey::survey` meets its contract: a refusal of the reading, or the figures and the pins of a problem that `reading_good` says is good.
use Prim.Native.Nat.{ℕ}
use mathlib.Core.Path.{ap, ap₂, ◌∙◌}
use borrow.Author.Tests.{eq-eqb, ne_eqb}
use borrow.Author.Rules.{rules}
use Rattle.nets.proofs.Totals.{total_filled}
use Rattle.figures.specs.declared.Figures.{Figures}
use Rattle.problem.proofs.Sizes.{width_in}
use Rattle.ticket.proofs.Good.{reading_good}
use Rattle.survey.specs.Survey.{answered, surveyed, survey_of}
use Rattle.survey.proofs.survey.Statement.{statement}
use Rattle.survey.proofs.survey.Tie as tie

returns : tie.Need-returns-then-refusal-ne0
unfolding survey_of
returns c = simp (ne_eqb _ _ c.if-refusal-ne0.true) c.refused.ensures ∙ ap surveyed c.parse_spans-t.ensures.0

figures-of-requires : tie.Need-figures_of-figures-requires
figures-of-requires c κs =
    let read = c.parse_spans-t.ensures in
    (reading_good _ read.0 c.if-refusal-ne0.false, read.1 c.if-refusal-ne0.false)

returns-2 : tie.Need-returns
unfolding survey_of
returns-2 c =
    let q = c.parse_spans-t.result.problem in
    let read = c.parse_spans-t.ensures in
    let good = reading_good _ read.0 c.if-refusal-ne0.false in
    let total = c.pin_count-pins.ensures ∙ total_filled q c.parse_spans-t.result.spans good.columns.1 (width_in good).1 good.ends
    (read.1 c.if-refusal-ne0.false) good.numbered in
    simp (eq-eqb _ _ c.if-refusal-ne0.false) (c.answered.ensures ∙ ap₂ (λ (f : Figures) (k : ℕ). answered q f k) c.figures_of-figures.ensures total)
    ∙ ap surveyed read.0

pub survey_spec : {M : Type 1} → statement M
survey_spec =
    tie.close (tie.spec (λ c κs. search rules) (λ c κs. search rules) returns figures-of-requires (λ c κs. search rules)
    (λ c κs. search rules) returns-2)
