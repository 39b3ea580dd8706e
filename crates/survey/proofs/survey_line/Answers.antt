-- `survey::survey_line`: what is delivered is the line of Survey's answer.
use Rattle.std.proofs.Common.{◌≡◌, ap, ◌∙◌, length, rules, arith}
use Rattle.std.specs.Prelude.{Ok, Err, MatchResult, ◌≤◌}
use Rattle.output.proofs.Laws.{wrote_as}
use Rattle.survey.specs.Line.{line_for, line_of, longest_line}
use Rattle.survey.specs.declared.SurveyAnswer.{SurveyAnswer}
use Rattle.survey.proofs.Lines.{lined}
use Rattle.survey.proofs.survey_line.Goals as goal

pub returns : goal.returns
returns c =
    let s = c.args.ticket.now in
    let same = c.line_for-line.ensures.says.bytes ∙ ap line_for c.survey.ensures in
    let short : length (line_of s) ≤ longest_line =
    omega (arith, c.line_for-line.ensures.says.size, ap (λ (a : SurveyAnswer). length (line_for a)) c.survey.ensures) in
    let told : MatchResult c.deliver.result (λ n. c.map_err.result ≡ Ok n) (λ e. c.map_err.result ≡ Err e.place) = search rules in
    lined s short (wrote_as (c.as_slice.ensures ∙ same) c.deliver.ensures) told
