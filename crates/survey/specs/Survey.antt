-- Survey: the figures of a ticket.
--
--   answered q f pins, refused r, surveyed t
--                 Survey's answer to a reading: the problem's figures and pins, or "Those of Read" with "the answer's other fields .. 0"
--   survey_of s   Survey's answer to a ticket
use Rattle.std.specs.Prelude.{ℕ, List}
use Rattle.terms.specs.declared.Refusal.{Refusal}
use Rattle.terms.specs.Refusals.{refusal, accepted, unless}
use Rattle.problem.specs.declared.Problem.{Problem}
use Rattle.problem.specs.Problem.{pins_in, filled}
use Rattle.figures.specs.declared.Figures.{Figures}
use Rattle.figures.specs.Figures.{figures_of}
use Rattle.ticket.specs.declared.Reading.{Reading}
use Rattle.ticket.specs.Read.{ticket_of}
use Rattle.survey.specs.declared.SurveyAnswer.{SurveyAnswer}

abbrev pub answered : Problem → Figures → ℕ → SurveyAnswer
answered q f pins =
    record {
      refusal = refusal 0 0;
      kind = q.kind;
      n = q.n;
      w = f.w;
      nets = q.nets;
      pins = pins;
      across = f.across;
      up = f.up;
      layers = f.layers;
      floor = f.floor;
    }

abbrev pub refused : Refusal → SurveyAnswer
refused r =
    record {
      refusal = r;
      kind = 0;
      n = record { 0 = 0 };
      w = record { 0 = 0 };
      nets = 0;
      pins = 0;
      across = 0;
      up = 0;
      layers = record { 0 = 0 };
      floor = record { 0 = 0 };
    }

abbrev pub surveyed : Reading → SurveyAnswer
surveyed t =
    unless (accepted t.refusal) (refused t.refusal)
    (answered t.problem (figures_of t.problem) (filled (pins_in t.problem.pins)))

unfoldable pub survey_of : List ℕ → SurveyAnswer
survey_of s = surveyed (ticket_of s)
