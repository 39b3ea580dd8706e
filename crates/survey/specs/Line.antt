-- The program's line.
--
--   text words        the bytes of a text
--   decimal x         "Other numbers are in base ten": its digits, with no zero in front
--   spelled fuel x    the same, where x has no more digits than fuel
--   field words x     words and then a number
--   begins kind       the kind's word, and "length"
--   counted a         "distinct nets", "`pins P` (all of them) after the nets", "across"
--   box_line a        "(n, w, distinct nets, across, up, layers Lay uses, floor)"
--   trunk_line words a
--                     the line of a row or a channel, which begins with words; "row length 6 nets 3 pins 6 across 2 tracks 2 layers 2"
--   two_layer_line a  "Survey prints `two-layer` and no tracks, and layers 2 even for a solid one"
--   refused_line a    "refused 9 at 1"
--   line_for a, line_of s
--                     the line of an answer and of a ticket; "Each line ends in one newline"
--   longest_line      no line is longer
--   line_length r     the length that survey_line's answer gives: of what was written, or needed
--   Lined s before after r
--                     what survey_line does: it answers the length that the line needs, and whether the buffer has it; the line is written
--                     to the buffer's front, and one that is too short is left as it is
use Rattle.std.specs.Prelude.{ℕ, zero, suc, ◌+◌, ◌/◌, ◌%◌, ◌≤◌, ◌≡◌, cond, List, [], ◌∷◌, ◌++◌, ltb, leb, length, Result, Ok, Err, is_ok}
use Prim.Native.Char.{code}
use Prim.Native.String.{String, [] as end, ◌∷◌ as ◌then◌}
use Rattle.terms.specs.Kinds.{row, channel, box, two_layer, by_kind, word}
use Rattle.terms.specs.Refusals.{accepted, unless}
use Rattle.output.specs.Writing.{written_over}
use Rattle.survey.specs.declared.SurveyAnswer.{SurveyAnswer}
use Rattle.survey.specs.Survey.{survey_of}

abbrev pub text : String → List ℕ
text end = []
text (c then s) = code c ∷ text s

unfoldable pub spelled : ℕ → ℕ → List ℕ
spelled zero x = []
spelled (suc fuel) x = cond (ltb x 10) ((48 + x) ∷ []) (spelled fuel (x / 10) ++ ((48 + x % 10) ∷ []))

abbrev pub decimal : ℕ → List ℕ
decimal x = spelled (suc x) x

abbrev pub field : String → ℕ → List ℕ
field words x = text words ++ decimal x

abbrev pub begins : ℕ → List ℕ
begins kind = text (word kind) ++ text " length "

abbrev pub counted : SurveyAnswer → List ℕ
counted a = field " nets " a.nets ++ field " pins " a.pins ++ field " across " a.across

abbrev pub box_line : SurveyAnswer → List ℕ
box_line a =
    (begins box ++ decimal a.n.0) ++ field " width " a.w.0 ++ counted a ++ field " up " a.up
    ++ field " layers " a.layers.0 ++ field " floor " a.floor.0 ++ text "\n"

abbrev pub trunk_line : List ℕ → SurveyAnswer → List ℕ
trunk_line words a =
    (words ++ decimal a.n.0) ++ counted a ++ field " tracks " a.w.0 ++ field " layers " a.layers.0 ++ text "\n"

abbrev pub two_layer_line : SurveyAnswer → List ℕ
two_layer_line a = (begins two_layer ++ decimal a.n.0) ++ counted a ++ field " layers " a.layers.0 ++ text "\n"

abbrev pub refused_line : SurveyAnswer → List ℕ
refused_line a = field "refused " a.refusal.number ++ field " at " a.refusal.place ++ text "\n"

unfoldable pub line_for : SurveyAnswer → List ℕ
line_for a =
    unless (accepted a.refusal) (refused_line a)
    (by_kind a.kind [] (trunk_line (begins row) a) (trunk_line (begins channel) a) (box_line a) (two_layer_line a))

abbrev pub line_of : List ℕ → List ℕ
line_of s = line_for (survey_of s)

abbrev pub longest_line : ℕ
longest_line = 224

abbrev pub line_length : Result ℕ ℕ → ℕ
line_length (Ok n) = n
line_length (Err n) = n

pub record Lined (s before after : List ℕ) (r : Result ℕ ℕ) : Type 0 where
  pub needed : line_length r ≡ length (line_of s)
  pub short : line_length r ≤ longest_line
  pub written : is_ok r ≡ leb (length (line_of s)) (length before)
  pub bytes : after ≡ written_over (line_of s) before
