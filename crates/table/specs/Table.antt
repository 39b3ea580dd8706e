-- Document 01's "Tickets for the proof table", a field for each row, and the lines that "The program" quotes; then two-layer channels
-- (document 02, job 1) and the box of its job 6. Their bytes: Tickets.antt.
--
--   figures kind n w nets pins across up layers floor
--                       Survey's whole answer to a good ticket; "(n, w, distinct nets, across, up, layers Lay uses, floor)", and "pins P
--                       .. after the nets" of document 02, job 2: "8 in document 01's box line and 6 in R1's"
--   good_read kind n byte2 nets, refused_read number place
--                       Read's whole answer to a good ticket, and to one that is refused
--   Refused s number place
--                       Read and Survey both refuse the ticket s; "Survey. Those of Read."
--   nets_through q c    how many nets column c must pass, of a problem q; "Column c (1 to n) must pass a net that .."
--   Gives s w k first x a
--                       Check's answer to the ticket s and the wiring x is a, whatever is in its scratch, if that is long enough
--   LayRefuses s number place
--                       Lay refuses the ticket s, whatever the buffer
--   LaidOn s n w        Lay asks for n × w × 2 bytes for the ticket s, and with them answers w tracks, two layers, the first vertical
--   ProofTable          all rows; "These are shown by proof as one computed table"
use Rattle.std.specs.Prelude.{ℕ, ◌*◌, ◌≤◌, ◌≡◌, Bool, true, false, List, [], ◌∷◌, length}
use Rattle.grid.specs.Grid.{upright}
use Rattle.terms.specs.Kinds.{row, channel, box, two_layer}
use Rattle.grid.specs.Legal.{Legal, nets, wiring_of}
use Rattle.density.specs.Density.{passes}
use Rattle.ticket.specs.declared.ReadAnswer.{ReadAnswer}
use Rattle.problem.specs.declared.Problem.{Problem}
use Rattle.problem.specs.Problem.{pins_in, shape_of}
use Rattle.ticket.specs.Read.{ticket_of, problem_of, read_of, ticket_pins}
use Rattle.survey.specs.declared.SurveyAnswer.{SurveyAnswer}
use Rattle.survey.specs.Survey.{refused as refused_survey, survey_of}
use Rattle.terms.specs.declared.Refusal.{Refusal}
use Rattle.terms.specs.Refusals.{refusal}
use Rattle.survey.specs.Line.{text, line_of}
use Rattle.checker.specs.Check.{Checked}
use Rattle.router.specs.Lay.{refused as refused_lay, lay_of}
use Rattle.table.specs.Tickets.{r1, r2, r3, c1, c2, c3, d1, d2, d3, d4, d5, d6, b1, b2, b3, t1, t2, t3, t4, longest, k1, k3, example}

abbrev pub figures : ℕ → ℕ → ℕ → ℕ → ℕ → ℕ → ℕ → ℕ → ℕ → SurveyAnswer
figures kind n w nets pins across up layers floor =
    record {
      refusal = refusal 0 0;
      kind = kind;
      n = record { 0 = n };
      w = record { 0 = w };
      nets = nets;
      pins = pins;
      across = across;
      up = up;
      layers = record { 0 = layers };
      floor = record { 0 = floor };
    }

abbrev pub good_read : ℕ → ℕ → ℕ → ℕ → ReadAnswer
good_read kind n byte2 nets = record { refusal = refusal 0 0; kind = kind; n = record { 0 = n }; byte2 = byte2; nets = nets }

abbrev pub refused_read : ℕ → ℕ → ReadAnswer
refused_read number place = record { refusal = refusal number place; kind = 0; n = record { 0 = 0 }; byte2 = 0; nets = 0 }

abbrev pub Refused : List ℕ → ℕ → ℕ → Type 0
Refused s number place = (read_of s ≡ refused_read number place) × (survey_of s ≡ refused_survey (refusal number place))

abbrev pub nets_through : Problem → ℕ → ℕ
nets_through q c = nets (passes (shape_of q) (pins_in q.pins) c)

abbrev pub Gives : List ℕ → ℕ → ℕ → Bool → List ℕ → Refusal → Type 0
Gives s w k first x a = (y y' : List ℕ) (r : Refusal) → length x ≤ length y → Checked (ticket_of s) w k first x y y' r → r ≡ a

abbrev pub LayRefuses : List ℕ → ℕ → ℕ → Type 0
LayRefuses s number place = (size : ℕ) → lay_of s size ≡ refused_lay (refusal number place)

abbrev pub LaidOn : List ℕ → ℕ → ℕ → Type 0
LaidOn s n w =
    (lay_of s 0 ≡ refused_lay (refusal 10 (n * w * 2)))
    × ((lay_of s (n * w * 2)).refusal.number ≡ 0)
    × ((lay_of s (n * w * 2)).w.0 ≡ w)
    × ((lay_of s (n * w * 2)).k.0 ≡ 2)
    × ((lay_of s (n * w * 2)).first ≡ false)

pub record ProofTable : Type 0 where
  -- "R1: 01 06 01 01 3F 01 02 01 03 02 03: across 2, tracks 2, layers 2."
  pub R1 : survey_of r1 ≡ figures row 6 2 3 6 2 0 2 0
  -- "R2: R1 with byte 2 = 02: tracks 1, layers 4."
  pub R2 : survey_of r2 ≡ figures row 6 1 3 6 2 0 4 0
  -- "R3: 01 06 01 00: across 0, tracks 1, layers 2."
  pub R3 : survey_of r3 ≡ figures row 6 1 0 0 0 0 2 0
  -- "C1: channel, n 2, h 1, north 1 2, south 2 1: across 2, tracks 2, layers 3."
  pub C1 : survey_of c1 ≡ figures channel 2 2 2 4 2 0 3 0
  -- "C2: n 3, h 1, north 1 1 empty, south empty 2 2: across 2, through column 2." Columns 1 and 3 must pass one net each.
  pub C2 : (survey_of c2 ≡ figures channel 3 2 2 4 2 0 3 0)
      × (nets_through (problem_of c2) 1 ≡ 1)
      × (nets_through (problem_of c2) 2 ≡ 2)
      × (nets_through (problem_of c2) 3 ≡ 1)
  -- "C3: n 1, h 1, north 1, south 1: across 0, tracks 1."
  pub C3 : survey_of c3 ≡ figures channel 1 1 1 2 0 0 3 0
  -- n 2, north 1 2, south 2 1 is solid: Lay gives 17 at 0, and "Survey prints `two-layer` and no tracks, and layers 2 even for a solid one"
  pub D1 : LayRefuses d1 17 0 × (survey_of d1 ≡ figures two_layer 2 0 2 4 2 0 2 0)
  -- the same with one pin less: "9, a net with one pin (the smallest such net)"
  pub D2 : Refused d2 9 1 × LayRefuses d2 9 1
  -- the same with an empty column beside it: three tracks
  pub D3 : LaidOn d3 3 3
  -- n 4, north 1 2 1 2, south 2 1 2 1, the most tracks for the length: "4w ≤ 7n" is 28 ≤ 28
  pub D4 : LaidOn d4 4 7 × (survey_of d4 ≡ figures two_layer 4 0 2 8 2 0 2 0)
  pub D4_line : line_of d4 ≡ text "two-layer length 4 nets 2 pins 8 across 2 layers 2\n"
  -- n 2, north 1 2, south 1 2: every place is filled, and no net's pins are in different columns
  pub D5 : LaidOn d5 2 1
  -- "byte 2 always 1"
  pub D6 : Refused d6 4 2
  -- "B1: 1 by 1, north 1, west 1: across 1, up 1, layers 6, floor 2."
  pub B1 : survey_of b1 ≡ figures box 1 1 1 2 1 1 6 2
  -- "B2: 2 by 2, north 1 2, south 2 1: across 2, up 2, floor 2."
  pub B2 : survey_of b2 ≡ figures box 2 2 2 4 2 2 6 2
  -- "A box 1 long and 2 wide with both west pins on one net gets floor 1"; "That box now has floor 2"
  pub B3 : survey_of b3 ≡ figures box 1 2 1 2 1 1 8 2
  pub B3_line : line_of b3 ≡ text "box length 1 width 2 nets 1 pins 2 across 1 up 1 layers 8 floor 2\n"
  -- "T1: 01 02 01 01 03 01: 1 at 6."
  pub T1 : Refused t1 1 6
  -- "T2: 01 02 01 01 03 01 02: 9 at 1."
  pub T2 : Refused t2 9 1
  -- "T3: 01 02 01 01 07 01 01: 6 at 4."
  pub T3 : Refused t3 6 4
  -- "T4: 01 5B 01 00: 3 at 1; 01 5A 01 00 passes."
  pub T4 : Refused t4 3 1 × (read_of longest ≡ good_read row 90 1 0)
  -- "K1: row n 2, north 1 1, w 1, k 2, first vertical: points 1 1, 1 1 legal; 1 1, 0 0 gives 15 at 1."
  pub K1 : Legal (upright 2 1 2) (ticket_pins k1) (wiring_of (upright 2 1 2) (1 ∷ 1 ∷ 1 ∷ 1 ∷ []))
      × Gives k1 1 2 false (1 ∷ 1 ∷ 1 ∷ 1 ∷ []) (refusal 0 0)
      × Gives k1 1 2 false (1 ∷ 1 ∷ 0 ∷ 0 ∷ []) (refusal 15 1)
  -- "K2: the same row, k 1, first horizontal, points 1 1: 15 at 1, since north pins don't reach a horizontal layer."
  pub K2 : Gives k1 1 1 true (1 ∷ 1 ∷ []) (refusal 15 1)
  -- "K3: row n 3, north 1 1 empty, w 1, k 2, first vertical: points 1 1 1, 1 1 0 give 15 at 1."
  pub K3 : Gives k3 1 2 false (1 ∷ 1 ∷ 1 ∷ 1 ∷ 1 ∷ 0 ∷ []) (refusal 15 1)
  -- "For 03 04 01 03 0F 01 02 03 04 0F 04 03 02 01 it prints exactly box length 4 width 1 nets 4 across 4 up 4 layers 12 floor 7";
  -- with "pins P"
  pub example_figures : survey_of example ≡ figures box 4 1 4 8 4 4 12 7
  pub example_line : line_of example ≡ text "box length 4 width 1 nets 4 pins 8 across 4 up 4 layers 12 floor 7\n"
  -- "For R1 below: row length 6 nets 3 across 2 tracks 2 layers 2."; with "pins P"
  pub R1_line : line_of r1 ≡ text "row length 6 nets 3 pins 6 across 2 tracks 2 layers 2\n"
  -- "Refused: refused 9 at 1. Each line ends in one newline."
  pub T2_line : line_of t2 ≡ text "refused 9 at 1\n"
