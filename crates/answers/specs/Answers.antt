-- What an exported call writes into its caller's answer array and what it returns. "number, place, kind, n, byte 2, nets" and the like
-- are the orders of fields that are fixed for the exports.
--
--   bit b                   a yes is 1, a no is 0
--   read_entries a          Read's answer: number, place, kind, n, byte 2, nets
--   survey_entries a        Survey's answer: number, place, kind, n, w, nets, pins, across, up, layers, floor
--   lay_entries a           Lay's answer: number, place, kind, n, w, k, first, nets, across, up, floor
--   check_entries a         Check's answer: number, place
--   view_entries x n w k l  Layer view's answer: number, place, start, length
--   floor_entries a         the answer of the edge floor: number, place, floor, edge floor
--   number_told, place_told r
--                           the number and the place of the answer's refusal; 0 and 0 where there is none
--   written_entries r       the answer of a call that writes a ticket: number, place, length
--   part_told x array       the part of x that entries 2 and 3 of an array, counted from 0, name: its start and its length
--   Answered entries b r a  the call returns r and leaves the array a, which was b: no where b has fewer places than there are entries,
--                           and then b as it was; else yes, the entries, and past those b as it was
--   Tells t .. b r a        there is an answer whose entries the call leaves so, and where r is yes it is Check's answer (Checked) to the
--                           reading t, w, k, first, the wiring x and the scratch y, which is left y'
use Rattle.std.specs.Prelude.{Result, Ok, Err, ℕ, ◌≡◌, Bool, true, cond, List, [], ◌∷◌, ◌++◌, leb, length, get_or, take, drop}
use Rattle.view.specs.View.{view_refusal, view_start, view_length}
use Rattle.ticket.specs.declared.Reading.{Reading}
use Rattle.ticket.specs.declared.ReadAnswer.{ReadAnswer}
use Rattle.survey.specs.declared.SurveyAnswer.{SurveyAnswer}
use Rattle.edge_floor.specs.declared.EdgeFloorAnswer.{EdgeFloorAnswer}
use Rattle.router.specs.declared.LayAnswer.{LayAnswer}
use Rattle.terms.specs.declared.Refusal.{Refusal}
use Rattle.output.specs.Writing.{written_length}
use Rattle.checker.specs.Check.{Checked}

abbrev pub bit : Bool → ℕ
bit b = cond b 1 0

abbrev pub read_entries : ReadAnswer → List ℕ
read_entries a = a.refusal.number ∷ a.refusal.place ∷ a.kind ∷ a.n.0 ∷ a.byte2 ∷ a.nets ∷ []

abbrev pub survey_entries : SurveyAnswer → List ℕ
survey_entries a =
    a.refusal.number ∷ a.refusal.place ∷ a.kind ∷ a.n.0 ∷ a.w.0 ∷ a.nets ∷ a.pins ∷ a.across ∷ a.up ∷ a.layers.0
    ∷ a.floor.0 ∷ []

abbrev pub lay_entries : LayAnswer → List ℕ
lay_entries a =
    a.refusal.number ∷ a.refusal.place ∷ a.kind ∷ a.n.0 ∷ a.w.0 ∷ a.k.0 ∷ bit
    a.first ∷ a.nets ∷ a.across ∷ a.up ∷ a.floor.0 ∷ []

abbrev pub check_entries : Refusal → List ℕ
check_entries a = a.number ∷ a.place ∷ []

abbrev pub view_entries : List ℕ → ℕ → ℕ → ℕ → ℕ → List ℕ
view_entries x n w k l =
    (view_refusal x n w k l).number ∷ (view_refusal x n w k l).place ∷ view_start x n w k l ∷ view_length x n w k l ∷ []

abbrev pub floor_entries : EdgeFloorAnswer → List ℕ
floor_entries a = a.refusal.number ∷ a.refusal.place ∷ a.floor.0 ∷ a.edge.0 ∷ []

abbrev pub number_told : Result ℕ Refusal → ℕ
number_told (Ok length) = 0
number_told (Err r) = r.number

abbrev pub place_told : Result ℕ Refusal → ℕ
place_told (Ok length) = 0
place_told (Err r) = r.place

abbrev pub written_entries : Result ℕ Refusal → List ℕ
written_entries r = number_told r ∷ place_told r ∷ written_length r ∷ []

abbrev pub part_told : List ℕ → List ℕ → List ℕ
part_told x array = take (get_or array 3 0) (drop (get_or array 2 0) x)

pub record Answered (entries before : List ℕ) (r : Bool) (after : List ℕ) : Type 0 where
  pub room : r ≡ leb (length entries) (length before)
  pub stored : after ≡ cond r (entries ++ drop (length entries) before) before

pub record Tells (t : Reading) (w k : ℕ) (first : Bool) (x y y' before : List ℕ) (r : Bool) (after : List ℕ) : Type 0 where
  pub told : Refusal
  pub entries : Answered (check_entries told) before r after
  pub checked : r ≡ true → Checked t w k first x y y' told
