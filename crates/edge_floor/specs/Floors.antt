-- The two floors of a ticket: Survey's, which was demanded, and the edge floor beside it.
--
--   answered q, refused r, told t
--                 the answer to a reading: both floors, "0 and 0 for kinds that are no box", or "Read's refusals", and then 0 and 0
--   floors_of s   the answer to a ticket
--   TellsFloors s r   the promise of a call on the ticket s that answers r:
--     answer      number, place and both floors
--     demanded    the first of them is Survey's floor
--     sharper     the edge floor is at least that
--     lowest      "EVERY legal wiring of the box, any k, either first direction, has at least that many layers": any grid g of the
--                 ticket, any wiring x
use Rattle.std.specs.Prelude.{ℕ, ◌≤◌, ◌≡◌, true, List}
use Rattle.terms.specs.declared.Refusal.{Refusal}
use Rattle.terms.specs.Kinds.{by_kind, layers_bound}
use Rattle.terms.specs.Refusals.{refusal, accepted, unless}
use Rattle.grid.specs.Grid.{Grid}
use Rattle.grid.specs.Legal.{Wiring, Legal, GridOf}
use Rattle.density.specs.EdgeFloor.{edge_floor}
use Rattle.problem.specs.declared.Problem.{Problem}
use Rattle.problem.specs.Problem.{pins_in, shape_of}
use Rattle.figures.specs.Figures.{figures_of}
use Rattle.ticket.specs.declared.Reading.{Reading}
use Rattle.ticket.specs.Read.{ticket_of, problem_of, ticket_pins}
use Rattle.survey.specs.Survey.{survey_of}
use Rattle.edge_floor.specs.declared.EdgeFloorAnswer.{EdgeFloorAnswer}

abbrev pub answered : Problem → EdgeFloorAnswer
answered q =
    record {
      refusal = refusal 0 0;
      floor = (figures_of q).floor;
      edge = record { 0 = by_kind q.kind 0 0 0 (edge_floor (shape_of q) (pins_in q.pins)) 0 };
    }

abbrev pub refused : Refusal → EdgeFloorAnswer
refused r = record { refusal = r; floor = record { 0 = 0 }; edge = record { 0 = 0 } }

abbrev pub told : Reading → EdgeFloorAnswer
told t = unless (accepted t.refusal) (refused t.refusal) (answered t.problem)

unfoldable pub floors_of : List ℕ → EdgeFloorAnswer
floors_of s = told (ticket_of s)

pub record TellsFloors (s : List ℕ) (r : EdgeFloorAnswer) : Type 0 where
  pub answer : r ≡ floors_of s
  pub demanded : r.floor ≡ (survey_of s).floor
  pub sharper : r.floor.0 ≤ r.edge.0
  pub lowest : r.refusal.number ≡ 0 → let q = problem_of s in layers_bound q.kind ≡ true
      → (g : Grid) (x : Wiring) → GridOf q.kind q.n.0 q.byte2 g → Legal g (ticket_pins s) x → r.edge.0 ≤ g.k
