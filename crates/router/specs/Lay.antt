-- Lay, given ticket and wiring buffer: its answer, and its whole promise.
--
--   first_of q          "First direction is a yes or no, yes where layer 1 is horizontal": for a box "vertical where n ≥ w, otherwise
--                       horizontal"; else "first vertical"
--   laid_width q        the tracks: those of its figures; for a two-layer channel those that its operations need, a number that the pins
--                       alone tell
--   needed q            "n × w × k"
--   is_solid q          the ticket is a two-layer channel, and solid
--   answered, laid_answer q  "The answer carries kind, n, w, k, first direction, number of nets, across, and for a box up and floor (0
--                            for the other kinds)"
--   refused r           "Each refusal is a number and a place .. the answer's other fields are 0", "a refusal gives no"
--   lay_good q size     Lay's answer to a problem, the buffer having so many bytes: "17 (place 0) from Lay, after Read's and before 10,
--                       exactly when the ticket is solid"; "10, wiring buffer shorter than n × w × k (place: the length needed)"
--   lay_for t size      the same to a reading; "Those of Read", first
--   lay_of s size       the same of a ticket
--   laid_grid r         the grid of the wiring that an answer speaks of: "the result is legal, with the counts above"
--   Lays s before after r   the promise of a call on the ticket s that answers r and leaves the buffer, which was before, as after:
--     answer            number, place and figures
--     untouched         "a call turned down alters no byte of the wiring buffer"
--     laid              "A wiring that we lay is legal"; "Bytes past n × w × k are untouched"
--     narrowest         demand 3, rows and channels: "exactly h horizontal layers and exactly w tracks"; "Every other legal wiring of that
--                       ticket with at most h horizontal layers, whoever drew it, has at least as many tracks": any grid g of the ticket,
--                       any wiring x
--     lowest            demand 3, boxes: "Every other legal wiring of that box, whoever drew it, has at least as many layers as that floor"
--     bounded           two-layer channels: "laid legally on two layers, first vertical, with w tracks, 1 ≤ w and 4w ≤ 7n"
--     unwirable         "A solid one has no legal two-layer wiring of any width": any grid g of the ticket with two layers, of any width
--                       from 1 and either first direction, any wiring x
--     enough            after a good reading a buffer of the length that 10 asks for, or longer, is accepted
--   Outcome q before after r   what the functions that lay one kind's problem promise: the answer, and the buffer
use Rattle.std.specs.Prelude.{ℕ, ◌*◌, ◌≤◌, ◌≡◌, ◌≢◌, Bool, true, false, not, List, leb, ltb, length}
use Rattle.terms.specs.declared.Refusal.{Refusal}
use Rattle.terms.specs.Kinds.{north, south, two_layer, by_kind, tracks_bound, layers_bound}
use Rattle.terms.specs.Refusals.{refusal, accepted, unless}
use Rattle.grid.specs.Grid.{Grid}
use Rattle.grid.specs.Legal.{Wiring, Legal, GridOf}
use Rattle.density.specs.Density.{horizontals}
use Rattle.problem.specs.declared.Problem.{Problem}
use Rattle.problem.specs.Problem.{pins_in}
use Rattle.two_layer_law.specs.Solid.{solid}
use Rattle.two_layer_law.specs.Moves.{width_for}
use Rattle.figures.specs.declared.Figures.{Figures}
use Rattle.figures.specs.Figures.{figures_of}
use Rattle.ticket.specs.declared.Reading.{Reading}
use Rattle.ticket.specs.Read.{ticket_of, problem_of, ticket_pins}
use Rattle.grid.specs.Laid.{Laid}
use Rattle.router.specs.declared.LayAnswer.{LayAnswer}

abbrev pub first_of : Problem → Bool
first_of q = by_kind q.kind false false false (ltb q.n.0 q.byte2) false

abbrev pub laid_width : Problem → ℕ
laid_width q =
    let w = (figures_of q).w.0 in
    by_kind q.kind 0 w w w (width_for (pins_in q.pins north) (pins_in q.pins south) q.n.0)

abbrev pub needed : Problem → ℕ
needed q = q.n.0 * laid_width q * (figures_of q).layers.0

abbrev pub is_solid : Problem → Bool
is_solid q = by_kind q.kind false false false false (solid (pins_in q.pins) q.n.0)

abbrev pub answered : Refusal → Problem → Figures → ℕ → Bool → LayAnswer
answered r q f w first =
    record {
      refusal = r;
      kind = q.kind;
      n = q.n;
      w = record { 0 = w };
      k = f.layers;
      first = first;
      nets = q.nets;
      across = f.across;
      up = f.up;
      floor = f.floor;
    }

abbrev pub laid_answer : Problem → LayAnswer
laid_answer q = answered (refusal 0 0) q (figures_of q) (laid_width q) (first_of q)

abbrev pub refused : Refusal → LayAnswer
refused r =
    record {
      refusal = r;
      kind = 0;
      n = record { 0 = 0 };
      w = record { 0 = 0 };
      k = record { 0 = 0 };
      first = false;
      nets = 0;
      across = 0;
      up = 0;
      floor = record { 0 = 0 };
    }

abbrev pub lay_good : Problem → ℕ → LayAnswer
lay_good q size =
    unless (not (is_solid q)) (refused (refusal 17 0))
    (unless (leb (needed q) size) (refused (refusal 10 (needed q)))
    (laid_answer q))

abbrev pub lay_for : Reading → ℕ → LayAnswer
lay_for t size = unless (accepted t.refusal) (refused t.refusal) (lay_good t.problem size)

unfoldable pub lay_of : List ℕ → ℕ → LayAnswer
lay_of s size = lay_for (ticket_of s) size

abbrev pub laid_grid : LayAnswer → Grid
laid_grid r = record { n = r.n.0; w = r.w.0; k = r.k.0; first = r.first }

pub record Lays (s before after : List ℕ) (r : LayAnswer) : Type 0 where
  pub answer : r ≡ lay_of s (length before)
  pub untouched : r.refusal.number ≢ 0 → after ≡ before
  pub laid : r.refusal.number ≡ 0 → Laid (laid_grid r) (ticket_pins s) before after
  pub narrowest : r.refusal.number ≡ 0 → tracks_bound r.kind ≡ true
      → (horizontals (laid_grid r) ≡ (problem_of s).byte2)
      × ((g : Grid) (x : Wiring) → GridOf r.kind r.n.0 r.w.0 g → Legal g (ticket_pins s) x
      → horizontals g ≤ (problem_of s).byte2 → r.w.0 ≤ g.w)
  pub lowest : r.refusal.number ≡ 0 → layers_bound r.kind ≡ true
      → (g : Grid) (x : Wiring) → GridOf r.kind r.n.0 r.w.0 g → Legal g (ticket_pins s) x → r.floor.0 ≤ g.k
  pub bounded : r.refusal.number ≡ 0 → r.kind ≡ two_layer
      → (1 ≤ r.w.0) × (4 * r.w.0 ≤ 7 * r.n.0) × (r.k.0 ≡ 2) × (r.first ≡ false)
  pub unwirable : (ticket_of s).refusal.number ≡ 0 → is_solid (problem_of s) ≡ true
      → (g : Grid) (x : Wiring) → GridOf two_layer (problem_of s).n.0 0 g → g.k ≡ 2 → ¬ (Legal g (ticket_pins s) x)
  pub enough : (ticket_of s).refusal.number ≡ 0 → r.refusal.number ≡ 10
      → (size : ℕ) → r.refusal.place ≤ size → (lay_of s size).refusal.number ≡ 0

-- ---- between the functions

pub record Outcome (q : Problem) (before after : List ℕ) (r : LayAnswer) : Type 0 where
  pub answer : r ≡ lay_good q (length before)
  pub untouched : r.refusal.number ≢ 0 → after ≡ before
  pub laid : r.refusal.number ≡ 0 → Laid (laid_grid r) (pins_in q.pins) before after
