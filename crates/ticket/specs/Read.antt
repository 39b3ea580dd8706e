-- Read: what a ticket says, or its first refusal, in document 01's order. The header and the sides, refusals 1 to 7, are read as Format and
-- Stages of crate ticket_sides say.
--
--   pins_at s ends             the nets of each side; a side starts where the one before it ends
--   left_over s i              "8, bytes left over (the first)"
--   no_lone lone               "9, a net with one pin (the smallest such net)"
--   no_problem                 "the answer's other fields are 0"; there are no pins
--   problem_at s k ps          what the header says, with the number of nets and the pins
--   or_refused c r             r, or the refusal that c holds
--   judged s ps                the last test, once all bytes are read
--   ticket_of s                the whole reading: the first refusal, or the problem that the ticket states
--   read_of s                  Read's answer: "Otherwise number and place are 0: Read gives kind, n, byte 2 and the number of nets"
--   problem_of, ticket_pins s  the problem of an accepted ticket, and its pins
use Rattle.std.specs.Prelude.{ℕ, List, length, replicate, leb, eqb}
use Rattle.terms.specs.Limits.{longest_side}
use Rattle.terms.specs.Refusals.{refusal, accepted, unless}
use Rattle.grid.specs.Legal.{Pins as GridPins}
use Rattle.problem.specs.declared.Pins.{Pins}
use Rattle.problem.specs.declared.Problem.{Problem}
use Rattle.problem.specs.Problem.{pins_in, net_count, lone_net}
use Rattle.ticket_sides.specs.Format.{byte, is_on, side_nets}
use Rattle.ticket_sides.specs.Stages.{stop, go_on, header_of, east_end, ends_of}
use Rattle.ticket_sides.specs.declared.Cursor.{Cursor}
use Rattle.ticket_sides.specs.declared.Ends.{Ends}
use Rattle.ticket.specs.declared.ReadAnswer.{ReadAnswer}
use Rattle.ticket.specs.declared.Reading.{Reading}

abbrev pub pins_at : List ℕ → Ends → Pins
pins_at s e =
    record {
      north = side_nets s (is_on (byte s 3) 0) 4 (byte s 1);
      south = side_nets s (is_on (byte s 3) 1) e.north.at (byte s 1);
      west = side_nets s (is_on (byte s 3) 2) e.south.at (byte s 2);
      east = side_nets s (is_on (byte s 3) 3) e.west.at (byte s 2);
    }

abbrev pub left_over : List ℕ → ℕ → Cursor
left_over s i = unless (leb (length s) i) (stop 8 i) (go_on i)

abbrev pub no_lone : ℕ → Cursor
no_lone lone = unless (eqb lone 0) (stop 9 lone) (go_on 0)

abbrev pub empty_pins : Pins
empty_pins =
    record {
      north = replicate longest_side 0;
      south = replicate longest_side 0;
      west = replicate longest_side 0;
      east = replicate longest_side 0;
    }

abbrev pub no_problem : Problem
no_problem = record { kind = 0; n = record { 0 = 0 }; byte2 = 0; nets = 0; pins = empty_pins }

abbrev pub problem_at : List ℕ → ℕ → Pins → Problem
problem_at s k ps = record { kind = byte s 0; n = record { 0 = byte s 1 }; byte2 = byte s 2; nets = k; pins = ps }

abbrev pub refused_reading : Cursor → Reading
refused_reading c = record { refusal = c.refusal; problem = no_problem }

abbrev pub accepted_reading : Problem → Reading
accepted_reading q = record { refusal = refusal 0 0; problem = q }

abbrev pub or_refused : Cursor → Reading → Reading
or_refused c r = unless (accepted c.refusal) (refused_reading c) r

abbrev pub judged : List ℕ → Pins → Reading
judged s ps = or_refused (no_lone (lone_net (pins_in ps))) (accepted_reading (problem_at s (net_count (pins_in ps)) ps))

unfoldable pub ticket_of : List ℕ → Reading
ticket_of s =
    or_refused (header_of s)
    (or_refused (east_end s)
    (or_refused (left_over s (east_end s).at)
    (judged s (pins_at s (ends_of s)))))

abbrev pub problem_of : List ℕ → Problem
problem_of s = (ticket_of s).problem

abbrev pub answer_of : Reading → ReadAnswer
answer_of r = record { refusal = r.refusal; kind = r.problem.kind; n = r.problem.n; byte2 = r.problem.byte2; nets = r.problem.nets }

abbrev pub read_of : List ℕ → ReadAnswer
read_of s = answer_of (ticket_of s)

abbrev pub ticket_pins : List ℕ → GridPins
ticket_pins s = pins_in (problem_of s).pins
