-- What the functions that list a ticket's nets answer and ask on the way. No promise of a public call cites it.
--
--   Extent s on from p end   a side of p places that stands (on) has its map and its nets from byte from to byte end of the ticket; one
--                            that does not has no byte
--   Extents s e              all four sides, each from the end of the one before
--   Sited s ps               the pins are nets or empty, and none is past its side's end, by the sizes that the header says
--   reading_of r             what was read, apart from the spans
use Rattle.std.specs.Prelude.{ℕ, ◌+◌, ◌≤◌, ◌<◌, ◌≡◌, Bool, true, false, List, length}
use Rattle.terms.specs.Limits.{longest_side, largest_net}
use Rattle.terms.specs.Kinds.{Side}
use Rattle.grid.specs.Grid.{places}
use Rattle.problem.specs.declared.Pins.{Pins}
use Rattle.problem.specs.Problem.{pins_in, shape_of}
use Rattle.ticket_sides.specs.Format.{byte, is_on, standing_bits, map_bytes}
use Rattle.ticket_sides.specs.declared.Ends.{Ends}
use Rattle.ticket.specs.Read.{problem_at}
use Rattle.ticket.specs.declared.Parsed.{Parsed}
use Rattle.ticket.specs.declared.Reading.{Reading}

pub record Extent (s : List ℕ) (on : Bool) (from p end : ℕ) : Type 0 where
  pub stands : on ≡ true → end ≡ from + map_bytes p + standing_bits s from p
  pub lacks : on ≡ false → end ≡ from
  pub start : from ≤ end
  pub size : end ≤ length s

pub record Extents (s : List ℕ) (e : Ends) : Type 0 where
  pub north : Extent s (is_on (byte s 3) 0) 4 (byte s 1) e.north.at
  pub south : Extent s (is_on (byte s 3) 1) e.north.at (byte s 1) e.south.at
  pub west : Extent s (is_on (byte s 3) 2) e.south.at (byte s 2) e.west.at
  pub east : Extent s (is_on (byte s 3) 3) e.west.at (byte s 2) e.east.at

pub record Sited (s : List ℕ) (ps : Pins) : Type 0 where
  pub numbered : (side : Side) (a : ℕ) → pins_in ps side a ≤ largest_net
  pub ends : (side : Side) (a : ℕ) → places (shape_of (problem_at s 0 ps)) side < a → pins_in ps side a ≡ 0
  pub fits : (side : Side) → places (shape_of (problem_at s 0 ps)) side ≤ longest_side

abbrev pub reading_of : Parsed → Reading
reading_of r = record { refusal = r.refusal; problem = r.problem }
