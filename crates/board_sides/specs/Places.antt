-- Where two sides across from each other have a net, as the numbers that the law of a board's counts speaks of.
--
--   first_in span     the first place, past every place where there is none
--   last_in span      the last place, 0 where there is none
use Rattle.std.specs.Prelude.{ℕ, Option, Some, None}
use Rattle.board_law.specs.Runs.{no_place}
use Rattle.board_sides.specs.declared.places.Span.{Span}

abbrev pub first_in : Option Span → ℕ
first_in (Some s) = s.first
first_in None = no_place

abbrev pub last_in : Option Span → ℕ
last_in (Some s) = s.last
last_in None = 0
