-- The bytes that the program reads tell its line: the first longest_ticket + 1 bytes of any input have the line of the whole.
use Prim.Native.Nat.{ℕ, ◌+◌}
use mathlib.Core.List.{List}
use mathlib.Core.Path.{◌≡◌, ap}
use lib.ListN.{take}
use Rattle.ticket.proofs.Longest.{first_bytes}
use Rattle.ticket_sides.specs.Format.{longest_ticket}
use Rattle.ticket.specs.declared.Reading.{Reading}
use Rattle.survey.specs.Line.{line_for, line_of}
use Rattle.survey.specs.Survey.{survey_of, surveyed}

pub first_line : (s : List ℕ) → line_of (take (longest_ticket + 1) s) ≡ line_of s
unfolding survey_of
first_line s = ap (λ (t : Reading). line_for (surveyed t)) (first_bytes s)
