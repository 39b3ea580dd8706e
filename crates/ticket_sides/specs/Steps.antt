-- What the functions that read a ticket's header and sides answer and ask on the way. No promise of a public call cites it.
--
--   map_count s from p  how many places of a good map have a pin, 0 for one that is not good
--   Header s            the header's ranges
use Rattle.std.specs.Prelude.{ℕ, ◌≤◌, cond, List, length}
use Rattle.counting.specs.Counting.{In}
use Rattle.terms.specs.Limits.{longest_side}
use Rattle.ticket_sides.specs.Format.{byte, standing_bits, good_map}

abbrev pub map_count : List ℕ → ℕ → ℕ → ℕ
map_count s from p = cond (good_map s from p) (standing_bits s from p) 0

pub record Header (s : List ℕ) : Type 0 where
  pub size : 4 ≤ length s
  pub one : In (byte s 1) longest_side
  pub two : In (byte s 2) longest_side
