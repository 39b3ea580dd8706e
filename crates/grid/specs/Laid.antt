-- What a crate that lays a ticket's wiring promises of the buffer.
--
--   Laid g p before after   the buffer holds a legal wiring of the grid g with the pins p, and "Bytes past n × w × k are untouched"
use Rattle.std.specs.Prelude.{ℕ, ◌*◌, ◌≤◌, ◌≡◌, List, length, get_or}
use Rattle.grid.specs.Grid.{Grid}
use Rattle.grid.specs.Legal.{Pins, Legal, wiring_of}

pub record Laid (g : Grid) (p : Pins) (before after : List ℕ) : Type 0 where
  pub legal : Legal g p (wiring_of g after)
  pub long : length after ≡ length before
  pub others : (b : ℕ) → g.n * g.w * g.k ≤ b → get_or after b 0 ≡ get_or before b 0
