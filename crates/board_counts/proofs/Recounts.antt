-- What the calls that look for a net's end places and count anew say together.
use Rattle.std.proofs.Common.{◌≡◌, ℕ, ◌+◌, List, subst}
use Rattle.grid.specs.Legal.{entry}
use Rattle.problem.specs.declared.Problem.{Problem}
use Rattle.board_law.specs.Runs.{Ends, low_along, high_along, box_width, Recounted}
use Rattle.board_sides.specs.Places.{first_in, last_in}
use Rattle.board_sides.specs.declared.places.EndPlaces.{EndPlaces}

-- y is the problem with the net; a is where it stands on south and north, e on west and east
pub record Recounts (y : Problem) (m step : ℕ) (a e : EndPlaces) (columns tracks columns' tracks' : List ℕ) : Type 0 where
  pub along : Ends (entry y.pins.south) (entry y.pins.north) m (first_in a.span) (last_in a.span) a.one a.two
  pub ends : Ends (entry y.pins.west) (entry y.pins.east) m (first_in e.span) (last_in e.span) e.one e.two
  pub on_columns : Recounted (low_along (first_in a.span) e.one (y.n.0 + 1)) (high_along (last_in a.span) e.two (y.n.0 + 1)) y.n.0 step
      columns columns'
  pub on_tracks : Recounted (low_along (first_in e.span) a.one (box_width y + 1)) (high_along (last_in e.span) a.two (box_width y + 1)) (box_width y)
      step
      tracks tracks'

-- of a grid of k places, which are as many as l
pub recounted_along : (k l step : ℕ) (a e : EndPlaces) (old new : List ℕ) → k ≡ l
    → Recounted (low_along (first_in a.span) e.one (k + 1)) (high_along (last_in a.span) e.two (k + 1)) k step old new
    → Recounted (low_along (first_in a.span) e.one (l + 1)) (high_along (last_in a.span) e.two (l + 1)) l step old new
recounted_along k l step a e old new same =
    subst (λ (i : ℕ). Recounted (low_along (first_in a.span) e.one (i + 1)) (high_along (last_in a.span) e.two (i + 1)) i step old new) same
