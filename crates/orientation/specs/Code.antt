-- What the pin lookup promises of the values that it takes and returns.
--
--   side_named s           the side that a value of the code's enum is
--   orientation_of o       the orientation that a value of the code's struct is
--   LooksUp o s t r        "The pin lookup shall reach the right pin by computing its place, shown in all eight orientations to be the pin
--                          that the turned or mirrored ticket has there". Of the box moved by o, side s is the ticket's side t, which has
--                          as many places (`long`); and whatever the grid and the pins, at each place i it holds what the ticket holds at
--                          place i of t, counted from the other end where r (`net`)
use Rattle.std.specs.Prelude.{ℕ, ◌≡◌, Bool}
use Rattle.terms.specs.Kinds.{north, south, west, east}
use Rattle.terms.specs.Kinds as kinds
use Rattle.grid.specs.Grid.{Grid, places}
use Rattle.grid.specs.Legal.{Pins}
use Rattle.grid.specs.Motion.{image, moved_grid, moved_pins}
use Rattle.grid.specs.Motion as motion
use Rattle.orientation.specs.declared.Side.{Side}
use Rattle.orientation.specs.declared.Side.TheVariants.{North, South, West, East}
use Rattle.orientation.specs.declared.Orientation.{Orientation}
use Rattle.orientation.specs.Lookup.{own_side, is_reversed, own_place}

abbrev pub side_named : Side → kinds.Side
side_named North = north
side_named South = south
side_named West = west
side_named East = east

abbrev pub orientation_of : Orientation → motion.Orientation
orientation_of o = record { turned = o.turned; columns_reversed = o.columns_reversed; tracks_reversed = o.tracks_reversed }

pub record LooksUp (o : motion.Orientation) (s t : kinds.Side) (r : Bool) : Type 0 where
  pub side : t ≡ own_side o s
  pub order : r ≡ is_reversed o s
  pub long : (g : Grid) → places g t ≡ places (moved_grid o g) s
  pub net : (g : Grid) (p : Pins) (i : ℕ) → moved_pins (image o g) p s i ≡ p t (own_place r (places g t) i)
