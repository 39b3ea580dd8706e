-- Where the ticket has the pin that stands at a place of a turned or mirrored box. The moved box's pins are moved_pins (image o g) p.
--
--   diagonal s             the side that s is in the turn
--   mirror_side φ ψ s      the side that s is in the mirror: reversed columns, φ, exchange west and east; reversed tracks, ψ, south and
--                          north
--   mirror_order φ ψ s     whether the places of side s run in reverse in the mirror
--   own_side o s           the ticket's side that the moved box has at its side s
--   is_reversed o s        whether its places run in reverse there
--   own_place r n i        place i of n, counted from the other end where r
--   by_side a b c d s      of four things, one for each side, that of side s
--   own_list o a b c d s   the ticket's list of the side that the moved box has at its side s; a to d are north, south, west and east
--   on_lines o p s c       the pin that the moved box has at its side s on the ticket's line c
use Rattle.std.specs.Prelude.{ℕ, ◌+◌, ◌-◌, Bool, cond}
use Rattle.terms.specs.Kinds.{Side, north, south, west, east}
use Rattle.grid.specs.Legal.{Pins}
use Rattle.grid.specs.Motion.{Orientation}

abbrev pub diagonal : Side → Side
diagonal north = east
diagonal east = north
diagonal south = west
diagonal west = south

abbrev pub mirror_side : Bool → Bool → Side → Side
mirror_side φ ψ north = cond ψ south north
mirror_side φ ψ south = cond ψ north south
mirror_side φ ψ west = cond φ east west
mirror_side φ ψ east = cond φ west east

abbrev pub mirror_order : Bool → Bool → Side → Bool
mirror_order φ ψ north = φ
mirror_order φ ψ south = φ
mirror_order φ ψ west = ψ
mirror_order φ ψ east = ψ

abbrev pub own_side : Orientation → Side → Side
own_side o s = mirror_side o.columns_reversed o.tracks_reversed (cond o.turned (diagonal s) s)

abbrev pub is_reversed : Orientation → Side → Bool
is_reversed o s = mirror_order o.columns_reversed o.tracks_reversed (cond o.turned (diagonal s) s)

abbrev pub own_place : Bool → ℕ → ℕ → ℕ
own_place r n i = cond r (n + 1 - i) i

abbrev pub by_side : {A : Type 0} → A → A → A → A → Side → A
by_side a b c d north = a
by_side a b c d south = b
by_side a b c d west = c
by_side a b c d east = d

abbrev pub own_list : {A : Type 0} → Orientation → A → A → A → A → Side → A
own_list o a b c d s = by_side a b c d (own_side o s)

abbrev pub on_lines : Orientation → Pins → Pins
on_lines o p s c = p (own_side o s) c
