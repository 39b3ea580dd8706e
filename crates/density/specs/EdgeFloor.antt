-- The edge floor: a lower bound on the layers of a box, beside `floor` and sharper. The floor is the user's, and counts a net once at a
-- column. But a pin's only way out is by a point beside it, so that a net needs a point of column 1 for each of its west pins. The words
-- quoted are the request's.
--
--   pin_beside p near far last c m a
--                        net m has a pin at place a of the near side, if c is the first place along the grid, or of the far side, if c is
--                        the last: "the net has a west pin (column 1) or an east pin (column n)"
--   pins_beside g p near far last c m
--                        "the number of tracks at which" it has one; where n is 1, a track with both counts once
--   need_at g p at near far last c m
--                        of one net "the larger of 1 if it must pass the net (request 6's count) and the number of tracks"
--   column_need g p c    "what a column needs" is that "summed over the nets", here of column c
--   track_need g p c     the same of track c: "tracks likewise with south and north"
--   edge_floor g p       "The sharper a, b and floor from these needs, by the same formula as `floor`"
use Rattle.std.specs.Prelude.{ℕ, max, Bool, ◌&&◌, ◌||◌, eqb}
use Rattle.counting.specs.Counting.{bit, sum, count, most, ceil}
use Rattle.terms.specs.Kinds.{Side, north, south, west, east}
use Rattle.terms.specs.Limits.{largest_net}
use Rattle.grid.specs.Grid.{Grid, Node, places, column_of, track_of}
use Rattle.grid.specs.Legal.{Pins}
use Rattle.density.specs.Density.{box_passes_at, floor}

abbrev pub pin_beside : Pins → Side → Side → ℕ → ℕ → ℕ → ℕ → Bool
pin_beside p near far last c m a = (eqb c 1 && eqb (p near a) m) || (eqb c last && eqb (p far a) m)

abbrev pub pins_beside : Grid → Pins → Side → Side → ℕ → ℕ → ℕ → ℕ
pins_beside g p near far last c m = count (pin_beside p near far last c m) (places g near)

abbrev pub need_at : Grid → Pins → (Node → ℕ) → Side → Side → ℕ → ℕ → ℕ → ℕ
need_at g p at near far last c m = max (bit (box_passes_at g p at near far last c m)) (pins_beside g p near far last c m)

unfoldable pub column_need : Grid → Pins → ℕ → ℕ
column_need g p c = sum (need_at g p (column_of g) west east g.n c) largest_net

unfoldable pub track_need : Grid → Pins → ℕ → ℕ
track_need g p c = sum (need_at g p (track_of g) south north g.w c) largest_net

abbrev pub edge_floor : Grid → Pins → ℕ
edge_floor g p = floor (ceil (most (column_need g p) g.n) g.w) (ceil (most (track_need g p) g.w) g.n)
