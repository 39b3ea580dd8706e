-- The kinds of ticket: one line of a table for each, and nothing else in the repository says what a kind is.
--
--   Side                      the four sides of the grid
--   row, channel, box         "kind: 1 row, 2 channel, 3 box"
--   two_layer                 "Kind 4 is such a channel: sides as kind 2, byte 2 always 1" (document 02, job 1)
--   by_kind kind none r c b t what stands in the kind's line of a column of the table; none for a number that is no kind
--   is_kind kind              the number is a kind's
--   word kind                 what the survey's line begins with; "Channels print channel likewise", "Survey prints
--                             `two-layer`"
--   has_side kind s           the kind has pins on side s: "A row may have bit 0, a channel bits 0 and 1, a box all four"
--   largest_side_map kind     the same as the byte in which all these bits stand: "bit 0 north, 1 south, 2 west, 3 east; bits 4 to 7 zero"
--   largest_byte2 kind        "Byte 2: for a box, w, 1 to 90; otherwise h, the number of trunk (horizontal) layers, 1 to 8"; "byte 2
--                             always 1"
--   has_own_width kind        byte 2 is the width of every wiring of the ticket: "A wiring of a ticket has the ticket's n and, for a box,
--                             its w"
--   widest kind byte2         the greatest w that Check takes: "w outside 1 to 90, or not a box's own w"; "157 for this kind"
--   quotient n w              "q = longer side/shorter side, rounded up"
--   layers_for kind n byte2   the layers that Lay uses: "Row: 2h layers", "Channel: 2h + 1 layers", "Box: exactly 2q + 4 layers";
--                             "laid legally on two layers"
--   tracks_bound kind         demand 3 speaks of its tracks: "exactly h horizontal layers and exactly w tracks", rows and channels;
--                             "Demand 3 excludes kind 4"
--   layers_bound kind         demand 3 speaks of its layers and floor: boxes
use Rattle.std.specs.Prelude.{ℕ, ◌+◌, ◌*◌, min, max, Bool, true, false, cond, eqb}
use Prim.Native.String.{String}
use Rattle.counting.specs.Counting.{ceil}
use Rattle.terms.specs.Limits.{longest_side, widest_channel, widest_grid, most_trunk_layers}

pub data Side : Type 0 where
  north south west east : Side

abbrev pub row : ℕ
row = 1

abbrev pub channel : ℕ
channel = 2

abbrev pub box : ℕ
box = 3

abbrev pub two_layer : ℕ
two_layer = 4

abbrev pub by_kind : {A : Type 0} → ℕ → A → A → A → A → A → A
by_kind kind none r c b t = cond (eqb kind row) r (cond (eqb kind channel) c (cond (eqb kind box) b (cond (eqb kind two_layer) t none)))

abbrev pub is_kind : ℕ → Bool
is_kind kind = by_kind kind false true true true true

abbrev pub word : ℕ → String
word kind = by_kind kind "" "row" "channel" "box" "two-layer"

abbrev pub has_side : ℕ → Side → Bool
has_side kind north = by_kind kind false true true true true
has_side kind south = by_kind kind false false true true true
has_side kind west = by_kind kind false false false true false
has_side kind east = by_kind kind false false false true false

abbrev pub largest_side_map : ℕ → ℕ
largest_side_map kind = by_kind kind 0 1 3 15 3

abbrev pub largest_byte2 : ℕ → ℕ
largest_byte2 kind = by_kind kind 0 most_trunk_layers most_trunk_layers longest_side 1

abbrev pub has_own_width : ℕ → Bool
has_own_width kind = by_kind kind false false false true false

abbrev pub widest : ℕ → ℕ
widest kind = by_kind kind 0 widest_channel widest_channel longest_side widest_grid

abbrev pub quotient : ℕ → ℕ → ℕ
quotient n w = ceil (max n w) (min n w)

abbrev pub layers_for : ℕ → ℕ → ℕ → ℕ
layers_for kind n byte2 = by_kind kind 0 (2 * byte2) (2 * byte2 + 1) (2 * quotient n byte2 + 4) 2

abbrev pub tracks_bound : ℕ → Bool
tracks_bound kind = by_kind kind false true true false false

abbrev pub layers_bound : ℕ → Bool
layers_bound kind = by_kind kind false false false true false
