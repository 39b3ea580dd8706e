-- Every limit, by name. The code's constants bear the same names.
--
--   longest_side       "n, 1 to 90", "w, 1 to 90": the places of a side
--   widest_channel     "w outside 1 to 90": the tracks of a row's or a channel's grid that Check takes
--   widest_grid        "the limit on w is 157 for this kind in Check, and in Layer view always": the tracks of a grid
--   most_layers        "k outside 1 to 255"
--   most_trunk_layers  "h, the number of trunk (horizontal) layers, 1 to 8"
--   largest_net        "one net number, 1 to 180"
--   byte_values        how many numbers a byte has
--   net_entries        the entries of a table with one for each net and one for 0
--   table_sum          no sum of a table with a byte for each net is above it
--   within a top       whether a is one of 1 to top
use Rattle.std.specs.Prelude.{ℕ, ◌*◌, Bool, ◌&&◌, leb}

abbrev pub longest_side : ℕ
longest_side = 90

abbrev pub widest_channel : ℕ
widest_channel = 90

abbrev pub widest_grid : ℕ
widest_grid = 157

abbrev pub most_layers : ℕ
most_layers = 255

abbrev pub most_trunk_layers : ℕ
most_trunk_layers = 8

abbrev pub largest_net : ℕ
largest_net = 180

abbrev pub byte_values : ℕ
byte_values = 256

abbrev pub net_entries : ℕ
net_entries = 181

abbrev pub table_sum : ℕ
table_sum = byte_values * largest_net

abbrev pub within : ℕ → ℕ → Bool
within a top = leb 1 a && leb a top
