-- Flat tickets (document 02, job 4): what one states, or its first refusal. Bytes 0 to 2, the net bytes and the last tests are read as
-- a ticket's are, by Stages of crate ticket_sides and Read of crate ticket.
--
--   places_on kind n byte2 side
--                        how many places of a side are listed: "every place of every side the kind has"
--   places_in s side     the same, by bytes 0 to 2 of the flat ticket s
--   places_from s side   the byte of the side's first place: "bytes 0 to 2, then every place of every side .. (north; south; west; east)"
--   place_count s        the places of all sides
--   flat_header s        "refused by the conditions of 1 to 4": the first four bytes, of which the fourth is a place already
--   places_end s         all places, in byte order: the condition of 1, a byte missing, and of 7; "0 isn't refused in it"
--   flat_pins s          the nets of each side, "with 0 for an empty place and no maps"
--   flat_ticket_of s     the whole reading: "refused by the conditions of 1 to 4 and 7 to 9, places counted in its own bytes"
use Rattle.std.specs.Prelude.{ℕ, ◌+◌, cond, List, leb, length}
use Rattle.terms.specs.Kinds.{Side, north, south, west, east, has_side}
use Rattle.terms.specs.Refusals.{unless}
use Rattle.grid.specs.Grid.{places, upright}
use Rattle.problem.specs.declared.Pins.{Pins}
use Rattle.ticket_sides.specs.Format.{byte, net_list}
use Rattle.ticket_sides.specs.Stages.{stop, go_on, fields_of, nets_of}
use Rattle.ticket_sides.specs.declared.Cursor.{Cursor}
use Rattle.ticket.specs.declared.Reading.{Reading}
use Rattle.ticket.specs.Read.{left_over, judged, or_refused}

abbrev pub places_on : ℕ → ℕ → ℕ → Side → ℕ
places_on kind n byte2 side = cond (has_side kind side) (places (upright n byte2 1) side) 0

abbrev pub places_in : List ℕ → Side → ℕ
places_in s side = places_on (byte s 0) (byte s 1) (byte s 2) side

abbrev pub places_from : List ℕ → Side → ℕ
places_from s north = 3
places_from s south = 3 + places_in s north
places_from s west = 3 + places_in s north + places_in s south
places_from s east = 3 + places_in s north + places_in s south + places_in s west

unfoldable pub place_count : List ℕ → ℕ
place_count s = places_in s north + places_in s south + places_in s west + places_in s east

unfoldable pub flat_header : List ℕ → Cursor
flat_header s = unless (leb 4 (length s)) (stop 1 (length s)) (fields_of (byte s 0) (byte s 1) (byte s 2) (go_on 3))

unfoldable pub places_end : List ℕ → Cursor
places_end s = nets_of 0 s 3 (place_count s)

abbrev pub flat_pins : List ℕ → Pins
flat_pins s =
    record {
      north = net_list s (places_from s north) (places_in s north);
      south = net_list s (places_from s south) (places_in s south);
      west = net_list s (places_from s west) (places_in s west);
      east = net_list s (places_from s east) (places_in s east);
    }

unfoldable pub flat_ticket_of : List ℕ → Reading
flat_ticket_of s =
    or_refused (flat_header s)
    (or_refused (places_end s)
    (or_refused (left_over s (places_end s).at)
    (judged s (flat_pins s))))
