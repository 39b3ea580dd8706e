-- Read's first stages: where reading stands after the header and after each side, or its first refusal, in document 01's order.
--
--   stop k p               a refusal, where reading ends
--   go_on i                nothing is refused yet; byte i is read next
--   fields_of kind n byte2 rest
--                          "2, kind (0). 3, n (1). 4, byte 2 (2)."; then what rest says
--   header_of s            the first four bytes: "1, fewer than 4 bytes (place: the ticket's length)", 2 to 4, "5, side map (3)."
--   is_net least b         the byte b is one of the numbers from least to 180
--   nets_of least s i k    k net bytes from byte i on: "1 again, a byte needed and missing (the ticket's length)", "7, net number 0 or
--                          above 180 (its byte)"; in a ticket the least number is 1
--   side_of s from p       a side of p places: its map, then its nets; "6, a map without bits or with a spare bit (first byte of the map)";
--                          "A map's bytes must all be present before 6 is judged."
--   after s on p c         the next side after c, read where it stands (on)
--   north_end s .. east_end s, ends_of s
--                          "For each standing side, in that order, follows its position map", "bit 0 north, 1 south, 2 west, 3 east"
use Rattle.std.specs.Prelude.{ℕ, zero, suc, ◌+◌, Bool, cond, ◌&&◌, List, length, ltb, leb}
use Rattle.terms.specs.Limits.{longest_side, largest_net, within}
use Rattle.terms.specs.Kinds.{is_kind, largest_byte2, largest_side_map}
use Rattle.terms.specs.Refusals.{refusal, accepted, unless}
use Rattle.ticket_sides.specs.Format.{byte, is_on, standing_bits, map_bytes, good_map}
use Rattle.ticket_sides.specs.declared.Cursor.{Cursor}
use Rattle.ticket_sides.specs.declared.Ends.{Ends}

abbrev pub stop : ℕ → ℕ → Cursor
stop k p = record { refusal = refusal k p; at = 0 }

abbrev pub go_on : ℕ → Cursor
go_on i = record { refusal = refusal 0 0; at = i }

-- ---- the header

unfoldable pub fields_of : ℕ → ℕ → ℕ → Cursor → Cursor
fields_of kind n byte2 rest =
    unless (is_kind kind) (stop 2 0)
    (unless (within n longest_side) (stop 3 1)
    (unless (within byte2 (largest_byte2 kind)) (stop 4 2)
    rest))

unfoldable pub header_of : List ℕ → Cursor
header_of s =
    unless (leb 4 (length s)) (stop 1 (length s))
    (fields_of (byte s 0) (byte s 1) (byte s 2)
    (unless (leb (byte s 3) (largest_side_map (byte s 0))) (stop 5 3)
    (go_on 4)))

-- ---- the sides, in byte order

abbrev pub is_net : ℕ → ℕ → Bool
is_net least b = leb least b && leb b largest_net

unfoldable pub nets_of : ℕ → List ℕ → ℕ → ℕ → Cursor
nets_of least s i zero = go_on i
nets_of least s i (suc k) =
    unless (ltb i (length s)) (stop 1 (length s))
    (unless (is_net least (byte s i)) (stop 7 i)
    (nets_of least s (i + 1) k))

unfoldable pub side_of : List ℕ → ℕ → ℕ → Cursor
side_of s from p =
    unless (leb (from + map_bytes p) (length s)) (stop 1 (length s))
    (unless (good_map s from p) (stop 6 from)
    (nets_of 1 s (from + map_bytes p) (standing_bits s from p)))

unfoldable pub after : List ℕ → Bool → ℕ → Cursor → Cursor
after s on p c = cond (accepted c.refusal && on) (side_of s c.at p) c

unfoldable pub north_end : List ℕ → Cursor
north_end s = after s (is_on (byte s 3) 0) (byte s 1) (go_on 4)

unfoldable pub south_end : List ℕ → Cursor
south_end s = after s (is_on (byte s 3) 1) (byte s 1) (north_end s)

unfoldable pub west_end : List ℕ → Cursor
west_end s = after s (is_on (byte s 3) 2) (byte s 2) (south_end s)

unfoldable pub east_end : List ℕ → Cursor
east_end s = after s (is_on (byte s 3) 3) (byte s 2) (west_end s)

abbrev pub ends_of : List ℕ → Ends
ends_of s = record { north = north_end s; south = south_end s; west = west_end s; east = east_end s }
