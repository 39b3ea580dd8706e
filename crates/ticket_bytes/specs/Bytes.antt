-- The bytes of a problem: the ticket that states it. Read is its inverse: proofs/ReadBack.antt, proofs/BytesBack.antt.
--
--   is_filled f a       place a of a side whose nets are f holds a pin
--   has_pins f p        one of the side's places 1 to p does
--   side_stands q s     the same of side s of a problem: "For each standing side"
--   side_map q          "Byte 3, side map: bit 0 north, 1 south, 2 west, 3 east; bits 4 to 7 zero", a bit for each side that has a pin
--   map_byte f p j      byte j of the side's position map: "Place i is bit (i - 1) mod 8 of byte (i - 1) div 8. Spare bits are zero"
--   nets_to f p         "one net number .. for each standing bit, in rising order of place"
--   side_bytes f p      a side's bytes: "For each standing side .. its position map: p places .. in p/8 bytes, rounded up"; "Then comes one
--                       net number .. for each standing bit"
--   bytes_on q s        the bytes of side s of a problem
--   bytes_of q          the ticket: bytes 0 to 3, then the sides "in that order"
--   Bytes s             each number of the list is a byte
--   Sized q             the lists of pins have an entry for each place of the longest side
use Rattle.std.specs.Prelude.{ℕ, zero, suc, ◌+◌, ◌-◌, ◌*◌, ◌^◌, ◌<◌, ◌≡◌, Bool, cond, ◌&&◌, List, [], ◌∷◌, ◌++◌, length, leb}
use Rattle.counting.specs.Counting.{bit, sum, some}
use Rattle.terms.specs.Kinds.{Side, north, south, west, east}
use Rattle.terms.specs.Limits.{longest_side, byte_values}
use Rattle.grid.specs.Grid.{places}
use Rattle.problem.specs.declared.Problem.{Problem}
use Rattle.problem.specs.Problem.{pins_in, shape_of}
use Rattle.ticket_sides.specs.Format.{byte, map_bytes, values_from}

abbrev pub is_filled : (ℕ → ℕ) → ℕ → Bool
is_filled f a = leb 1 (f a)

unfoldable pub has_pins : (ℕ → ℕ) → ℕ → Bool
has_pins f p = some (is_filled f) p

unfoldable pub map_byte : (ℕ → ℕ) → ℕ → ℕ → ℕ
map_byte f p j = sum (λ b. bit (leb (8 * j + b) p && is_filled f (8 * j + b)) * 2 ^ (b - 1)) 8

unfoldable pub nets_to : (ℕ → ℕ) → ℕ → List ℕ
nets_to f zero = []
nets_to f (suc a) = nets_to f a ++ cond (is_filled f (suc a)) (f (suc a) ∷ []) []

unfoldable pub side_bytes : (ℕ → ℕ) → ℕ → List ℕ
side_bytes f p = cond (has_pins f p) (values_from (map_byte f p) 0 (map_bytes p) ++ nets_to f p) []

abbrev pub side_stands : Problem → Side → Bool
side_stands q s = has_pins (pins_in q.pins s) (places (shape_of q) s)

unfoldable pub side_map : Problem → ℕ
side_map q = bit (side_stands q north) + 2 * bit (side_stands q south) + 4 * bit (side_stands q west) + 8 * bit (side_stands q east)

abbrev pub bytes_on : Problem → Side → List ℕ
bytes_on q s = side_bytes (pins_in q.pins s) (places (shape_of q) s)

unfoldable pub bytes_of : Problem → List ℕ
bytes_of q = (q.kind ∷ q.n.0 ∷ q.byte2 ∷ side_map q ∷ []) ++ bytes_on q north ++ bytes_on q south ++ bytes_on q west ++ bytes_on q east

pub record Bytes (s : List ℕ) : Type 0 where
  pub small : (i : ℕ) → byte s i < byte_values

pub record Sized (q : Problem) : Type 0 where
  pub north : length q.pins.north ≡ longest_side
  pub south : length q.pins.south ≡ longest_side
  pub west : length q.pins.west ≡ longest_side
  pub east : length q.pins.east ≡ longest_side
