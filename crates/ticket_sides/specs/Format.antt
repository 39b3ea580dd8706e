-- The bytes of a ticket: its maps, its net numbers and the pins that they give.
--
--   byte s i              byte i of the ticket s, counted from 0
--   longest_ticket        "A ticket has at most 412 bytes."
--   is_on b k             bit k of the byte b stands
--   stands s from a       place a has a pin, by the position map at byte from; "Place i is bit (i - 1) mod 8 of byte (i - 1) div 8"
--   standing_bits s from p
--                         how many of the places 1 to p have a pin; "The number of standing bits of a map"
--   map_bytes p           "p places .. in p/8 bytes, rounded up"
--   good_map s from p     "Spare bits are zero, and at least one bit stands": the map's bytes have no standing bits but those of its p
--                         places
--   pin_net s on from p a the net of place a: "one net number, 1 to 180, for each standing bit, in rising order of place", after the map; 0
--                         where the place is empty or the side does not stand (on)
--   values_from f i k     f i, f (i + 1), .., k of them
--   side_list f p         a side's list of 90 numbers: f at its places 1 to p, and 0 past them
--   net_list s from k     the k bytes from byte from on as such a list
--   side_nets s on from p the nets of a side's places as 90 numbers
use Rattle.std.specs.Prelude.{ℕ, zero, suc, ◌+◌, ◌-◌, ◌*◌, ◌/◌, ◌%◌, ◌^◌, Bool, cond, ◌&&◌, List, [], ◌∷◌, get_or, leb, eqb}
use Rattle.counting.specs.Counting.{count}
use Rattle.terms.specs.Limits.{longest_side}

abbrev pub byte : List ℕ → ℕ → ℕ
byte s i = get_or s i 0

abbrev pub longest_ticket : ℕ
longest_ticket = 412

abbrev pub is_on : ℕ → ℕ → Bool
is_on b k = eqb (b / 2 ^ k % 2) 1

abbrev pub stands : List ℕ → ℕ → ℕ → Bool
stands s from a = is_on (byte s (from + (a - 1) / 8)) ((a - 1) % 8)

abbrev pub standing_bits : List ℕ → ℕ → ℕ → ℕ
standing_bits s from p = count (stands s from) p

abbrev pub map_bytes : ℕ → ℕ
map_bytes p = (p + 7) / 8

unfoldable pub good_map : List ℕ → ℕ → ℕ → Bool
good_map s from p = leb 1 (standing_bits s from p) && eqb (standing_bits s from (8 * map_bytes p)) (standing_bits s from p)

unfoldable pub pin_net : List ℕ → Bool → ℕ → ℕ → ℕ → ℕ
pin_net s on from p a = cond (on && leb a p && stands s from a) (byte s (from + map_bytes p + standing_bits s from (a - 1))) 0

unfoldable pub values_from : (ℕ → ℕ) → ℕ → ℕ → List ℕ
values_from f i zero = []
values_from f i (suc k) = f i ∷ values_from f (suc i) k

unfoldable pub side_list : (ℕ → ℕ) → ℕ → List ℕ
side_list f p = values_from (λ a. cond (leb a p) (f a) 0) 1 longest_side

abbrev pub net_list : List ℕ → ℕ → ℕ → List ℕ
net_list s from k = side_list (λ a. byte s (from + (a - 1))) k

unfoldable pub side_nets : List ℕ → Bool → ℕ → ℕ → List ℕ
side_nets s on from p = values_from (pin_net s on from p) 1 longest_side
