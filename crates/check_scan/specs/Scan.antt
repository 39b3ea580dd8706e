-- What single passes over the pins and the points find, by index. Cited by the contracts of inner functions alone: Check's own
-- promise is in Check.antt of crate checker.
--
--   no_net                the largest byte, which is no net's number
--   PinList pins list     the list has the four sides' places, and nothing where a grid is wider than any ticket
--   Put list side r from  r is the list with a side's places from `from` on
--   Holder p top v        one of the first top entries of the pin list holds v
--   First p a             pin a is the first in the list that holds its net
--   Opened p s k top      of the first top pins: each net's first is marked in s, and k is 0 just for the numbers of no net (of all
--                         bytes; 0 counts as known)
--   FirstUnknown k x r    r is the first point of x whose number is unknown, or x's length
--   Bare v mark r         r is v where that is a net without a mark, else no_net
--   Lowest x m top r      r is the smallest number but 0 that one of the first top entries of x holds without a mark in m, or no_net
--   net_of, point_or      what an optional net or point is as a number
--   LowestOf p s x m r    r is the smallest net of a spot without a mark, or 0
use Rattle.std.specs.Prelude.{ℕ, ◌+◌, ◌-◌, ◌≤◌, ◌<◌, ◌≡◌, ◌⊎◌, ◌≢◌, List, length, Option, Some, None}
use Rattle.terms.specs.Limits.{longest_side, widest_grid, byte_values}
use Rattle.problem.specs.declared.Pins.{Pins as TicketPins}
use Rattle.check_link.specs.Marks.{at}
use Rattle.check_sweep.specs.Reached.{Spot, val}
use Rattle.check_sweep.specs.Pins.{south_start, west_start, east_start, pin_places}

abbrev pub no_net : ℕ
no_net = byte_values - 1

pub record PinList (pins : TicketPins) (list : List ℕ) : Type 0 where
  pub size : length list ≡ pin_places
  pub north : (i : ℕ) → i < longest_side → at list i ≡ at pins.north i
  pub south : (i : ℕ) → i < longest_side → at list (south_start + i) ≡ at pins.south i
  pub west : (i : ℕ) → i < longest_side → at list (west_start + i) ≡ at pins.west i
  pub east : (i : ℕ) → i < longest_side → at list (east_start + i) ≡ at pins.east i
  pub west_past : (i : ℕ) → longest_side ≤ i → i < widest_grid → at list (west_start + i) ≡ 0
  pub east_past : (i : ℕ) → longest_side ≤ i → i < widest_grid → at list (east_start + i) ≡ 0

pub record Put (list side r : List ℕ) (from : ℕ) : Type 0 where
  pub size : length r ≡ length list
  pub inside : (i : ℕ) → i < longest_side → at r (from + i) ≡ at side i
  pub outside : (b : ℕ) → (b < from) ⊎ (from + longest_side ≤ b) → at r b ≡ at list b

abbrev pub Holder : List ℕ → ℕ → ℕ → Type 0
Holder p top v = (a : ℕ) × (a < top) × (at p a ≡ v)

pub record First (p : List ℕ) (a : ℕ) : Type 0 where
  pub some : at p a ≢ 0
  pub none : (b : ℕ) → b < a → at p b ≢ at p a

pub record Opened (p s k : List ℕ) (top : ℕ) : Type 0 where
  pub first : (a : ℕ) → a < top → at s a ≢ 0 → First p a
  pub marked : (a : ℕ) → a < top → First p a → at s a ≢ 0
  pub known : (v : ℕ) → v < byte_values → at k v ≢ 0 → (v ≡ 0) ⊎ Holder p top v
  pub unknown : (v : ℕ) → v < byte_values → at k v ≡ 0 → (v ≢ 0) × (Holder p top v → ⊥)

pub record FirstUnknown (k x : List ℕ) (r : ℕ) : Type 0 where
  pub within : r ≤ length x
  pub before : (q : ℕ) → q < r → at k (at x q) ≢ 0
  pub found : r < length x → at k (at x r) ≡ 0

-- the number of a net, 0 for none
abbrev pub net_of : Option ℕ → ℕ
net_of None = 0
net_of (Some m) = m

-- a point, or the length where there is none
abbrev pub point_or : ℕ → Option ℕ → ℕ
point_or n None = n
point_or n (Some q) = q

pub record Bare (v mark r : ℕ) : Type 0 where
  pub net : v ≢ 0 → mark ≡ 0 → r ≤ v
  pub has : r < no_net → (v ≡ r) × (mark ≡ 0) × (r ≢ 0)
  pub small : r ≤ no_net

pub record Lowest (x m : List ℕ) (top r : ℕ) : Type 0 where
  pub small : r ≤ no_net
  pub under : (a : ℕ) → a < top → at x a ≢ 0 → at m a ≡ 0 → r ≤ at x a
  pub has : r < no_net → (a : ℕ) × (a < top) × (at x a ≡ r) × (at m a ≡ 0) × (r ≢ 0)

pub record LowestOf (p s x m : List ℕ) (r : ℕ) : Type 0 where
  pub under : (a : Spot) → val p x a ≢ 0 → val p x a < no_net → (r ≡ 0) ⊎ (val p x a < r) → val s m a ≢ 0
  pub has : r ≢ 0 → (a : Spot) × (val p x a ≡ r) × (val s m a ≡ 0)
