-- What Read and Check answer, in a form that computes. The table's statement does not cite it: proofs/ show that it is what a ticket says
-- (Tallied), and that Check answers nothing else (Found).
--
--   times s v from k        how often v stands in the k bytes from byte from on
--   on_side s v from p end  how many net bytes of a side are v; the side has p places, and its bytes are from `from` on, before `end`
--   times_in s v            how many net bytes of the ticket are v: as many as the pins that hold v, and quicker to count
--   tallied s               what the ticket says, with the pins of each net counted by its bytes
--   way g l                 0 for a horizontal layer, 1 for a vertical one
--   is_near a b             one of the numbers is the next after the other
--   touches g s a i j l     pin a of side s is joined to the point (i, j, l)
--   is_joined g u v         u and v are joined, by their coordinates
--   side_no s, side_at a    the sides by number, 1 to 4
--   is_same u v             u and v are one node
--   over f n                the lists f n, .., f 1 in one
--   nodes_on g s, pin_nodes g the pins of side s, and of all sides
--   on_track g l j, on_layer g l
--                           the points of track j of layer l, and of layer l
--   nodes g                 all pins and points
--   any t l, keep t l       whether an entry of the list l passes the test t; the entries that do
--   has_path g l u v        u is v or joined to it, or a chain of joins leads from u to v through nodes of l (Warshall's recursion)
--   holding g p x m         the nodes that hold net m
--   is_broken g p x m       two of them have no path through them
--   is_pin_of p v u         u is a pin that holds v
--   is_foreign g p v        v is neither 0 nor the net of a pin
--   foreign_at g p x        the first point that holds a foreign number, counted from 1; 0 where there is none
--   broken_net g p x        the smallest net that is broken; 0 where there is none
--   answer_for f b          Check's answer where the first foreign point is f and the smallest broken net is b
--   found g p x             Check's answer to the wiring in the buffer x
use Rattle.std.specs.Prelude.{ℕ, zero, suc, ◌+◌, ◌-◌, ◌%◌, Bool, false, cond, not, ◌&&◌, ◌||◌, List, [], ◌∷◌, ◌++◌, eqb, leb, length}
use Rattle.counting.specs.Counting.{bit, count, least}
use Rattle.terms.specs.Kinds.{Side, north, south, west, east}
use Rattle.terms.specs.Limits.{largest_net}
use Rattle.grid.specs.Grid.{Grid, Node, pin, point, places}
use Rattle.grid.specs.Legal.{Pins, Wiring, holds, nets, wiring_of, entry}
use Rattle.ticket.specs.declared.Reading.{Reading}
use Rattle.ticket_sides.specs.Format.{byte, map_bytes}
use Rattle.terms.specs.declared.Refusal.{Refusal}
use Rattle.terms.specs.Refusals.{refusal}
use Rattle.ticket_sides.specs.Stages.{header_of, north_end, south_end, west_end, east_end, ends_of}
use Rattle.ticket.specs.Read.{pins_at, left_over, no_lone, or_refused, accepted_reading, problem_at}

-- ---- reading

abbrev pub times : List ℕ → ℕ → ℕ → ℕ → ℕ
times s v from k = count (λ j. eqb (byte s (from + (j - 1))) v) k

abbrev pub on_side : List ℕ → ℕ → ℕ → ℕ → ℕ → ℕ
on_side s v from p end = times s v (from + map_bytes p) (end - (from + map_bytes p))

abbrev pub times_in : List ℕ → ℕ → ℕ
times_in s v =
    on_side s v 4 (byte s 1) (north_end s).at + on_side s v (north_end s).at (byte s 1) (south_end s).at
    + on_side s v (south_end s).at (byte s 2) (west_end s).at + on_side s v (west_end s).at (byte s 2) (east_end s).at

unfoldable pub tallied : List ℕ → Reading
tallied s =
    or_refused (header_of s)
    (or_refused (east_end s)
    (or_refused (left_over s (east_end s).at)
    (or_refused (no_lone (least (λ v. eqb (times_in s v) 1) largest_net))
    (accepted_reading (problem_at s (nets (λ v. leb 1 (times_in s v))) (pins_at s (ends_of s)))))))

-- ---- nodes

abbrev pub way : Grid → ℕ → ℕ
way g l = (l + bit g.first) % 2

abbrev pub is_near : ℕ → ℕ → Bool
is_near a b = eqb a (suc b) || eqb b (suc a)

abbrev pub touches : Grid → Side → ℕ → ℕ → ℕ → ℕ → Bool
touches g north a i j l = eqb i a && (eqb j g.w && eqb (way g l) 1)
touches g south a i j l = eqb i a && (eqb j 1 && eqb (way g l) 1)
touches g west a i j l = eqb i 1 && (eqb j a && eqb (way g l) 0)
touches g east a i j l = eqb i g.n && (eqb j a && eqb (way g l) 0)

abbrev pub is_joined : Grid → Node → Node → Bool
is_joined g (pin s a) (pin t b) = false
is_joined g (pin s a) (point i j l) = touches g s a i j l
is_joined g (point i j l) (pin s a) = touches g s a i j l
is_joined g (point i j l) (point i' j' l') =
    (eqb i i' && (is_near j j' && (eqb l l' && eqb (way g l) 1)))
    || ((is_near i i' && (eqb j j' && (eqb l l' && eqb (way g l) 0))) || (eqb i i' && (eqb j j' && is_near l l')))

abbrev pub side_no : Side → ℕ
side_no north = 1
side_no south = 2
side_no west = 3
side_no east = 4

abbrev pub side_at : ℕ → Side
side_at a = cond (eqb a 1) north (cond (eqb a 2) south (cond (eqb a 3) west east))

abbrev pub is_same : Node → Node → Bool
is_same (pin s a) (pin t b) = eqb (side_no s) (side_no t) && eqb a b
is_same (pin s a) (point i j l) = false
is_same (point i j l) (pin s a) = false
is_same (point i j l) (point i' j' l') = eqb i i' && (eqb j j' && eqb l l')

abbrev pub over : {A : Type 0} → (ℕ → List A) → ℕ → List A
over f zero = []
over f (suc n) = f (suc n) ++ over f n

abbrev pub nodes_on : Grid → Side → List Node
nodes_on g s = over (λ a. pin s a ∷ []) (places g s)

abbrev pub pin_nodes : Grid → List Node
pin_nodes g = over (λ a. nodes_on g (side_at a)) 4

abbrev pub on_track : Grid → ℕ → ℕ → List Node
on_track g l j = over (λ i. point i j l ∷ []) g.n

abbrev pub on_layer : Grid → ℕ → List Node
on_layer g l = over (on_track g l) g.w

abbrev pub nodes : Grid → List Node
nodes g = pin_nodes g ++ over (on_layer g) g.k

-- ---- nets

abbrev pub any : {A : Type 0} → (A → Bool) → List A → Bool
any t [] = false
any t (a ∷ l) = t a || any t l

abbrev pub keep : {A : Type 0} → (A → Bool) → List A → List A
keep t [] = []
keep t (a ∷ l) = cond (t a) (a ∷ keep t l) (keep t l)

abbrev pub has_path : Grid → List Node → Node → Node → Bool
has_path g [] u v = is_joined g u v || is_same u v
has_path g (z ∷ l) u v = has_path g l u v || (has_path g l u z && has_path g l z v)

abbrev pub holding : Grid → Pins → Wiring → ℕ → List Node
holding g p x m = keep (λ u. eqb (holds p x u) m) (nodes g)

abbrev pub is_broken : Grid → Pins → Wiring → ℕ → Bool
is_broken g p x m =
    let held = holding g p x m in
    any (λ u. any (λ v. not (has_path g held u v)) held) held

-- ---- the wiring

abbrev pub is_pin_of : Pins → ℕ → Node → Bool
is_pin_of p v (pin s a) = eqb (p s a) v
is_pin_of p v (point i j l) = false

abbrev pub is_foreign : Grid → Pins → ℕ → Bool
is_foreign g p v = not (eqb v 0) && not (any (is_pin_of p v) (nodes g))

abbrev pub foreign_at : Grid → Pins → List ℕ → ℕ
foreign_at g p x = least (λ a. is_foreign g p (entry x a)) (length x)

abbrev pub broken_net : Grid → Pins → List ℕ → ℕ
broken_net g p x = least (is_broken g p (wiring_of g x)) largest_net

abbrev pub answer_for : ℕ → ℕ → Refusal
answer_for zero zero = refusal 0 0
answer_for zero (suc b) = refusal 15 (suc b)
answer_for (suc q) b = refusal 14 q

abbrev pub found : Grid → Pins → List ℕ → Refusal
found g p x = answer_for (foreign_at g p x) (broken_net g p x)
