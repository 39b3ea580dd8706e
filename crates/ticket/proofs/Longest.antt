-- A ticket has at most 412 bytes: a longer list is refused, and the first 413 bytes of any list give its whole reading.
use Prim.Native.Nat.{ℕ, zero, suc, ◌+◌, ◌-◌, ◌*◌, ◌/◌, ◌%◌, ◌≤◌, ◌<◌}
use mathlib.Core.Bool.{Bool, true, false, cond, ◌&&◌}
use mathlib.Core.List.{List}
use mathlib.Core.Logic.{◌≢◌, by_cases, ⊎_elim}
use mathlib.Core.Path.{◌≡◌, refl, sym, ap, ◌∙◌}
use native.Mathlib.Decide.{ℕ_discrete}
use native.Mathlib.Omega.{arith}
use lib.Dec.{eqb, leb, ltb}
use lib.ListN.{length, take}
use lib.Seq.{get_or-take, length-take-le, take_all}
use borrow.Author.Tests.{le-leb, lt-leb, lt-ltb}
use Rattle.counting.proofs.Counts.{count_same}
use Rattle.terms.specs.Limits.{longest_side}
use Rattle.ticket_sides.proofs.Bits.{standing_le}
use Rattle.ticket_sides.proofs.Flags.{le_or_lt}
use Rattle.ticket.proofs.Good.{passed}
use Rattle.ticket.proofs.Laws.{header_good, second_le, turned_down}
use Rattle.ticket_sides.specs.Format.{byte, longest_ticket, is_on, standing_bits, map_bytes, good_map}
use Rattle.ticket_sides.specs.Stages.{stop, go_on, header_of, is_net, nets_of, side_of, after, north_end, south_end, west_end, east_end, ends_of}
use Rattle.ticket.specs.Read.{pins_at, left_over, judged, or_refused, refused_reading, ticket_of}
use Rattle.terms.specs.Refusals.{unless}
use Rattle.terms.proofs.Laws.{known}
use Rattle.ticket_sides.specs.declared.Cursor.{Cursor}
use Rattle.ticket.specs.declared.Reading.{Reading}

-- ---- where reading stands after each side

unless_at : (t : Bool) (k p : ℕ) (c : Cursor) (b : ℕ) → c.at ≤ b → (unless t (stop k p) c).at ≤ b
unless_at true k p c b h = h
unless_at false k p c b h = omega arith

nets_at : (s : List ℕ) (k i : ℕ) → (nets_of 1 s i k).at ≤ i + k
unfolding nets_of
nets_at s zero i = omega arith
nets_at s (suc k) i =
    unless_at (ltb i (length s)) 1 (length s) _ (i + suc k)
    (unless_at (is_net 1 (byte s i)) 7 i (nets_of 1 s (i + 1) k) (i + suc k) (omega (arith, nets_at s k (i + 1))))

-- the most bytes of a side: its map and a net for each place
abbrev most_side : ℕ
most_side = map_bytes longest_side + longest_side

side_at_lem : (s : List ℕ) (from p : ℕ) → p ≤ longest_side → (side_of s from p).at ≤ from + most_side
unfolding side_of
side_at_lem s from p few =
    unless_at (leb (from + map_bytes p) (length s)) 1 (length s) _ (from + most_side)
    (unless_at (good_map s from p) 6 from (nets_of 1 s (from + map_bytes p) (standing_bits s from p)) (from + most_side)
    (omega (arith, nets_at s (standing_bits s from p) (from + map_bytes p), standing_le s from p)))

after_at : (s : List ℕ) (on : Bool) (p : ℕ) (c : Cursor) → p ≤ longest_side → (after s on p c).at ≤ c.at + most_side
unfolding after
after_at s on p c few = by_test_lem (eqb c.refusal.number 0 && on)
  where
    by_test_lem : (t : Bool) → (cond t (side_of s c.at p) c).at ≤ c.at + most_side
    by_test_lem true = side_at_lem s c.at p few
    by_test_lem false = omega arith

-- the header's 4 bytes, then four sides
record Reached (s : List ℕ) : Type 0 where
  north : (north_end s).at ≤ 4 + most_side
  south : (south_end s).at ≤ 4 + most_side + most_side
  west : (west_end s).at ≤ 4 + most_side + most_side + most_side
  east : (east_end s).at ≤ longest_ticket

reached : (s : List ℕ) → byte s 1 ≤ longest_side → byte s 2 ≤ longest_side → Reached s
unfolding north_end south_end west_end east_end
reached s one two =
    let n = after_at s (is_on (byte s 3) 0) (byte s 1) (go_on 4) one in
    let so = after_at s (is_on (byte s 3) 1) (byte s 1) (north_end s) one in
    let w = after_at s (is_on (byte s 3) 2) (byte s 2) (south_end s) two in
    let e = after_at s (is_on (byte s 3) 3) (byte s 2) (west_end s) two in
    record { north = n; south = omega arith; west = omega arith; east = omega arith }

pub longest : (s : List ℕ) → (ticket_of s).refusal.number ≡ 0 → length s ≤ longest_ticket
longest s e =
    let r = passed s e in
    let two = second_le (known (byte s 0) r.header.named) in
    omega (arith, r.end, (reached s r.header.length.1 (omega (arith, r.header.second, two))).east)

pub longer_refused : (s : List ℕ) → longest_ticket < length s → (ticket_of s).refusal.number ≢ 0
longer_refused s h e = omega (arith, longest s e)

-- ---- two long lists that begin alike are read alike

record Alike (s t : List ℕ) : Type 0 where
  long : longest_ticket < length s
  long' : longest_ticket < length t
  bytes : (i : ℕ) → i < longest_ticket → byte s i ≡ byte t i

module _ (s t : List ℕ) (q : Alike s t) where
  nets_alike : (k i : ℕ) → i + k ≤ longest_ticket → nets_of 1 s i k ≡ nets_of 1 t i k
  unfolding nets_of
  nets_alike zero i h = refl
  nets_alike (suc k) i h =
      rw (
        lt-ltb i (length s) (omega (arith, q.long)),
        lt-ltb i (length t) (omega (arith, q.long')),
        q.bytes i (omega arith),
        nets_alike k (i + 1) (omega arith),
      )

  standing_alike : (from p : ℕ) → from + map_bytes p ≤ longest_ticket → standing_bits s from p ≡ standing_bits t from p
  standing_alike from p h = count_same _ _ p (λ a i. ap (λ (b : ℕ). is_on b ((a - 1) % 8)) (q.bytes (from + (a - 1) / 8) (omega arith)))

  side_alike : (from p : ℕ) → p ≤ longest_side → from + most_side ≤ longest_ticket → side_of s from p ≡ side_of t from p
  unfolding side_of good_map
  side_alike from p few h =
      rw (
        le-leb (from + map_bytes p) (length s) (omega (arith, q.long)),
        le-leb (from + map_bytes p) (length t) (omega (arith, q.long')),
        standing_alike from p (omega arith),
        standing_alike from (8 * map_bytes p) (omega arith),
        nets_alike (standing_bits t from p) (from + map_bytes p) (omega (arith, standing_le t from p)),
      )

  -- the side of bit k of the side map, whose number of places is byte j
  after_alike : (k j : ℕ) {c c' : Cursor} → j < 4 → c ≡ c' → byte s j ≤ longest_side → c.at + most_side ≤ longest_ticket
      → after s (is_on (byte s 3) k) (byte s j) c ≡ after t (is_on (byte t 3) k) (byte t j) c'
  unfolding after
  after_alike k j {c} h e few room =
      let map = q.bytes 3 (omega arith) in
      let many = q.bytes j (omega arith) in
      ap (λ (x : Cursor). cond (eqb c.refusal.number 0 && is_on (byte s 3) k) x c) (side_alike c.at (byte s j) few room)
      ∙ (λ i. after t (is_on (map i) k) (many i) (e i))

  header_alike : header_of s ≡ header_of t
  unfolding header_of
  header_alike =
      rw (
        le-leb 4 (length s) (omega (arith, q.long)),
        le-leb 4 (length t) (omega (arith, q.long')),
        q.bytes 0 (omega arith),
        q.bytes 1 (omega arith),
        q.bytes 2 (omega arith),
        q.bytes 3 (omega arith),
      )

  east_alike : byte s 1 ≤ longest_side → byte s 2 ≤ longest_side → east_end s ≡ east_end t
  unfolding north_end south_end west_end east_end
  east_alike one two =
      let r = reached s one two in
      let north : north_end s ≡ north_end t = after_alike 0 1 (omega arith) refl one (omega arith) in
      let south : south_end s ≡ south_end t = after_alike 1 1 (omega arith) north one (omega (arith, r.north)) in
      let west : west_end s ≡ west_end t = after_alike 2 2 (omega arith) south two (omega (arith, r.south)) in
      after_alike 3 2 (omega arith) west two (omega (arith, r.west))

-- what comes after the header
abbrev rest : List ℕ → Reading
rest s = or_refused (east_end s) (or_refused (left_over s (east_end s).at) (judged s (pins_at s (ends_of s))))

-- the same where bytes are left over: it depends on where the last side ends, and on no byte
abbrev overfull : Cursor → Reading
overfull e = or_refused e (refused_reading (stop 8 e.at))

rest_over : (s : List ℕ) → (east_end s).at < length s → rest s ≡ overfull (east_end s)
rest_over s h =
    let left : stop 8 (east_end s).at ≡ left_over s (east_end s).at = sym (simp (lt-leb (length s) (east_end s).at h)) in
    ap (or_refused (east_end s)) (sym (turned_down _ left (λ e. omega arith) refl))

ticket_alike : (s t : List ℕ) → Alike s t → ticket_of s ≡ ticket_of t
unfolding ticket_of
ticket_alike s t q =
    by_cases (ℕ_discrete (header_of s).refusal.number 0)
    (λ z.
    let h = header_good s z in
    let e = east_alike s t q h.one.1 h.two.1 in
    let r = reached s h.one.1 h.two.1 in
    let over = rest_over s (omega (arith, r.east, q.long)) in
    let over' = rest_over t (omega (arith, r.east, q.long', ap (λ (c : Cursor). c.at) e)) in
    let same = over ∙ ap overfull e ∙ sym over' in
    (λ i. or_refused (header_alike s t q i) (same i)))
    (λ n. sym (turned_down {a = header_of s} (rest s) refl n refl) ∙ turned_down (rest t) (header_alike s t q) n refl)

pub first_bytes : (s : List ℕ) → ticket_of (take (longest_ticket + 1) s) ≡ ticket_of s
first_bytes s =
    ⊎_elim (λ le. ap ticket_of (take_all (longest_ticket + 1) s (omega arith)))
    (λ lt.
    ticket_alike _ s
    (record {
      long = omega (arith, length-take-le (longest_ticket + 1) s lt);
      long' = lt;
      bytes = λ i h. get_or-take (longest_ticket + 1) s i 0
          (omega arith);
    }))
    (le_or_lt (length s) longest_ticket)
