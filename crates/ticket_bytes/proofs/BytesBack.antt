-- Every ticket that Read accepts is the bytes of its problem: the header's four bytes, then side after side, give the list back.
use Prim.Native.Nat.{ℕ, ◌^◌, ◌≤◌, ◌<◌}
use mathlib.Core.Bool.{true, false≢true}
use mathlib.Core.List.{List, [], ◌∷◌, ◌++◌, append_assoc, append-nil}
use mathlib.Core.Path.{◌≡◌, refl, ap, ◌∙◌}
use native.Mathlib.Nat.{div-eq_of_lt}
use native.Mathlib.Omega.{arith}
use lib.ListN.{drop_of_length-le}
use lib.Pow.{pow_mono}
use Rattle.counting.specs.Counting.{sum}
use Rattle.terms.specs.Kinds.{Side, north, south, west, east, by_kind, largest_side_map}
use Rattle.terms.proofs.Laws.{Known, is_row, is_channel, is_box, is_two_layer, known}
use Rattle.grid.specs.Grid.{places}
use Rattle.problem.specs.declared.Problem.{Problem}
use Rattle.problem.specs.Problem.{pins_in, net_count, shape_of}
use Rattle.ticket_sides.specs.Format.{byte, is_on, values_from}
use Rattle.ticket_sides.specs.Stages.{go_on, north_end, south_end, west_end, east_end}
use Rattle.ticket.specs.declared.Reading.{Reading}
use Rattle.ticket.specs.Read.{ticket_of, problem_of, problem_at}
use Rattle.ticket.proofs.Extents.{side_before, sides_extents}
use Rattle.ticket.proofs.Good.{Read, passed}
use Rattle.ticket.proofs.Sited.{found, fits}
use Rattle.ticket_bytes.specs.Bytes.{Bytes, side_map, bytes_on, bytes_of}
use Rattle.ticket_bytes.proofs.ByteBits.{all_bits}
use Rattle.ticket_bytes.proofs.ListBack.{values_drop}
use Rattle.ticket_bytes.proofs.SideBack.{Back, side_back}

-- ---- the header

-- no bit but the four sides' stands
sides_small : {kind : ℕ} → Known kind → largest_side_map kind < 2 ^ 4
sides_small is_row = omega arith
sides_small is_channel = omega arith
sides_small is_box = omega arith
sides_small is_two_layer = omega arith

-- a side map below 4 has neither west nor east
no_side : (x k : ℕ) → 2 ≤ k → x < 4 → is_on x k ≡ true → ⊥
no_side x k h lt t = let less : x < 2 ^ k = omega (arith, pow_mono {i = 2} {j = k} h) in false≢true (rw (div-eq_of_lt less) at t)

-- a side to the west or the east stands in boxes alone, and there byte 2 is its number of places
own_width : {kind : ℕ} (x y k : ℕ) → 2 ≤ k → Known kind → x ≤ largest_side_map kind → is_on x k ≡ true → by_kind kind 1 1 1 y 1 ≡ y
own_width x y k h is_row le t = absurd (no_side x k h (omega arith) t)
own_width x y k h is_channel le t = absurd (no_side x k h (omega arith) t)
own_width x y k h is_box le t = refl
own_width x y k h is_two_layer le t = absurd (no_side x k h (omega arith) t)

-- ---- the sides

abbrev problem : List ℕ → Problem
problem s = problem_at s (net_count (pins_in (found s))) (found s)

-- the side of bit k of the side map has its bytes from byte from to byte end
abbrev BackOn : List ℕ → Side → ℕ → ℕ → ℕ → Type 0
BackOn s side k from end = Back s (is_on (byte s 3) k) (pins_in (found s) side) (places (shape_of (problem s)) side) from end

-- each side's bytes begin where those of the one before it end
record Sides (s : List ℕ) : Type 0 where
  first : BackOn s north 0 4 (north_end s).at
  second : BackOn s south 1 (north_end s).at (south_end s).at
  third : BackOn s west 2 (south_end s).at (west_end s).at
  fourth : BackOn s east 3 (west_end s).at (east_end s).at

sides_back : (s : List ℕ) → Bytes s → Read s → Sides s
unfolding north_end south_end west_end east_end
sides_back s b r =
    let w = side_before s _ _ (west_end s) r.sides in
    let so = side_before s _ _ (south_end s) w in
    let n = side_before s _ _ (north_end s) so in
    let x = sides_extents s r.head refl r.sides in
    let own = own_width {kind = byte s 0} (byte s 3) (byte s 2) in
    let kind = known (byte s 0) r.header.named in
    let room = fits s r.header (found s) in
    record {
      first = side_back s b _ _ _ (λ t. refl) (room north) (go_on 4) n x.north;
      second = side_back s b _ _ _ (λ t. refl) (room south) (north_end s) so x.south;
      third = side_back s b _ _ _ (own 2 (omega arith) kind r.map) (room west) (south_end s) w x.west;
      fourth = side_back s b _ _ _ (own 3 (omega arith) kind r.map) (room east) (west_end s) r.sides x.east;
    }

map_back : (s : List ℕ) → Read s → Sides s → side_map (problem s) ≡ byte s 3
unfolding side_map sum
map_back s r q =
    let small = sides_small (known (byte s 0) r.header.named) in
    rw (q.first.stands, q.second.stands, q.third.stands, q.fourth.stands)
    (omega (arith, all_bits (byte s 3) 4 (omega (arith, r.map))))

pub regrouped : (a b c d e : List ℕ) → a ++ b ++ c ++ d ++ e ≡ a ++ (b ++ (c ++ (d ++ (e ++ []))))
regrouped a b c d e = simp (append_assoc, append-nil)

problem_back : (s : List ℕ) → Read s → Sides s → bytes_of (problem s) ≡ s
unfolding bytes_of values_from
problem_back s r q =
    let p = problem s in
    regrouped (byte s 0 ∷ byte s 1 ∷ byte s 2 ∷ side_map p ∷ []) (bytes_on p north) (bytes_on p south) (bytes_on p west) (bytes_on p east)
    ∙ rw (← drop_of_length-le s r.end, q.fourth.bytes, q.third.bytes, q.second.bytes, q.first.bytes, map_back s r q)
    (values_drop s (byte s) 0 0 4 r.head.size (λ x lt. refl))

pub bytes_back : (s : List ℕ) → Bytes s → (ticket_of s).refusal.number ≡ 0 → bytes_of (problem_of s) ≡ s
bytes_back s b e =
    let r = passed s e in
    ap (λ (t : Reading). bytes_of t.problem) r.whole ∙ problem_back s r (sides_back s b r)
