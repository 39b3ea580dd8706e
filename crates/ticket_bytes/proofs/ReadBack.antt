-- Read accepts the bytes of a good problem and reads that problem: each side was written where Read looks for it.
use Prim.Native.Nat.{ℕ, ◌+◌}
use mathlib.Core.Path.{◌≡◌, refl, sym, ap, ◌∙◌, subst}
use mathlib.Core.Bool.{Bool, true, false}
use mathlib.Core.List.{List, [], ◌∷◌, ◌++◌, append_assoc}
use native.Mathlib.Omega.{arith}
use lib.ListN.{length, length-append}
use borrow.Author.Tests.{le-leb}
use Rattle.terms.specs.Kinds.{north, south, west, east}
use Rattle.terms.proofs.Laws.{boxes_only}
use Rattle.problem.specs.declared.Problem.{Problem}
use Rattle.problem.specs.Problem.{pins_in, lone_net, width_of, Good}
use Rattle.ticket_sides.specs.Format.{byte, is_on, side_nets}
use Rattle.ticket_sides.specs.Stages.{go_on, header_of, north_end, south_end, west_end, east_end, ends_of}
use Rattle.ticket_sides.specs.declared.Cursor.{Cursor}
use Rattle.ticket.specs.Read.{pins_at, left_over, no_lone, judged, ticket_of, accepted_reading}
use Rattle.ticket.proofs.Laws.{going_on}
use Rattle.ticket_bytes.specs.Bytes.{side_map, bytes_on, bytes_of, Sized}
use Rattle.ticket_bytes.proofs.Parts.{Part, whole, front, back}
use Rattle.ticket_bytes.proofs.Sides.{side_read}
use Rattle.ticket_bytes.proofs.Header.{map_bits, width, fields_read, map_read}
use Rattle.problem.proofs.Pinned.{none_lone}

-- ---- the parts of a ticket

-- s has four bytes and then these lists, one behind the other
record Consecutive (s n u w e : List ℕ) : Type 0 where
  north : Part s 4 n
  south : Part s (4 + length n) u
  west : Part s (4 + length n + length u) w
  east : Part s (4 + length n + length u + length w) e
  size : length s ≡ 4 + length n + length u + length w + length e

consecutive : (a b c d : ℕ) (n u w e : List ℕ) → Consecutive ((a ∷ b ∷ c ∷ d ∷ []) ++ n ++ u ++ w ++ e) n u w e
consecutive a b c d n u w e =
    let h = a ∷ b ∷ c ∷ d ∷ [] in
    let s = h ++ n ++ u ++ w ++ e in
    let all : Part s 0 (h ++ (n ++ (u ++ (w ++ e)))) = subst (Part s 0) (simp append_assoc) (whole s) in
    let at_n : Part s 4 (n ++ (u ++ (w ++ e))) = back h (n ++ (u ++ (w ++ e))) all in
    let at_u = back n (u ++ (w ++ e)) at_n in
    let at_w = back u (w ++ e) at_u in
    record {
      north = front n (u ++ (w ++ e)) at_n;
      south = front u (w ++ e) at_u;
      west = front w e at_w;
      east = back w e at_w;
      size = simp length-append (omega arith);
    }

-- s is the ticket that states q
record States (s : List ℕ) (q : Problem) : Type 0 where
  kind : byte s 0 ≡ q.kind
  columns : byte s 1 ≡ q.n.0
  second : byte s 2 ≡ q.byte2
  map : byte s 3 ≡ side_map q
  sides : Consecutive s (bytes_on q north) (bytes_on q south) (bytes_on q west) (bytes_on q east)

bytes_state : (q : Problem) → States (bytes_of q) q
unfolding bytes_of
bytes_state q = record { kind = refl; columns = refl; second = refl; map = refl; sides = consecutive _ _ _ _ _ _ _ _ }

-- ---- the stages

-- the last one, whatever the form that the pins were read from
pub judged_read : (s : List ℕ) (q : Problem) → Good q → byte s 0 ≡ q.kind → byte s 1 ≡ q.n.0 → byte s 2 ≡ q.byte2
    → judged s q.pins ≡ accepted_reading q
judged_read s q good kind columns second =
    let lone : go_on 0 ≡ no_lone (lone_net (pins_in q.pins)) = ap no_lone (sym (none_lone q good)) in
    going_on _ lone refl
    ∙ (λ i. accepted_reading (record {
      kind = kind i;
      n = record { 0 = columns i };
      byte2 = second i;
      nets = sym good.nets i;
      pins = q.pins;
    }))

-- the byte behind each side
abbrev north_stop : Problem → ℕ
north_stop q = 4 + length (bytes_on q north)

abbrev south_stop : Problem → ℕ
south_stop q = north_stop q + length (bytes_on q south)

abbrev west_stop : Problem → ℕ
west_stop q = south_stop q + length (bytes_on q west)

abbrev east_stop : Problem → ℕ
east_stop q = west_stop q + length (bytes_on q east)

module _ (s : List ℕ) (q : Problem) (good : Good q) (sized : Sized q) (states : States s q) where
  header : header_of s ≡ go_on 4
  unfolding header_of
  header =
      let four = le-leb 4 (length s) (omega (arith, states.sides.size)) in
      rw (four, states.kind, states.columns, states.second, states.map, map_read q good) (fields_read q good (go_on 4))

  standing : (k : ℕ) {b : Bool} → is_on (side_map q) k ≡ b → b ≡ is_on (byte s 3) k
  standing k e = sym (ap (λ (x : ℕ). is_on x k) states.map ∙ e)

  north_read : (north_end s ≡ go_on (north_stop q)) × (side_nets s (is_on (byte s 3) 0) 4 (byte s 1) ≡ q.pins.north)
  unfolding north_end
  north_read =
      side_read s q.pins.north q.n.0 (byte s 1) 4
      (record { size = sized.north; small = good.numbered north; past = good.ends north })
      (λ t. states.columns) states.sides.north _ (standing 0 (map_bits q).north) (go_on 4) refl

  south_read : (south_end s ≡ go_on (south_stop q)) × (side_nets s (is_on (byte s 3) 1) (north_end s).at (byte s 1) ≡ q.pins.south)
  unfolding south_end
  south_read =
      side_read s q.pins.south q.n.0 (byte s 1) (north_stop q)
      (record { size = sized.south; small = good.numbered south; past = good.ends south })
      (λ t. states.columns) states.sides.south _ (standing 1 (map_bits q).south) (north_end s) north_read.0

  west_read : (west_end s ≡ go_on (west_stop q)) × (side_nets s (is_on (byte s 3) 2) (south_end s).at (byte s 2) ≡ q.pins.west)
  unfolding west_end
  west_read =
      side_read s q.pins.west (width_of q) (byte s 2) (south_stop q)
      (record { size = sized.west; small = good.numbered west; past = good.ends west })
      (λ t. states.second ∙ width q good west (boxes_only q.kind false true) t)
      states.sides.west _ (standing 2 (map_bits q).west) (south_end s) south_read.0

  east_read : (east_end s ≡ go_on (east_stop q)) × (side_nets s (is_on (byte s 3) 3) (west_end s).at (byte s 2) ≡ q.pins.east)
  unfolding east_end
  east_read =
      side_read s q.pins.east (width_of q) (byte s 2) (west_stop q)
      (record { size = sized.east; small = good.numbered east; past = good.ends east })
      (λ t. states.second ∙ width q good east (boxes_only q.kind false true) t)
      states.sides.east _ (standing 3 (map_bits q).east) (west_end s) west_read.0

  pins_read : pins_at s (ends_of s) ≡ q.pins
  pins_read i = record { north = north_read.1 i; south = south_read.1 i; west = west_read.1 i; east = east_read.1 i }

  none_left : left_over s (east_end s).at ≡ go_on (east_end s).at
  none_left = rw (le-leb (length s) (east_end s).at (omega (arith, states.sides.size, ap (λ (c : Cursor). c.at) east_read.0)))

  accepted_read : ticket_of s ≡ accepted_reading q
  unfolding ticket_of
  accepted_read =
      going_on _ (sym header) refl
      ∙ going_on _ (sym east_read.0) refl
      ∙ going_on _ (sym none_left) refl
      ∙ ap (judged s) pins_read
      ∙ judged_read s q good states.kind states.columns states.second

pub read_back : (q : Problem) → Good q → Sized q → ticket_of (bytes_of q) ≡ accepted_reading q
read_back q good sized = accepted_read (bytes_of q) q good sized (bytes_state q)
