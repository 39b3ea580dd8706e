-- The tables of a box whose nets on just north and east are the most numerous corner kind are fit for the assignment of lanes,
-- and with these lanes the box is laid.
use Prim.Native.Nat.{ℕ, zero, suc, ◌+◌, ◌*◌, ◌/◌, ◌%◌, ◌≤◌, ◌<◌, min}
use mathlib.Core.Path.{◌≡◌, refl, sym, ap, subst₂, ◌∙◌, fun_ext}
use mathlib.Core.List.{List}
use mathlib.Core.Bool.{Bool, true, false}
use native.Mathlib.Omega.{arith}
use native.Mathlib.Nat.{add-mul, suc-mul, mul-le-mul_right}
use native.Mathlib.Decide.{dec_le}
use denote.Bor.{Bor}
use Rattle.std.proofs.lemmas.Grind.{div_ceil_times}
use lib.Dec.{eqb}
use lib.ListN.{length, get_or, take}
use lib.Seq.{get_or-take, length-take-le}
use Rattle.counting.specs.Counting.{In, count, ceil}
use Rattle.counting.proofs.Counts.{count_same, count_le, ceil_le, round_up}
use Rattle.terms.specs.Kinds.{Side, north, south, west, east}
use Rattle.terms.specs.Limits.{largest_net, longest_side, net_entries}
use Rattle.grid.specs.Grid.{places}
use Rattle.grid.specs.Legal.{Pins, entry, pins_of}
use Rattle.grid.specs.Motion.{Orientation}
use Rattle.orientation.specs.Lookup.{diagonal, own_side, by_side, own_list, on_lines}
use Rattle.orientation.proofs.Looks.{side_pins}
use Rattle.switchbox_law.specs.Rules.{Tally, tally, pair, wanted, needs_track, needs_column}
use Rattle.switchbox_law.specs.Drawing.{Lanes, BoxLaid}
use Rattle.switchbox_law.proofs.Enough.{enough_tracks, enough_columns}
use Rattle.switchbox_law.proofs.FullLines.{drawn}
use Rattle.nets.specs.Tables.{pin_count_to, NetTable}
use Rattle.lanes.specs.Tables.{Nets, tallies, Asked}
use Rattle.lanes.proofs.Wanting.{turn_same}
use Rattle.switchbox.specs.Box.{standing, Canonical}
use Rattle.switchbox.specs.Layers.{box_lines, Drawable}

-- what is wanted of the nets up to m goes by their pins
wanted_same : (first : Bool) (t t' : ℕ → Tally) (m : ℕ) → ((j : ℕ) → In j m → t j ≡ t' j) → wanted first t m ≡ wanted first t' m
wanted_same first t t' zero h = refl
wanted_same first t t' (suc k) h =
    rw (h (suc k) (omega arith), turn_same first (λ m. pair (t m)) (λ m. pair (t' m)) k (λ j l. ap pair (h j (omega arith))))

-- no net has more pins on a side than it has places
few_pins : (xs counts : List ℕ) (m : ℕ) → Nets xs → NetTable (pin_count_to (entry xs) (length xs)) counts → m < net_entries
    → get_or counts m 0 ≤ longest_side
few_pins xs counts zero h t l = omega (arith, t.none)
few_pins xs counts (suc m) h t l = omega (arith, t.is (suc m) (omega arith), count_le (λ i. eqb (entry xs i) (suc m)) (length xs), h.short)

-- lanes by the same rule, and as entries of a list's first k
lanes_same : {want want' : ℕ → Bool} {own : ℕ → ℕ} {w k : ℕ} (s : List ℕ) → ((m : ℕ) → In m largest_net → want m ≡ want' m) → w ≤ k
    → Lanes want own w k (entry s) → Lanes want' own w k (entry (take k s))
lanes_same {want} {want'} {own} {w} {k} s same le d = record {
  got = λ m im e. let (i, ii, v) = d.got m im (same m im ∙ e) in (i, ii, here i ii ∙ v);
  beside = λ m j im e hj o. let (i, ii, v, u) = d.beside m j im (same m im ∙ e) hj o in (i, ii, here i (omega arith) ∙ v, u);
  only = λ i ii nz. rw (here i ii) (let o = d.only i ii (λ z. nz (here i ii ∙ z)) in (o.0, sym (same (entry s i) o.0) ∙ o.1));
  once = λ i j ii jj nz e. d.once i j ii jj (λ z. nz (here i ii ∙ z)) (sym (here i ii) ∙ e ∙ here j jj);
}
  where
    here : (i : ℕ) → In i k → entry (take k s) i ≡ entry s i
    here zero h = absurd (omega arith)
    here (suc i) h = get_or-take k s i 0 (omega arith)

module _ {o : Orientation} {a b c d ca cb cc' cd : List ℕ} {n w : ℕ} {before : List ℕ}
    (box : Canonical o a b c d ca cb cc' cd n w before) where
  -- the moved box's pins and counts at its side s are the ticket's at another
  abbrev p : Pins
  p = on_lines o (pins_of a b c d)

  abbrev counts : Side → List ℕ
  counts s = own_list o ca cb cc' cd s

  own_pins : (s : Side) → on_lines o (pins_of a b c d) s ≡ entry (own_list o a b c d s)
  own_pins s = side_pins a b c d (own_side o s)

  places_by : (s : Side) → length (own_list o a b c d s) ≡ places (standing n w) s
  places_by north = box.sides.long north
  places_by south = box.sides.long south
  places_by west = box.sides.long west
  places_by east = box.sides.long east

  counted : (m : ℕ) → In m largest_net → (s : Side) → get_or (own_list o ca cb cc' cd s) m 0
      ≡ tally (standing n w) (on_lines o (pins_of a b c d)) m s
  counted m h s = (box.counts (own_side o s)).is m h
      ∙ ap (λ (k : ℕ). count (λ i. eqb (entry (own_list o a b c d s) i) m) k) (places_by s)
      ∙ ap (λ (f : ℕ → ℕ). count (λ i. eqb (f i) m) (places (standing n w) s)) (sym (own_pins s))

  north_counts : (m : ℕ) → In m largest_net
      → tallies (counts north) (counts south) (counts west) (counts east) m ≡ tally (standing n w) (on_lines o (pins_of a b c d)) m
  north_counts m h = fun_ext go
    where
      go : (s : Side) → tallies (counts north) (counts south) (counts west) (counts east) m s
          ≡ tally (standing n w) (on_lines o (pins_of a b c d)) m s
      go north = counted m h north
      go south = counted m h south
      go west = counted m h west
      go east = counted m h east

  east_counts : (m : ℕ) → In m largest_net
      → ◌≡◌ {A = Tally} (tallies (counts east) (counts west) (counts south) (counts north) m)
      (λ s. tally (standing n w) (on_lines o (pins_of a b c d)) m (diagonal s))
  east_counts m h = fun_ext go
    where
      go : (s : Side) → tallies (counts east) (counts west) (counts south) (counts north) m s
          ≡ tally (standing n w) (on_lines o (pins_of a b c d)) m (diagonal s)
      go north = counted m h east
      go south = counted m h west
      go west = counted m h south
      go east = counted m h north

  by_track : (m : ℕ) → In m largest_net
      → wanted true (tallies (counts north) (counts south) (counts west) (counts east)) m ≡ needs_track (tally (standing n w) p) m
  by_track m i = wanted_same true _ _ m (λ j l. north_counts j (omega arith))

  by_column : (m : ℕ) → In m largest_net
      → wanted false (tallies (counts east) (counts west) (counts south) (counts north)) m ≡ needs_column (tally (standing n w) p) m
  by_column m i = wanted_same false _ _ m (λ j l. east_counts j (omega arith))

  lanes_fit : (n ≤ ceil n w * w) × (ceil n w * w < n + w)
  lanes_fit = round_up n w box.narrow

  own_nets : (s : Side) → Nets (own_list o a b c d s)
  own_nets s = box.sides.nets (own_side o s)

  few : (m : ℕ) (s : Side) → m < net_entries → get_or (own_list o ca cb cc' cd s) m 0 ≤ longest_side
  few m s l = few_pins (own_list o a b c d s) (own_list o ca cb cc' cd s) m (own_nets s) (box.counts (own_side o s)) l

  pub long_short : n ≤ longest_side
  long_short = omega (arith, (own_nets north).short, box.sides.long north)

  pub tracks_asked : Asked (counts north) (counts south) (counts west) (counts east) (own_list o a b c d west) (ceil n w * w) true
  tracks_asked = record {
    most = omega (arith, lanes_fit, long_short, box.oblong);
    side = own_nets west;
    beside = omega (arith, lanes_fit, box.oblong, box.sides.long west);
    fits = λ m l. omega (arith, few m north l, few m south l);
    room = omega (arith, count_same _ _ largest_net by_track, enough_tracks (standing n w) p box.corner, lanes_fit);
  }

  pub columns_asked : Asked (counts east) (counts west) (counts south) (counts north) (own_list o a b c d south) n false
  columns_asked = record {
    most = omega (arith, long_short);
    side = own_nets south;
    beside = omega (arith, box.sides.long south);
    fits = λ m l. omega (arith, few m east l, few m west l);
    room = omega (arith, count_same _ _ largest_net by_column, enough_columns (standing n w) p box.corner, box.oblong);
  }

  -- lanes beside the places of a list are lanes beside those of the moved box's side
  beside : {want : ℕ → Bool} {k : ℕ} {lane : ℕ → ℕ} (s : Side) (m : ℕ) → by_side n n w w s ≡ m
      → Lanes want (entry (own_list o a b c d s)) (length (own_list o a b c d s)) k lane → Lanes want (on_lines o (pins_of a b c d) s) m k lane
  beside {want} {k} {lane} s m e l =
      subst₂ (λ (f : ℕ → ℕ) (v : ℕ). Lanes want f v k lane) (sym (own_pins s)) (box.sides.long s ∙ e) l

  box_laid : (tracks columns : List ℕ)
      → Lanes (wanted true (tallies (counts north) (counts south) (counts west) (counts east))) (entry (own_list o a b c d west))
      (length (own_list o a b c d west)) (ceil n w * w) (entry tracks)
      → Lanes (wanted false (tallies (counts east) (counts west) (counts south) (counts north))) (entry (own_list o a b c d south))
      (length (own_list o a b c d south)) n (entry columns)
      → BoxLaid n w (ceil n w) p (box_lines w (ceil n w) p (take (ceil n w * w) tracks) (take n columns))
      (entry (take (ceil n w * w) tracks)) (entry (take n columns))
  box_laid tracks columns rows posts = record {
    drawing = drawn n w (ceil n w) p _ _;
    tracked = lanes_same tracks by_track (omega (arith, lanes_fit, box.oblong)) (beside west w refl rows);
    posted = lanes_same columns by_column (omega arith) (beside south n refl posts);
  }

  pub drawable : (tracks columns : List ℕ) → length tracks ≡ 2 * longest_side → length columns ≡ 2 * longest_side
      → Drawable o a b c d n w (take (ceil n w * w) tracks) (take n columns) (ceil n w) before
  drawable tracks columns lt lc = record {
    lined = record {
      sides = box.sides;
      long = omega (arith, long_short, box.narrow, box.oblong);
      wide = omega (arith, long_short, box.narrow, box.oblong);
      lanes = length-take-le _ tracks (omega (arith, tracks_asked.most));
      few = ceil_le n w longest_side (omega (arith, long_short, mul-le-mul_right longest_side box.narrow));
      room = omega (arith, box.room, add-mul (2 * ceil n w) 4 (n * w));
    };
    posts = length-take-le n columns (omega (arith, columns_asked.most));
    room = box.room;
  }

-- of four lists that are lent, that of a side
pub now_on : (a b c d : Bor (List ℕ)) {x : Bor (List ℕ)} {s t : Side} → x ≡ by_side a b c d s → s ≡ t → x.now ≡ by_side a.now b.now c.now d.now t
now_on a b c d {x} {s} {t} e f = ap (λ (r : Bor (List ℕ)). r.now) e ∙ go s ∙ ap (by_side a.now b.now c.now d.now) f
  where
    go : (s : Side) → ◌≡◌ {A = List ℕ} ((by_side a b c d s).now) (by_side a.now b.now c.now d.now s)
    go north = refl
    go south = refl
    go west = refl
    go east = refl

-- n/w rounded up as a quotient and one more where there is a remainder
pub ceil_is : (n w : ℕ) → 1 ≤ w → n / w + min 1 (n % w) ≡ ceil n w
ceil_is n w h = same (n / w + min 1 (n % w)) (ceil n w) (div_ceil_times n w h) (round_up n w h)
  where
    less : (p q : ℕ) → n ≤ p * w → q * w < n + w → p < q → ⊥
    less p q lp hq l = omega (arith, mul-le-mul_right w l, suc-mul p w)

    same : (p q : ℕ) → (n ≤ p * w) × (p * w < n + w) → (n ≤ q * w) × (q * w < n + w) → p ≡ q
    same p q hp hq = elim (dec_le p q) [
      | yes l ↦ elim (dec_le q p) [ yes k ↦ omega arith | no k ↦ absurd (less p q hp.0 hq.1 (omega arith)) ]
      | no l ↦ absurd (less q p hq.0 hp.1 (omega arith))
    ]

-- the lists that are looked up are the moved box's own: its counts ya to yd, and its west and south sides yw and ys
pub record Found (o : Orientation) (a b c d ca cb cc cd ya yb yc yd yw ys : List ℕ) : Type 0 where
  pub norths : ya ≡ own_list o ca cb cc cd north
  pub souths : yb ≡ own_list o ca cb cc cd south
  pub wests : yc ≡ own_list o ca cb cc cd west
  pub easts : yd ≡ own_list o ca cb cc cd east
  pub west_side : yw ≡ own_list o a b c d west
  pub south_side : ys ≡ own_list o a b c d south

pub found_on : {o : Orientation} {a b c d ca cb cc' cd ya yb yc yd yw ys : List ℕ}
    → ya ≡ own_list o ca cb cc' cd north → yb ≡ own_list o ca cb cc' cd south → yc ≡ own_list o ca cb cc' cd west
    → yd ≡ own_list o ca cb cc' cd east → yw ≡ own_list o a b c d west → ys ≡ own_list o a b c d south
    → Found o a b c d ca cb cc' cd ya yb yc yd yw ys
found_on norths souths wests easts west_side south_side = record {
  norths = norths;
  souths = souths;
  wests = wests;
  easts = easts;
  west_side = west_side;
  south_side = south_side;
}

module _ {o : Orientation} {a b c d ca cb cc' cd ya yb yc yd yw ys : List ℕ} {n w : ℕ} {before : List ℕ}
    (box : Canonical o a b c d ca cb cc' cd n w before) (found : Found o a b c d ca cb cc' cd ya yb yc yd yw ys) where
  pub tracks_found : Asked ya yb yc yd yw (ceil n w * w) true
  tracks_found = rw (found.norths, found.souths, found.wests, found.easts, found.west_side) (tracks_asked box)

  pub columns_found : Asked yd yc yb ya ys n false
  columns_found = rw (found.norths, found.souths, found.wests, found.easts, found.south_side) (columns_asked box)

  pub laid_found : (tracks columns : List ℕ) → Lanes (wanted true (tallies ya yb yc yd)) (entry yw) (length yw) (ceil n w * w)
      (entry tracks)
      → Lanes (wanted false (tallies yd yc yb ya)) (entry ys) (length ys) n (entry columns)
      → BoxLaid n w (ceil n w) (on_lines o (pins_of a b c d))
      (box_lines w (ceil n w) (on_lines o (pins_of a b c d)) (take (ceil n w * w) tracks) (take n columns))
      (entry (take (ceil n w * w) tracks)) (entry (take n columns))
  laid_found tracks columns rows posts = box_laid box tracks columns
      (rw (found.norths, found.souths, found.wests, found.easts, found.west_side) at rows)
      (rw (found.norths, found.souths, found.wests, found.easts, found.south_side) at posts)
