-- A box in any orientation is laid on the ticket's own lines. What is drawn are full lines, so that the moved box is laid too, its lanes in
-- reverse order where its places are; and carried back that is a legal wiring of the ticket.
use Prim.Native.Nat.{ℕ, ◌+◌, ◌*◌, ◌-◌, ◌/◌, ◌%◌, ◌≤◌, ◌<◌}
use mathlib.Core.Path.{◌≡◌, refl, sym, ap, ap₂, subst, ◌∙◌, fun_ext}
use mathlib.Core.Bool.{Bool, true, false, cond}
use native.Mathlib.Omega.{arith}
use native.Mathlib.Nat.{div-add-mod', mod-lt, div-lt_iff_lt-mul, mul-le-mul_right, suc-mul}
use lib.Arith.{digits_div, digits_mod}
use lib.Dec.{eqb}
use Rattle.counting.specs.Counting.{In, bit, count}
use Rattle.counting.proofs.Sums.{sum_back}
use Rattle.counting.proofs.Counts.{count_same}
use Rattle.terms.specs.Kinds.{Side, north, south, west, east}
use Rattle.terms.specs.Limits.{largest_net}
use Rattle.grid.specs.Grid.{Grid, upright, Node, pin, point, places, Inside}
use Rattle.grid.specs.Legal.{Pins, Wiring, holds, Legal}
use Rattle.grid.specs.Motion.{turned, west_east, south_north, turn, moved_pins, moved_wiring, Orientation, only, image}
use Rattle.grid.proofs.Pins.{Numbered}
use Rattle.grid.proofs.Motions.{back, oriented, restored, moved_back, moved_numbered, legal_same}
use Rattle.orientation.specs.Lookup.{diagonal, mirror_side, mirror_order, own_side, is_reversed, own_place, by_side, on_lines}
use Rattle.orientation.proofs.Looks.{own_place_in, own_place_again, own_places, moved_pin}
use Rattle.switchbox_law.specs.Rules.{Tally, tally, opposite, corner, needs_track, needs_column, corners, MostNorthEast}
use Rattle.switchbox_law.specs.Drawing.{Lanes, BoxDrawing, BoxLaid, Top}
use Rattle.switchbox_law.proofs.Needs.{corner_swap}
use Rattle.switchbox_law.proofs.Legality.{box_legal}

-- ---- what is across from a side stays across from it

turn_opposite : (τ : Bool) (s : Side) → cond τ (diagonal (opposite s)) (opposite s) ≡ opposite (cond τ (diagonal s) s)
turn_opposite false s = refl
turn_opposite true north = refl
turn_opposite true south = refl
turn_opposite true west = refl
turn_opposite true east = refl

across_from : (b : Bool) (s t : Side) → cond b (opposite s) (opposite t) ≡ opposite (cond b s t)
across_from false s t = refl
across_from true s t = refl

mirror_opposite : (φ ψ : Bool) (s : Side) → mirror_side φ ψ (opposite s) ≡ opposite (mirror_side φ ψ s)
mirror_opposite φ ψ north = across_from ψ south north
mirror_opposite φ ψ south = across_from ψ north south
mirror_opposite φ ψ west = across_from φ east west
mirror_opposite φ ψ east = across_from φ west east

own_opposite : (o : Orientation) (s : Side) → own_side o (opposite s) ≡ opposite (own_side o s)
own_opposite o s =
    rw (turn_opposite o.turned s) (mirror_opposite o.columns_reversed o.tracks_reversed (cond o.turned (diagonal s) s))

-- ---- the corner kinds change places

lines_tally : (o : Orientation) (g g' : Grid) (p : Pins) → ((s : Side) → places g' s ≡ places g (own_side o s))
    → (m : ℕ) (s : Side) → tally g' (on_lines o p) m s ≡ tally g p m (own_side o s)
lines_tally o g g' p long m s = ap (count (λ a. eqb (p (own_side o s) a) m)) (long s)

own_corner : (o : Orientation) (a b : Side) (c : Tally) → corner a b (λ s. c (own_side o s)) ≡ corner (own_side o a) (own_side o b) c
unfolding corner
own_corner o a b c = rw (own_opposite o a, own_opposite o b)

own_corners : (o : Orientation) (g g' : Grid) (p : Pins) → ((s : Side) → places g' s ≡ places g (own_side o s))
    → (a b : Side) → corners g' (on_lines o p) a b ≡ corners g p (own_side o a) (own_side o b)
own_corners o g g' p long a b =
    count_same (λ m. corner a b (tally g' (on_lines o p) m)) (λ m. corner (own_side o a) (own_side o b) (tally g p m)) largest_net
    (λ m i. ap (λ (c : Tally). corner a b c) (fun_ext (lines_tally o g g' p long m)) ∙ own_corner o a b (tally g p m))

module _ (g : Grid) (p : Pins) where
  -- seen through f, the nets on just north and east are the most numerous corner kind
  abbrev Most : (Side → Side) → Type 0
  Most f =
      (corners g p (f north) (f west) ≤ corners g p (f north) (f east)) × (corners g p (f south) (f east) ≤ corners g p (f north) (f east))
      × (corners g p (f south) (f west) ≤ corners g p (f north) (f east))

  mirror_most : (φ ψ : Bool)
      → Top (corners g p north east) (corners g p north west) (corners g p south east) (corners g p south west)
      (record { turned = false; columns_reversed = φ; tracks_reversed = ψ }) → Most (mirror_side φ ψ)
  mirror_most false false h = (h.1, h.2, h.3)
  mirror_most true false h = (h.0, h.3, h.2)
  mirror_most false true h = (h.3, h.0, h.1)
  mirror_most true true h = (h.2, h.1, h.0)

  corners_swap : (a b : Side) → corners g p a b ≡ corners g p b a
  corners_swap a b =
      count_same (λ m. corner a b (tally g p m)) (λ m. corner b a (tally g p m)) largest_net (λ m i. corner_swap a b (tally g p m))

  -- the turn leaves the corner of north and east and that of south and west, and exchanges the other two
  turn_most : (f : Side → Side) (τ : Bool) → Most f → Most (λ s. f (cond τ (diagonal s) s))
  turn_most f false h = h
  turn_most f true h =
      let ne = corners_swap (f north) (f east) in (
        omega (arith, ne, corners_swap (f south) (f east)),
        omega (arith, ne, corners_swap (f north) (f west)),
        omega (arith, ne, corners_swap (f south) (f west)),
      )

pub most_on_lines : (o : Orientation) (g g' : Grid) (p : Pins) → ((s : Side) → places g' s ≡ places g (own_side o s))
    → Top (corners g p north east) (corners g p north west) (corners g p south east) (corners g p south west) o
    → MostNorthEast g' (on_lines o p)
most_on_lines o g g' p long h =
    let φ = o.columns_reversed in
    let ψ = o.tracks_reversed in
    let k = turn_most g p (mirror_side φ ψ) o.turned (mirror_most g p φ ψ h) in
    let ne = own_corners o g g' p long north east in
    record {
      nw = omega (arith, k, ne, own_corners o g g' p long north west);
      se = omega (arith, k, ne, own_corners o g g' p long south east);
      sw = omega (arith, k, ne, own_corners o g g' p long south west);
    }

-- ---- places and lanes in another order

-- f takes 1 to n to themselves, and is its own inverse there
record Flip (n : ℕ) (f : ℕ → ℕ) : Type 0 where
  pub inside : (i : ℕ) → In i n → In (f i) n
  pub again : (i : ℕ) → In i n → f (f i) ≡ i

own_flip : (r : Bool) (n : ℕ) → Flip n (own_place r n)
own_flip r n = record { inside = own_place_in r n; again = own_place_again r n }

-- lane (t - 1) × w + j becomes lane (t - 1) × w + h j
lane : ℕ → (ℕ → ℕ) → ℕ → ℕ
lane w h s = (s - 1) / w * w + h ((s - 1) % w + 1)

module _ {w : ℕ} {h : ℕ → ℕ} (r : Flip w h) where
  lane_at : (t j : ℕ) → In j w → lane w h (t * w + j) ≡ t * w + h j
  unfolding lane
  lane_at t j hj =
      let b : j - 1 < w = omega arith in
      let a : t * w + j - 1 ≡ t * w + (j - 1) = omega arith in
      let d : (t * w + j - 1) / w ≡ t = ap (λ (u : ℕ). u / w) a ∙ digits_div t b in
      let m : (t * w + j - 1) % w + 1 ≡ j = omega (arith, ap (λ (u : ℕ). u % w) a ∙ digits_mod t b) in
      rw (d, m)

  lane_flip : (q : ℕ) → 1 ≤ w → Flip (q * w) (lane w h)
  lane_flip q hw = record { inside = there; again = back }
    where
      split : (s : ℕ) → In s (q * w) → (t : ℕ) × (j : ℕ) × (t < q) × In j w × (s ≡ t * w + j)
      split s i =
          let whole : (s - 1) / w * w + (s - 1) % w ≡ s - 1 = div-add-mod' (s - 1) w in
          let rest : (s - 1) % w < w = mod-lt (s - 1) hw in
          let low : (s - 1) / w < q = (div-lt_iff_lt-mul hw).1 (omega arith) in
          ((s - 1) / w, (s - 1) % w + 1, low, omega arith, omega arith)

      there : (s : ℕ) → In s (q * w) → In (lane w h s) (q * w)
      there s i = let (t, j, lt, hj, e) = split s i in
          omega (arith, ap (lane w h) e ∙ lane_at t j hj, r.inside j hj, mul-le-mul_right w lt, suc-mul t w)

      back : (s : ℕ) → In s (q * w) → lane w h (lane w h s) ≡ s
      back s i = let (t, j, lt, hj, e) = split s i in
          ap (lane w h) (ap (lane w h) e ∙ lane_at t j hj) ∙ lane_at t (h j) (r.inside j hj)
          ∙ ap (λ (u : ℕ). t * w + u) (r.again j hj) ∙ sym e

-- lanes in another order, in which the places of the side `own` are too
lanes_flip : {want want' : ℕ → Bool} {own own' : ℕ → ℕ} {w k : ℕ} {lanes : ℕ → ℕ} (f : ℕ → ℕ) → Flip k f → Flip w f
    → ((m : ℕ) → want' m ≡ want m) → ((j : ℕ) → In j w → own' j ≡ own (f j)) → Lanes want own w k lanes
    → Lanes want' own' w k (λ i. lanes (f i))
lanes_flip {own = own} {lanes = lanes} f r r' same seen d = record {
  got = λ m im e. let (i, ii, v) = d.got m im (sym (same m) ∙ e) in (f i, r.inside i ii, ap lanes (r.again i ii) ∙ v);
  beside = λ m j im e hj o.
      let (i, ii, v, u) = d.beside m (f j) im (sym (same m) ∙ e) (r'.inside j hj) (sym (seen j hj) ∙ o) in
      (f i, r'.inside i ii, ap lanes (r'.again i ii) ∙ v, seen (f i) (r'.inside i ii) ∙ ap own (r'.again i ii) ∙ u);
  only = λ i ii nz. let (im, e) = d.only (f i) (r.inside i ii) nz in (im, same (lanes (f i)) ∙ e);
  once = λ i j ii jj nz e. sym (r.again i ii) ∙ ap f (d.once (f i) (f j) (r.inside i ii) (r.inside j jj) nz e) ∙ r.again j jj;
}

-- ---- a box with its columns in the order f and its tracks in the order h

module _ {n w q : ℕ} {p p' : Pins} {x : Wiring} {tracks columns : ℕ → ℕ} {f h : ℕ → ℕ} (hw : 1 ≤ w) (rf : Flip n f) (rh : Flip w h)
    (seen : (s : Side) (i : ℕ) → p' s i ≡ p s (by_side f f h h s i)) where
  drawing_flip : BoxDrawing n w q p x tracks columns
      → BoxDrawing n w q p' (λ i j l. x (f i) (h j) l) (λ s. tracks (lane w h s)) (λ i. columns (f i))
  drawing_flip d = record {
    norths = λ i j l hi hj hl v. d.norths (f i) (h j) l (rf.inside i hi) (rh.inside j hj) hl v ∙ sym (seen north i);
    souths = λ i j l hi hj hl v. d.souths (f i) (h j) l (rf.inside i hi) (rh.inside j hj) hl v ∙ sym (seen south i);
    rows = λ i j l hi hj hl v.
        d.rows (f i) (h j) l (rf.inside i hi) (rh.inside j hj) hl v ∙ ap tracks (sym (lane_at rh (l / 2 - 1) j hj));
    easts = λ i j hi hj. d.easts (f i) (h j) (rf.inside i hi) (rh.inside j hj) ∙ sym (seen east j);
    posts = λ i j hi hj. d.posts (f i) (h j) (rf.inside i hi) (rh.inside j hj);
    wests = λ i j hi hj. d.wests (f i) (h j) (rf.inside i hi) (rh.inside j hj) ∙ sym (seen west j);
  }

  laid_flip : tally (upright n w (2 * q + 4)) p' ≡ tally (upright n w (2 * q + 4)) p → BoxLaid n w q p x tracks columns
      → BoxLaid n w q p' (λ i j l. x (f i) (h j) l) (λ s. tracks (lane w h s)) (λ i. columns (f i))
  laid_flip same d = record {
    drawing = drawing_flip d.drawing;
    tracked = lanes_flip (lane w h) (lane_flip rh q hw) first_row (λ m. ap (λ (t : ℕ → Tally). needs_track t m) same)
        (λ j hj. seen west j ∙ ap (p west) (sym (in_first j hj))) d.tracked;
    posted = lanes_flip f rf rf (λ m. ap (λ (t : ℕ → Tally). needs_column t m) same) (λ i hi. seen south i) d.posted;
  }
    where
      -- the first w lanes, which stand beside the west pins
      first_row : Flip w (lane w h)
      first_row = subst (λ (k : ℕ). Flip k (lane w h)) (omega arith) (lane_flip rh 1 hw)

      in_first : (j : ℕ) → In j w → lane w h j ≡ h j
      in_first j hj = ap (lane w h) (omega arith) ∙ lane_at rh 0 j hj ∙ omega arith

-- ---- the moved box

-- places counted from the other end are as many
count_own : (r : Bool) (t : ℕ → Bool) (n : ℕ) → count (λ a. t (own_place r n a)) n ≡ count t n
count_own false t n = refl
count_own true t n = sum_back (λ a. bit (t a)) n

order_opposite : (φ ψ : Bool) (s : Side) → mirror_order φ ψ (opposite s) ≡ mirror_order φ ψ s
order_opposite φ ψ north = refl
order_opposite φ ψ south = refl
order_opposite φ ψ west = refl
order_opposite φ ψ east = refl

reversed_opposite : (o : Orientation) (s : Side) → is_reversed o (opposite s) ≡ is_reversed o s
reversed_opposite o s =
    rw (turn_opposite o.turned s) (order_opposite o.columns_reversed o.tracks_reversed (cond o.turned (diagonal s) s))

-- the grids of the ticket and of the moved box, which stands upright
abbrev own_grid : Bool → ℕ → ℕ → ℕ → Grid
own_grid τ n w k = record { n = n; w = w; k = k; first = τ }

abbrev laid_grid : Bool → ℕ → ℕ → ℕ → Grid
laid_grid τ n w k = upright (cond τ w n) (cond τ n w) k

stands : (τ : Bool) (n w k : ℕ) → cond τ (turned (own_grid τ n w k)) (own_grid τ n w k) ≡ laid_grid τ n w k
stands false n w k = refl
stands true n w k = refl

module _ (o : Orientation) (n w : ℕ) where
  -- the ticket's column and track that the moved box has as column i and track j, and a wiring in this order
  abbrev own_column : ℕ → ℕ
  own_column i = own_place (is_reversed o north) (cond o.turned w n) i

  abbrev own_track : ℕ → ℕ
  own_track j = own_place (is_reversed o west) (cond o.turned n w) j

  abbrev reversed : Wiring → Wiring
  reversed x i j l = x (own_column i) (own_track j) l

  module _ (k : ℕ) (p : Pins) where
    abbrev pins : Pins
    pins = moved_pins (image o (own_grid o.turned n w k)) p

    pin_line : (s : Side) (i : ℕ) → pins s i ≡ on_lines o p s (own_place (is_reversed o s) (places (laid_grid o.turned n w k) s) i)
    pin_line s i =
        let g = own_grid o.turned n w k in
        rw (own_places g o s, stands o.turned n w k) at (moved_pin o g p s i)

    pin_lines : (s : Side) (i : ℕ) → pins s i ≡ on_lines o p s (by_side own_column own_column own_track own_track s i)
    pin_lines north i = pin_line north i
    pin_lines south i = rw (reversed_opposite o north) at (pin_line south i)
    pin_lines west j = pin_line west j
    pin_lines east j = rw (reversed_opposite o west) at (pin_line east j)

    same_tally : tally (laid_grid o.turned n w k) pins ≡ tally (laid_grid o.turned n w k) (on_lines o p)
    same_tally = fun_ext (λ m. fun_ext (λ s.
        let r = is_reversed o s in
        let top = places (laid_grid o.turned n w k) s in
        count_same (λ a. eqb (pins s a) m) (λ a. eqb (on_lines o p s (own_place r top a)) m) top
        (λ a i. ap (λ (v : ℕ). eqb v m) (pin_line s a)) ∙ count_own r (λ a. eqb (on_lines o p s a) m) top))

-- ---- the way back

module _ (g : Grid) where
  tracks_point : (ψ : Bool) (i j l : ℕ) → only ψ (south_north g) (point i j l) ≡ point i (own_place ψ g.w j) l
  tracks_point false i j l = refl
  tracks_point true i j l = refl

  columns_point : (φ : Bool) (i j l : ℕ) → only φ (west_east g) (point i j l) ≡ point (own_place φ g.n i) j l
  columns_point false i j l = refl
  columns_point true i j l = refl

  back_point : (o : Orientation) (i j l : ℕ) → back o g (point i j l)
      ≡ only o.turned turn (point (own_place o.columns_reversed g.n i) (own_place o.tracks_reversed g.w j) l)
  back_point o i j l = rw (tracks_point o.tracks_reversed i j l, columns_point o.columns_reversed i _ l)

-- reversed twice and turned back, each point is as it was
turned_back : (τ φ ψ : Bool) (n w : ℕ) (x : Wiring) (i j l : ℕ) → In i n → In j w → cond τ (x j i l) (x i j l)
    ≡ moved_wiring (only τ turn) (reversed (record { turned = τ; columns_reversed = φ; tracks_reversed = ψ }) n w x)
    (own_place φ n i) (own_place ψ w j) l
turned_back false φ ψ n w x i j l hi hj = sym (ap₂ (λ (a b : ℕ). x a b l) (own_place_again φ n i hi) (own_place_again ψ w j hj))
turned_back true φ ψ n w x i j l hi hj = sym (ap₂ (λ (a b : ℕ). x a b l) (own_place_again ψ w j hj) (own_place_again φ n i hi))

either_size : (τ : Bool) {a b : ℕ} → 1 ≤ a → 1 ≤ b → 1 ≤ cond τ a b
either_size false ha hb = hb
either_size true ha hb = ha

-- laid on the ticket's lines: so the moved box is laid with its lines reversed, and legal; moved back, it is the wiring laid
pub oriented_laid : (o : Orientation) {n w q : ℕ} {p : Pins} {x : Wiring} {tracks columns : ℕ → ℕ} → 1 ≤ n → 1 ≤ w → 1 ≤ q
    → Numbered (record { n = n; w = w; k = 2 * q + 4; first = o.turned }) p
    → BoxLaid (cond o.turned w n) (cond o.turned n w) q (on_lines o p) x tracks columns
    → Legal (record { n = n; w = w; k = 2 * q + 4; first = o.turned }) p (λ i j l. cond o.turned (x j i l) (x i j l))
oriented_laid o {n} {w} {q} {p} {x} hn hw hq few d =
    let k = 2 * q + 4 in
    let c = restored o (own_grid o.turned n w k) in
    let e = oriented o (own_grid o.turned n w k) in
    let up = stands o.turned n w k in
    let some_column = either_size o.turned hw hn in
    let some_track = either_size o.turned hn hw in
    let few' = rw up at (moved_numbered c e p few) in
    let f = own_flip (is_reversed o north) (cond o.turned w n) in
    let h = own_flip (is_reversed o west) (cond o.turned n w) in
    let laid = laid_flip some_track f h (pin_lines o n w k p) (same_tally o n w k p) d in
    let legal = box_legal some_column some_track hq few' laid in
    legal_same same (moved_back c e p (reversed o n w x) (rw up legal))
  where
    same : (u : Node) → Inside (own_grid o.turned n w (2 * q + 4)) u → holds p (λ i j l. cond o.turned (x j i l) (x i j l)) u
        ≡ holds p (moved_wiring (back o (own_grid o.turned n w (2 * q + 4))) (reversed o n w x)) u
    same (pin s a) h = refl
    same (point i j l) h =
        turned_back o.turned o.columns_reversed o.tracks_reversed n w x i j l h.0 h.1
        ∙ ap (holds (λ s a. 0) (reversed o n w x)) (sym (back_point (own_grid o.turned n w (2 * q + 4)) o i j l))
