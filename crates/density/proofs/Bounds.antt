-- The sizes that the pins ask for are needed: every legal wiring has them.
use Prim.Native.Nat.{ℕ, ◌+◌, ◌*◌, ◌%◌, ◌≤◌}
use mathlib.Core.Path.{◌≡◌, sym, ◌∙◌, subst}
use mathlib.Core.Logic.{inl, inr, ⊎_elim, ◌≢◌, by_cases}
use mathlib.Core.Bool.{Bool, true, and-eq-true_iff}
use native.Mathlib.Nat.{mul-le-mul_right}
use native.Mathlib.Decide.{dec_lt}
use native.Mathlib.Omega.{arith}
use lib.Dec.{eqb}
use borrow.Author.Tests.{eq-eqb, eqb-true}
use Rattle.counting.specs.Counting.{In, bit, most}
use Rattle.counting.proofs.Counts.{some_in, most_le, pigeonhole, ceil_le}
use Rattle.terms.specs.Kinds.{Side, west, east, box}
use Rattle.terms.specs.Limits.{largest_net}
use Rattle.grid.specs.Grid.{Grid, pin, point, places, column_of, Horizontal}
use Rattle.grid.specs.Legal.{Pins, Wiring, Held, Linked, Legal, GridOf, nets}
use Rattle.grid.proofs.Neighbours.{Touches}
use Rattle.grid.proofs.Pins.{Bare}
use Rattle.grid.specs.Motion.{turned, turn, moved_pins, moved_wiring}
use Rattle.grid.proofs.Motions.{turn_over, turn_back, turn_legal}
use Rattle.problem.proofs.Several.{Several, several_same, moved_several}
use Rattle.density.specs.Density.{passes, across, has_pin_on, sides_of, all_on, box_passes_at, box_passes, box_across, up}
use Rattle.density.specs.Density.{horizontals, verticals, tracks_for, floor, floor_of}
use Rattle.density.proofs.Free.{places_same, across_free, floor_box}
use Rattle.density.proofs.Tracks.{up_turned}
use Rattle.density.proofs.Layers.{horizontals_are, verticals_are, halves}
use Rattle.density.proofs.Pinned.{Pinned, node, or_in, passes_iff}
use Rattle.density.proofs.Crossing.{Crosses, crossing, beside}

module _ (g : Grid) (p : Pins) (x : Wiring) (y : Legal g p x) where
  held : {m : ℕ} {P : ℕ → Type 0} (u : Pinned g p m P) → Held g p x m (node u)
  held u = record { inside = u.on; net = u.net }

  -- a net that must pass a column holds a point of it on a horizontal layer
  must : (c m : ℕ) → In c g.n → 1 ≤ m → Pinned g p m (λ a. a ≤ c) → Pinned g p m (λ a. c ≤ a) → Pinned g p m (λ a. a ≢ c) → Crosses g x m c
  must c m i h a b d =
      by_cases (dec_lt (column_of g (node d)) c) (λ q. crossing (linked d b) c i (omega arith) b.at (inl q))
      (λ q. crossing (linked a d) c i a.at (omega arith) (inr (omega arith)))
    where
      linked : {P Q : ℕ → Type 0} (u : Pinned g p m P) (v : Pinned g p m Q) → Linked g p x m (node u) (node v)
      linked u v = y.whole m (node u) (node v) (omega arith) (held u) (held v)

  -- each such net has a point of its own in the column, so there are no more than points
  fits : (t : ℕ → ℕ → Bool) → ((c m : ℕ) → In c g.n → 1 ≤ m → t c m ≡ true → Crosses g x m c)
      → most (λ c. nets (t c)) g.n ≤ horizontals g * g.w
  fits t found = most_le _ g.n _ (λ c i. pigeonhole (t c) largest_net (λ l. eqb ((l + bit g.first) % 2) 0) (x c) g.w g.k
      (λ m h e. let (j, l, ij, il, f, q) = found c m i h.0 e in (j, l, ij, il, eq-eqb _ _ f, q)))

  passed : (c m : ℕ) → In c g.n → 1 ≤ m → passes g p c m ≡ true → Crosses g x m c
  passed c m i h e = let (a, b, d) = (passes_iff g p c m).0 e in must c m i h a b d

  pub across_fits : across g p ≤ horizontals g * g.w
  unfolding across
  across_fits = fits (passes g p) passed

  -- ---- boxes: a pin of the net on a side whose pins are joined to column c alone, and another pin

  module _ (two : Several g p) where
    -- a pin of a net has a point beside it that holds the net, since the net has another pin
    pub way_out : (s : Side) (a m : ℕ) → In a (places g s) → p s a ≡ m → 1 ≤ m
        → (i : ℕ) × (j : ℕ) × (l : ℕ) × Touches g s a i j l × Held g p x m (point i j l)
    way_out s a m i net h =
        let o = two s a (omega (arith, net)) in
        beside s a (y.whole m (pin o.side o.place) (pin s a) (omega arith)
        (record { inside = o.on; net = o.net ∙ net }) (record { inside = i; net = net })) o.different

    at_end : (s : Side) (c m : ℕ) → ((a i j l : ℕ) → Touches g s a i j l → (i ≡ c) × Horizontal g l) → 1 ≤ m → all_on g p m s ≡ true
        → Crosses g x m c
    unfolding all_on
    at_end s c m near h e =
        let (a, i, q) = some_in (λ a. eqb (p s a) m) (places g s) ((and-eq-true_iff (has_pin_on g p m s) (eqb (sides_of g p m) 1)).0 e).0 in
        let (i, j, l, t, held) = way_out s a m i (eqb-true (p s a) m q) h in
        let (same, flat) = near a i j l t in
        (j, l, held.inside.1, held.inside.2, flat, subst (λ (i : ℕ). x i j l ≡ m) same held.net)

    pub box_passed : (c m : ℕ) → In c g.n → 1 ≤ m → box_passes g p c m ≡ true → Crosses g x m c
    unfolding box_passes_at
    box_passed c m i h e =
        ⊎_elim (λ more. ⊎_elim (passed c m i h)
        (λ f. let (first, all) = (and-eq-true_iff _ _).0 f in
        subst (Crosses g x m) (sym (eqb-true c 1 first)) (at_end west 1 m (λ a i j l t. (t.0, t.2)) h all)) (or_in _ _ more))
        (λ f. let (last, all) = (and-eq-true_iff _ _).0 f in
        subst (Crosses g x m) (sym (eqb-true c g.n last)) (at_end east g.n m (λ a i j l t. (t.0, t.2)) h all)) (or_in _ _ e)

    pub box_across_fits : box_across g p ≤ horizontals g * g.w
    unfolding box_across
    box_across_fits = fits (box_passes g p) box_passed

pub up_fits : (g : Grid) (p : Pins) (x : Wiring) → Legal g p x → Several g p → up g p ≤ verticals g * g.n
up_fits g p x y two = rw (up_turned g p, verticals_are g, ← horizontals_are (turned g))
    (box_across_fits (turned g) (moved_pins turn p) (moved_wiring turn x) ((turn_legal g p x).0 y)
    (moved_several (turn_over g) (turn_back g) p two))

module _ (g : Grid) (p : Pins) (x : Wiring) (y : Legal g p x) where
  -- with at most h horizontal layers the grid has at least so many tracks
  tracks_needed : (h : ℕ) → 1 ≤ g.w → horizontals g ≤ h → tracks_for h (across g p) ≤ g.w
  unfolding tracks_for
  tracks_needed h i j = omega (arith, ceil_le (across g p) h g.w (omega (arith, across_fits g p x y, mul-le-mul_right g.w j)))

  -- and, a box, at least so many layers
  layers_needed : Several g p → 1 ≤ g.k → floor_of g p ≤ g.k
  unfolding floor
  layers_needed two i =
      let a = ceil_le (box_across g p) g.w (horizontals g) (omega (arith, box_across_fits g p x y two)) in
      let b = ceil_le (up g p) g.n (verticals g) (omega (arith, up_fits g p x y two)) in
      omega (arith, halves g)

-- ---- against every rival

-- g is any grid of the same length, without pins to the west and the east
pub narrowest : (g g' : Grid) (h : ℕ) (p : Pins) (x : Wiring) → g.n ≡ g'.n → 1 ≤ g'.w → Bare p west → Bare p east → Legal g' p x → horizontals g' ≤ h
    → tracks_for h (across g p) ≤ g'.w
narrowest g g' h p x same low bw be y few = rw (across_free g g' p same bw be) (tracks_needed g' p x y h low few)

-- g is any grid of the same box, whose nets have two pins or more
pub lowest : {n w : ℕ} {g g' : Grid} (p : Pins) (x : Wiring) → GridOf box n w g → GridOf box n w g' → Several g p → Legal g' p x
    → floor_of g p ≤ g'.k
lowest {g' = g'} p x d d' two y =
    rw (floor_box d d' p) (layers_needed g' p x y (several_same (places_same d d' p) two) d'.layers)
