-- The edge floor is needed: every legal wiring of the box has so many layers. It is at least the floor.
use Prim.Native.Nat.{ℕ, ◌+◌, ◌*◌, ◌%◌, ◌≤◌, max}
use mathlib.Core.Path.{◌≡◌, sym, ap, ap₂, ◌∙◌}
use mathlib.Core.Logic.{⊎_elim}
use mathlib.Core.Bool.{Bool, true, not, ◌&&◌, and-eq-true_iff}
use native.Mathlib.Omega.{arith}
use lib.Dec.{eqb}
use borrow.Author.Tests.{eqb-true, eq-eqb}
use Rattle.counting.specs.Counting.{In, bit, most, ceil}
use Rattle.counting.proofs.Sums.{split, bit_le, bit_zero, sum_le, sum_same}
use Rattle.counting.proofs.Counts.{most_le, most_same, most_grows, ceil_le, ceil_grows, held_in, held_all, held_one, held_each}
use Rattle.terms.specs.Kinds.{Side, west, east, south, north, box}
use Rattle.terms.specs.Limits.{largest_net}
use Rattle.grid.specs.Grid.{Grid, places, column_of, track_of, Horizontal}
use Rattle.grid.specs.Legal.{Pins, Wiring, Legal, GridOf}
use Rattle.grid.proofs.Neighbours.{Touches}
use Rattle.grid.specs.Motion.{turned, turn, moved_pins, moved_wiring}
use Rattle.grid.proofs.Motions.{turn_over, turn_back, turn_legal}
use Rattle.problem.proofs.Several.{Several, several_same, moved_several}
use Rattle.density.specs.Density.{pin_on, has_pin, passes_at, all_on, box_passes_at, box_passes, box_across, up}
use Rattle.density.specs.Density.{horizontals, verticals, floor, floor_of}
use Rattle.density.specs.EdgeFloor.{pin_beside, pins_beside, need_at, column_need, track_need, edge_floor}
use Rattle.density.proofs.Free.{size, n_same, w_same, places_same}
use Rattle.density.proofs.Tracks.{passes_turned}
use Rattle.density.proofs.Layers.{horizontals_are, verticals_are, halves}
use Rattle.density.proofs.Pinned.{or_in}
use Rattle.density.proofs.Bounds.{way_out, box_passed}

-- ---- a column has a point on a horizontal layer for all that it needs

module _ (g : Grid) (p : Pins) (x : Wiring) (y : Legal g p x) (two : Several g p) where
  abbrev horizontal : ℕ → Bool
  horizontal l = eqb ((l + bit g.first) % 2) 0

  -- how many points of column c on horizontal layers hold net m
  abbrev points : ℕ → ℕ → ℕ
  points c m = held_in horizontal (x c) g.w g.k m

  passed : (c m : ℕ) → In c g.n → 1 ≤ m → bit (box_passes g p c m) ≤ points c m
  passed c m i h = split (box_passes g p c m)
      (λ e. let (j, l, ij, il, f, q) = box_passed g p x y two c m i h e in
      omega (arith, bit_le (box_passes g p c m), held_one horizontal (x c) g.w g.k m j l ij il (eq-eqb _ _ f) q))
      (λ e. omega (arith, bit_zero e))

  -- a pin's way out is a point of its own track
  out : (s : Side) (c m j : ℕ) → ((i k l : ℕ) → Touches g s j i k l → (i ≡ c) × (k ≡ j) × Horizontal g l) → In j (places g s) → p s j ≡ m
      → 1 ≤ m → (l : ℕ) × In l g.k × (horizontal l ≡ true) × (x c j l ≡ m)
  out s c m j near i net h =
      let (i, k, l, t, held) = way_out g p x y two s j m i net h in
      let (same, own, flat) = near i k l t in
      (l, held.inside.2, eq-eqb _ _ flat, ap₂ (λ (a b : ℕ). x a b l) (sym same) (sym own) ∙ held.net)

  beside : (c m : ℕ) → 1 ≤ m → pins_beside g p west east g.n c m ≤ points c m
  beside c m h = held_each horizontal (x c) g.w g.k (pin_beside p west east g.n c m) m (λ j i e. ⊎_elim
      (λ f. let (first, q) = (and-eq-true_iff (eqb c 1) (eqb (p west j) m)).0 f in
      let at = eqb-true c 1 first in
      out west c m j (λ i k l t. (t.0 ∙ sym at, t.1, t.2)) i (eqb-true (p west j) m q) h)
      (λ f. let (last, q) = (and-eq-true_iff (eqb c g.n) (eqb (p east j) m)).0 f in
      let at = eqb-true c g.n last in
      out east c m j (λ i k l t. (t.0 ∙ sym at, t.1, t.2)) i (eqb-true (p east j) m q) h)
      (or_in (eqb c 1 && eqb (p west j) m) (eqb c g.n && eqb (p east j) m) e))

  column_fits : (c : ℕ) → In c g.n → column_need g p c ≤ horizontals g * g.w
  unfolding column_need
  column_fits c i =
      held_all horizontal (x c) g.w g.k (need_at g p (column_of g) west east g.n c) largest_net
      (λ m h. omega (arith, passed c m i h.0, beside c m h.0))

-- ---- tracks, by the turned grid

module _ (g : Grid) (p : Pins) where
  track_turned : (c : ℕ) → track_need g p c ≡ column_need (turned g) (moved_pins turn p) c
  unfolding track_need column_need
  track_turned c = sum_same _ _ largest_net (λ m i. ap (λ b. max (bit b) (pins_beside g p south north g.w c m)) (passes_turned g p c m))

  most_turned : most (track_need g p) g.w ≡ most (column_need (turned g) (moved_pins turn p)) g.w
  most_turned = most_same _ _ g.w (λ c i. track_turned c)

track_fits : (g : Grid) (p : Pins) (x : Wiring) → Legal g p x → Several g p → (c : ℕ) → In c g.w
    → track_need g p c ≤ verticals g * g.n
track_fits g p x y two c i = rw (track_turned g p c, verticals_are g, ← horizontals_are (turned g))
    (column_fits (turned g) (moved_pins turn p) (moved_wiring turn x) ((turn_legal g p x).0 y)
    (moved_several (turn_over g) (turn_back g) p two) c i)

-- ---- layers

edge_needed : (g : Grid) (p : Pins) (x : Wiring) → Legal g p x → Several g p → 1 ≤ g.k → edge_floor g p ≤ g.k
unfolding floor
edge_needed g p x y two i =
    let a = ceil_le (most (column_need g p) g.n) g.w (horizontals g) (omega (arith, most_le _ g.n _ (column_fits g p x y two))) in
    let b = ceil_le (most (track_need g p) g.w) g.n (verticals g) (omega (arith, most_le _ g.w _ (track_fits g p x y two))) in
    omega (arith, halves g)

-- ---- the layers and the first direction play no part

sized : (n n' w w' k k' : ℕ) (b b' : Bool) → n ≡ n' → w ≡ w' → (p : Pins)
    → most (column_need (size n w k b) p) n ≡ most (column_need (size n' w' k' b') p) n'
unfolding column_need box_passes_at all_on passes_at has_pin pin_on
sized n n' w w' k k' b b' e f p = ap₂ (λ (a c : ℕ). most (column_need (size a c k b) p) a) e f

edge_box : {n w : ℕ} {g g' : Grid} → GridOf box n w g → GridOf box n w g' → (p : Pins) → edge_floor g p ≡ edge_floor g' p
edge_box {g = g} {g' = g'} d d' p =
    let n = n_same d d' p in
    let w = w_same d d' p in
    let a = sized g.n g'.n g.w g'.w g.k g'.k g.first g'.first n w p in
    let b = sized g.w g'.w g.n g'.n g.k g'.k (not g.first) (not g'.first) w n (moved_pins turn p) in
    ap₂ floor (ap₂ ceil a w) (ap₂ ceil (most_turned g p ∙ b ∙ sym (most_turned g' p)) n)

-- every rival, on any grid of the box
pub no_fewer : {n w : ℕ} {g g' : Grid} (p : Pins) (x : Wiring) → GridOf box n w g → GridOf box n w g' → Several g p → Legal g' p x
    → edge_floor g p ≤ g'.k
no_fewer p x d d' two y = rw (edge_box d d' p) (edge_needed _ p x y (several_same (places_same d d' p) two) d'.layers)

-- ---- beside the floor

max_grows : {a b c d : ℕ} → a ≤ c → b ≤ d → max a b ≤ max c d
max_grows h k = omega arith

floor_grows : (a b c d : ℕ) → a ≤ c → b ≤ d → floor a b ≤ floor c d
unfolding floor
floor_grows a b c d h k = max_grows (omega arith) (max_grows (omega arith) (max_grows (omega arith) (omega arith)))

module _ (g : Grid) (p : Pins) where
  across_le : box_across g p ≤ most (column_need g p) g.n
  unfolding box_across column_need
  across_le = most_grows _ _ g.n (λ c i. sum_le _ (need_at g p (column_of g) west east g.n c) largest_net (λ m h. omega arith))

  up_le : up g p ≤ most (track_need g p) g.w
  unfolding up track_need
  up_le = most_grows _ _ g.w (λ c i. sum_le _ (need_at g p (track_of g) south north g.w c) largest_net (λ m h. omega arith))

  pub floor_le : floor_of g p ≤ edge_floor g p
  floor_le = floor_grows _ _ _ _ (ceil_grows _ _ g.w across_le) (ceil_grows _ _ g.n up_le)
