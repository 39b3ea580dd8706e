-- No box's floor is over its shape's hardest: each net has two of the 2n + 2w places, so no column and no track passes over n + w nets.
use Prim.Native.Nat.{ℕ, ◌+◌, ◌≤◌, ◌<◌}
use mathlib.Core.Path.{◌≡◌, subst}
use mathlib.Core.Logic.{⊎_elim}
use mathlib.Core.Bool.{Bool, true, ◌&&◌, and-eq-true_iff}
use native.Mathlib.Omega.{arith}
use lib.Dec.{eqb, leb}
use borrow.Author.Tests.{eqb-true, lt-leb}
use Rattle.counting.specs.Counting.{In, bit}
use Rattle.counting.proofs.Sums.{split, bit_le, bit_zero, sum_le, sum_add, sum_past}
use Rattle.counting.proofs.Counts.{some_in, count_le, most_le}
use Rattle.terms.specs.Kinds.{Side, north, south, west, east, box, layers_for}
use Rattle.terms.specs.Limits.{longest_side, largest_net}
use Rattle.terms.proofs.Laws.{of_box}
use Rattle.grid.specs.Grid.{Node, pin, places, column_of, track_of}
use Rattle.grid.specs.Legal.{Pins, nets}
use Rattle.density.specs.Density.{pin_on, has_pin, passes_at, has_pin_on, all_on, box_passes_at, box_passes, box_passes_track, box_across, up, floor_of}
use Rattle.density.proofs.Pinned.{side_in_lem, or_in}
use Rattle.problem.specs.declared.Problem.{Problem}
use Rattle.problem.specs.Problem.{pins_in, pin_count, filled_on, filled, width_of, shape_of, Good}
use Rattle.nets.proofs.Totals.{pins_summed}
use Rattle.problem.proofs.Sizes.{width_in, side_fits}
use Rattle.problem.proofs.Pinned.{pinned, two_pins}
use Rattle.hardest_law.specs.Hardest.{hardest_floor}
use Rattle.hardest_law.proofs.Rounding.{floors_grow, floor_hardest}

-- ---- a problem's nets

module _ (q : Problem) (good : Good q) where
  abbrev p : Pins
  p = pins_in q.pins

  filled_few : (s : Side) → filled_on p s ≤ places (shape_of q) s
  filled_few s =
      let empty : (a : ℕ) → places (shape_of q) s < a → bit (leb 1 (p s a)) ≡ 0 =
      λ a past. bit_zero (lt-leb 1 (p s a) (omega (arith, good.ends s a past))) in
      omega (
        arith,
        sum_past (λ a. bit (leb 1 (p s a))) (places (shape_of q) s) longest_side (side_fits good s) empty,
        count_le (λ a. leb 1 (p s a)) (places (shape_of q) s),
      )

  -- nets that have a pin are n + w at most, whatever picks them
  pub few : (t : ℕ → Bool) → ((m : ℕ) → In m largest_net → t m ≡ true → 1 ≤ pin_count p m) → nets t ≤ q.n.0 + width_of q
  unfolding filled
  few t pins =
      omega (
        arith,
        sum_le (λ m. bit (t m) + bit (t m)) (pin_count p) largest_net each,
        sum_add (λ m. bit (t m)) (λ m. bit (t m)) largest_net,
        pins_summed p good.numbered,
        filled_few north,
        filled_few south,
        filled_few west,
        filled_few east,
      )
    where
      each : (m : ℕ) → In m largest_net → bit (t m) + bit (t m) ≤ pin_count p m
      each m i = split (t m)
          (λ e. omega (arith, bit_le (t m), two_pins q good m i.0 (pins m i e)))
          (λ e. omega (arith, bit_zero e))

  -- a net that is passed has a pin
  passed : (at : Node → ℕ) (c m : ℕ) → passes_at (shape_of q) p at c m ≡ true → 1 ≤ pin_count p m
  unfolding passes_at has_pin pin_on
  passed at c m e =
      let first = ((and-eq-true_iff (has_pin (shape_of q) p at m (λ a. leb a c)) _).0 ((and-eq-true_iff _ _).0 e).0).0 in
      let (s, f) = side_in_lem (pin_on (shape_of q) p at m (λ a. leb a c)) first in
      let (a, i, h) = some_in (λ a. eqb (p s a) m && leb (at (pin s a)) c) (places (shape_of q) s) f in
      let (same, before) = (and-eq-true_iff (eqb (p s a) m) (leb (at (pin s a)) c)).0 h in
      pinned p m s a (omega (arith, side_fits good s)) (eqb-true (p s a) m same)

  all_pinned : (m : ℕ) (s : Side) → all_on (shape_of q) p m s ≡ true → 1 ≤ pin_count p m
  unfolding all_on
  all_pinned m s e =
      let (a, i, h) = some_in (λ a. eqb (p s a) m) (places (shape_of q) s) ((and-eq-true_iff (has_pin_on (shape_of q) p m s) _).0 e).0 in
      pinned p m s a (omega (arith, side_fits good s)) (eqb-true (p s a) m h)

  box_passed : (at : Node → ℕ) (near far : Side) (last c m : ℕ) → box_passes_at (shape_of q) p at near far last c m ≡ true → 1 ≤ pin_count p m
  unfolding box_passes_at
  box_passed at near far last c m e =
      ⊎_elim (λ more. ⊎_elim (passed at c m) (λ f. all_pinned m near ((and-eq-true_iff (eqb c 1) _).0 f).1) (or_in _ _ more))
      (λ f. all_pinned m far ((and-eq-true_iff (eqb c last) _).0 f).1) (or_in _ _ e)

  across_few : box_across (shape_of q) p ≤ q.n.0 + width_of q
  unfolding box_across
  across_few = let g = shape_of q in most_le _ _ _ (λ c i. few (box_passes g p c) (λ m h. box_passed (column_of g) west east g.n c m))

  up_few : up (shape_of q) p ≤ q.n.0 + width_of q
  unfolding up
  up_few = let g = shape_of q in most_le _ _ _ (λ c i. few (box_passes_track g p c) (λ m h. box_passed (track_of g) south north g.w c m))

pub box_floor : (q : Problem) → Good q → q.kind ≡ box → floor_of (shape_of q) (pins_in q.pins) ≤ hardest_floor q.n.0 q.byte2
box_floor q good boxy =
    let same : width_of q ≡ q.byte2 = of_box q.kind 1 1 1 q.byte2 1 boxy in
    let n = q.n.0 in
    let w = width_of q in
    let long = good.columns.0 in
    let broad = (width_in good).0 in
    subst (λ (v : ℕ). floor_of (shape_of q) (pins_in q.pins) ≤ hardest_floor n v) same
    (omega (arith, floors_grow n w long broad _ _ (n + w) (n + w) (across_few q good) (up_few q good), floor_hardest n w long broad))

pub box_layers_lem : (n w : ℕ) → In n longest_side → In w longest_side → layers_for box n w ≤ hardest_floor n w + 3
box_layers_lem n w i j = omega arith
