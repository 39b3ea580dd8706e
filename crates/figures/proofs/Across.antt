-- The lists of where nets begin and end, made from the tables of the spans, give across.
use Prim.Native.Nat.{ℕ, ◌+◌, ◌≤◌, ◌<◌}
use mathlib.Core.Path.{◌≡◌, refl, sym, ap, ◌∙◌}
use mathlib.Core.Logic.{by_cases}
use mathlib.Core.Bool.{true, false, false≢true}
use mathlib.Core.List.{List}
use native.Mathlib.Decide.{ℕ_discrete}
use native.Mathlib.Omega.{arith}
use lib.Dec.{eqb}
use borrow.Author.Tests.{ne_eqb}
use Rattle.counting.specs.Counting.{In, most}
use Rattle.counting.proofs.Leasts.{least_in, least_before}
use Rattle.counting.proofs.Counts.{count_same, count_le, most_same, most_le}
use Rattle.terms.specs.Kinds.{Side, north, south, west, east}
use Rattle.terms.specs.Limits.{largest_net}
use Rattle.grid.specs.Grid.{Grid, Node, upright, column_of, track_of}
use Rattle.grid.specs.Legal.{Pins, entry, pins_of, nets}
use Rattle.density.specs.Density.{passes_at, across, all_on, box_passes_at, box_across, up}
use Rattle.nets.specs.Spans.{Reach}
use Rattle.nets.specs.Tables.{pin_count_to, holds_at, first_held, last_held, low_of, high_of, NetTable}
use Rattle.nets.proofs.Reach.{last_in, last_after, reach_columns, reach_tracks}
use Rattle.figures.specs.Crossings.{at, nowhere, PerNet, begin_of, end_of, EndsAt, goes_over, box_over, AlongSides, Crossed}
use Rattle.figures.proofs.Ways.{Columns, Course, course, way, begin, end, goes_over_lem, ends_near, begins_far}
use Rattle.figures.proofs.Passes.{passes_reach}
use Rattle.figures.proofs.Alone.{Tells, all_near, all_far, tells}

-- the first and the last column that hold a net
pub held_columns : (a b : ℕ → ℕ) (m n : ℕ) → Columns (first_held a b n m) (last_held a b n m) n
held_columns a b m n = record {
  order = by_cases (ℕ_discrete (first_held a b n m) 0)
      (λ z. omega arith)
      (λ ne. let (i, h) = least_in (holds_at a b m) n _ refl ne in last_after a b m n _ i h);
  fits = by_cases (ℕ_discrete (last_held a b n m) 0) (λ z. omega arith) (λ ne. (last_in a b m n ne).0.1);
  none = λ z. by_cases (ℕ_discrete (last_held a b n m) 0)
      (λ e. e)
      (λ ne. let (i, h) = last_in a b m n ne in absurd (omega (arith, least_before (holds_at a b m) n _ i h, z)));
}

-- between the ends of the grid the least place is the first, the greatest the last
low_first : (f near far n c : ℕ) → In c n → low_of f near far (n + 1) ≡ c → f ≡ c
low_first f near far n c i e = by_cases (ℕ_discrete near 0)
    (λ z. by_cases (ℕ_discrete f 0)
    (λ q. by_cases (ℕ_discrete far 0) (λ o. absurd (omega (arith, rw (z, q, o) at e))) (λ ne. absurd (omega (arith, rw (z, q, ne_eqb far 0 ne) at e))))
    (λ ne. rw (z, ne_eqb f 0 ne) at e))
    (λ ne. absurd (omega (arith, rw (ne_eqb near 0 ne) at e)))

high_last : (l far n c : ℕ) → In c n → high_of l far (n + 1) ≡ c → l ≡ c
high_last l far n c i e = by_cases (ℕ_discrete far 0) (λ z. rw z at e) (λ ne. absurd (omega (arith, rw (ne_eqb far 0 ne) at e)))

-- ---- all nets

module _ (near far : List ℕ) {a b first last from to : List ℕ} {n : ℕ} (s : AlongSides a b first last n)
    (from_is : PerNet nowhere (λ m. begin_of (at first m) (at last m) (at near m) (at far m) (n + 1)) largest_net from)
    (to_is : PerNet nowhere (λ m. end_of (at first m) (at last m) (at near m) (at far m) (n + 1)) largest_net to) where
  small : n + 1 < nowhere
  small = omega (arith, s.fits)

  columns_of : (m : ℕ) → In m largest_net → Columns (at first m) (at last m) n
  columns_of m i = rw (s.firsts.is m i, s.lasts.is m i) (held_columns (entry a) (entry b) m n)

  course_of : (m : ℕ) → In m largest_net → Course (at first m) (at last m) (at near m) (at far m) n
      (low_of (at first m) (at near m) (at far m) (n + 1)) (high_of (at last m) (at far m) (n + 1)) (at from m) (at to m)
  course_of m i = rw (from_is.is m i, to_is.is m i) (course _ _ _ _ n (columns_of m i))

  pub ends : EndsAt a b n from to
  ends = record {
    begins = λ m c i ic e.
        let q = low_first (at first m) (at near m) (at far m) n c ic (begin small c ic (course_of m i) e) in
        (least_in (holds_at (entry a) (entry b) m) n c (sym (s.firsts.is m i) ∙ q) (omega arith)).1;
    ends = λ m c i ic e.
        let q = sym (s.lasts.is m i) ∙ high_last (at last m) (at far m) n c ic (end small c ic (course_of m i) e) in
        ap (holds_at (entry a) (entry b) m) (sym q) ∙ (last_in (entry a) (entry b) m n (λ z. omega (arith, q))).1;
    way = λ m i. way small (course_of m i);
    empty = (omega (arith, s.fits, from_is.none), omega (arith, s.fits, to_is.none));
  }

  -- what the lists say, on a grid along which the tables tell each net
  module _ (g : Grid) (p : Pins) (along : Node → ℕ) (r : (m : ℕ) → In m largest_net → Reach g p along m
      (low_of (at first m) (at near m) (at far m) (n + 1)) (high_of (at last m) (at far m) (n + 1))) where
    passes_same : (c m : ℕ) → In c n → In m largest_net → goes_over from to c m ≡ passes_at g p along c m
    passes_same c m ic i = goes_over_lem small c ic (course_of m i) ∙ sym (passes_reach g p along m c (r m i))

    plain_counts : most (λ c. nets (goes_over from to c)) n ≡ most (λ c. nets (passes_at g p along c)) n
    plain_counts = most_same _ _ n (λ c ic. count_same _ _ largest_net (λ m i. passes_same c m ic i))

    box_counts : {u v x y : Side} → ((m : ℕ) → In m largest_net → Tells g p m u v x y (at first m) (at last m) (at near m) (at far m))
        → most (λ c. nets (box_over from to n c)) n ≡ most (λ c. nets (box_passes_at g p along x y n c)) n
    unfolding box_passes_at
    box_counts {x = x} {y = y} t = most_same _ _ n (λ c ic.
        count_same (box_over from to n c) (box_passes_at g p along x y n c) largest_net (λ m i.
        let base = passes_same c m ic i in
        let here : eqb (at to m) 0 ≡ all_on g p m x = ends_near small (course_of m i) ∙ sym (all_near (t m i)) in
        let there : eqb (at from m) (n + 1) ≡ all_on g p m y = begins_far small (course_of m i) ∙ sym (all_far (t m i)) in
        cc))

  module _ (c d : List ℕ) (w : ℕ) (hc : NetTable (pin_count_to (entry c) w) near) (hd : NetTable (pin_count_to (entry d) w) far) where
    order_of : (m : ℕ) → In m largest_net → (at first m ≤ at last m) × (at first m ≡ 0 → at last m ≡ 0)
    order_of m i = ((columns_of m i).order, (columns_of m i).none)

    plain_columns : most (λ c. nets (goes_over from to c)) n ≡ across (upright n w 1) (pins_of a b c d)
    unfolding across
    plain_columns = let g = upright n w 1 in let p = pins_of a b c d in
        plain_counts g p (column_of g) (λ m i. reach_columns g p m (s.firsts.is m i) (s.lasts.is m i) (hc.is m i) (hd.is m i))

    box_columns : most (λ c. nets (box_over from to n c)) n ≡ box_across (upright n w 1) (pins_of a b c d)
    unfolding box_across
    box_columns = let g = upright n w 1 in let p = pins_of a b c d in
        box_counts g p (column_of g) (λ m i. reach_columns g p m (s.firsts.is m i) (s.lasts.is m i) (hc.is m i) (hd.is m i))
        (λ m i. tells north south west east refl (refl, refl, refl, refl) (s.firsts.is m i) (order_of m i) (hc.is m i) (hd.is m i))

    box_tracks : most (λ c. nets (box_over from to n c)) n ≡ up (upright w n 1) (pins_of d c a b)
    unfolding up
    box_tracks = let g = upright w n 1 in let p = pins_of d c a b in
        box_counts g p (track_of g) (λ m i. reach_tracks g p m (s.firsts.is m i) (s.lasts.is m i) (hc.is m i) (hd.is m i))
        (λ m i. tells west east south north (omega arith) (refl, refl, refl, refl) (s.firsts.is m i) (order_of m i) (hc.is m i)
        (hd.is m i))

  pub crossed_plain : {r : ℕ} → r ≡ most (λ c. nets (goes_over from to c)) n → Crossed false a b near far n r
  crossed_plain e = record {
    small = rw e (most_le _ n largest_net (λ c i. count_le (goes_over from to c) largest_net));
    columns = λ c d w hc hd. e ∙ plain_columns c d w hc hd;
    tracks = λ z. absurd (false≢true z);
  }

  pub crossed_box : {r : ℕ} → r ≡ most (λ c. nets (box_over from to n c)) n → Crossed true a b near far n r
  crossed_box e = record {
    small = rw e (most_le _ n largest_net (λ c i. count_le (box_over from to n c) largest_net));
    columns = λ c d w hc hd. e ∙ box_columns c d w hc hd;
    tracks = λ z c d w hc hd. e ∙ box_tracks c d w hc hd;
  }
