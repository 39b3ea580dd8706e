-- What the first and the last column need, from the tables; the others need what they must pass. All of it for columns and for tracks at
-- once: `along` is the place along the grid, x the near side and y the far one.
use Prim.Native.Nat.{ℕ, ◌+◌, ◌-◌, ◌≤◌, ◌<◌, max}
use mathlib.Core.Path.{◌≡◌, refl, sym, ap, ap₂, ◌∙◌, subst}
use mathlib.Core.Logic.{◌≢◌, by_cases}
use mathlib.Core.Bool.{Bool, true, false, ◌&&◌, ◌||◌, or-true, or-false, and-eq-true_iff}
use mathlib.Core.List.{List}
use native.Mathlib.Decide.{ℕ_discrete}
use native.Mathlib.Omega.{arith}
use lib.Dec.{eqb}
use borrow.Author.Tests.{eq-eqb, ne_eqb}
use Rattle.counting.specs.Counting.{In, bit, sum, count, most}
use Rattle.counting.proofs.Sums.{bit_one, bit_le, sum_none, sum_more, sum_grows, sum_le, sum_same, sum_add, sum_zero, sum_part}
use Rattle.counting.proofs.Counts.{some_in, count_le, count_same, most_outer}
use Rattle.terms.specs.Kinds.{Side, north, south, west, east}
use Rattle.terms.specs.Limits.{largest_net, net_entries, table_sum}
use Rattle.grid.specs.Grid.{Grid, Node, upright, places, column_of, track_of}
use Rattle.grid.specs.Legal.{Pins, entry, pins_of, nets}
use Rattle.density.specs.Density.{passes_at, has_pin_on, sides_of, all_on, box_passes_at, box_across, up}
use Rattle.density.specs.EdgeFloor.{pin_beside, pins_beside, need_at, column_need, track_need}
use Rattle.nets.specs.Spans.{Reach}
use Rattle.nets.specs.Tables.{pin_count_to, holds_at, low_of, high_of, NetTable}
use Rattle.nets.proofs.Reach.{reach_columns, reach_tracks}
use Rattle.figures.specs.Crossings.{at}
use Rattle.figures.proofs.Passes.{passes_reach}
use Rattle.edge_floor.specs.Needs.{over, need_from, other_from, EndsOf, MostNeed}

-- ---- one net

-- its pins, or 1 where it has none and the column must pass it
apart : (o : Bool) (e : ℕ) → e + bit (eqb e 0 && o) ≡ max (bit o) e
apart o e = by_cases (ℕ_discrete e 0) (λ z. rw (eq-eqb e 0 z) (omega (arith, z))) (λ ne. rw (ne_eqb e 0 ne) (omega (arith, ne, bit_le o)))

pub two_sums : (first last near far beside : List ℕ) (past c : ℕ)
    → sum (at beside) largest_net + count (other_from first last near far beside past c) largest_net
    ≡ sum (need_from first last near far beside past c) largest_net
two_sums first last near far beside past c =
    sym (sum_add (at beside) (λ m. bit (other_from first last near far beside past c m)) largest_net)
    ∙ sum_same _ (need_from first last near far beside past c) largest_net (λ m i. apart _ (at beside m))

-- the two sums over the nets below m
pub record NeedTo (first last near far beside : List ℕ) (past c m pins others : ℕ) : Type 0 where
  pub beside_it : pins ≡ sum (at beside) (m - 1)
  pub passed : others ≡ count (other_from first last near far beside past c) (m - 1)

module _ {first last near far beside : List ℕ} {past c m pins others : ℕ} (r : NeedTo first last near far beside past c m pins others) where
  pub few_passed : others ≤ m - 1
  few_passed = omega (arith, r.passed, count_le (other_from first last near far beside past c) (m - 1))

  module _ (one : 1 ≤ m) where
    one_more : (f : ℕ → ℕ) → sum f m ≡ sum f (m - 1) + f m
    one_more f = let here : m - 1 + 1 ≡ m = omega arith in rw here at (sum_more f (m - 1))

    pub pins_more : m ≤ largest_net → pins + at beside m ≤ sum (at beside) largest_net
    pins_more h = omega (arith, r.beside_it, one_more (at beside), sum_grows (at beside) m largest_net h)

    pub need_more : {x : ℕ} → x ≡ bit (other_from first last near far beside past c m)
        → NeedTo first last near far beside past c (m + 1) (pins + at beside m) (others + x)
    need_more e = let same : m + 1 - 1 ≡ m = omega arith in record {
      beside_it = rw same (omega (arith, r.beside_it, one_more (at beside)));
      passed = rw same (omega (arith, r.passed, e, one_more (λ v. bit (other_from first last near far beside past c v))));
    }

  pub need_all : m ≡ net_entries → pins + others ≡ sum (need_from first last near far beside past c) largest_net
  need_all e = let all : m - 1 ≡ largest_net = omega arith in
      omega (arith, rw all at r.beside_it, rw all at r.passed, two_sums first last near far beside past c)

pub need_none : {first last near far beside : List ℕ} {past c : ℕ} → NeedTo first last near far beside past c 1 0 0
need_none = record { beside_it = sym (sum_none _); passed = sym (sum_none _) }

-- a column that must pass a net for b or d has pins of it beside it
absorbed : (a b d : Bool) (e : ℕ) → (b ≡ true → 1 ≤ e) → (d ≡ true → 1 ≤ e) → max (bit a) e ≡ max (bit (a || b || d)) e
absorbed true b d e h k = refl
absorbed false true d e h k = omega (arith, h refl)
absorbed false false true e h k = omega (arith, k refl)
absorbed false false false e h k = refl

module _ (g : Grid) (p : Pins) (along : Node → ℕ) (x y : Side) (n : ℕ) (same : places g y ≡ places g x) where
  on_side : (s : Side) (m : ℕ) → all_on g p m s ≡ true → (a : ℕ) × In a (places g s) × (eqb (p s a) m ≡ true)
  unfolding all_on
  on_side s m e = some_in (λ a. eqb (p s a) m) (places g s) ((and-eq-true_iff (has_pin_on g p m s) (eqb (sides_of g p m) 1)).0 e).0

  counted : (c m a : ℕ) → In a (places g x) → pin_beside p x y n c m a ≡ true → 1 ≤ pins_beside g p x y n c m
  counted c m a i e = omega (arith, bit_one e, sum_part (λ a. bit (pin_beside p x y n c m a)) a (places g x) i)

  near_pin : (c m a : ℕ) → eqb c 1 ≡ true → eqb (p x a) m ≡ true → pin_beside p x y n c m a ≡ true
  near_pin c m a e h = rw (e, h) refl

  far_pin : (c m a : ℕ) → eqb c n ≡ true → eqb (p y a) m ≡ true → pin_beside p x y n c m a ≡ true
  far_pin c m a e h = rw (e, h) (or-true (eqb c 1 && eqb (p x a) m))

  need_net : {low high e : ℕ} (c m : ℕ) → Reach g p along m low high → e ≡ pins_beside g p x y n c m
      → max (bit (over low high c)) e ≡ need_at g p along x y n c m
  unfolding box_passes_at
  need_net {low} {high} {e} c m r q =
      ap₂ (λ (b : Bool) (k : ℕ). max (bit b) k) (sym (passes_reach g p along m c r)) q
      ∙ absorbed (passes_at g p along c m) (eqb c 1 && all_on g p m x) (eqb c n && all_on g p m y) (pins_beside g p x y n c m)
      (λ f. let (first, all) = (and-eq-true_iff (eqb c 1) (all_on g p m x)).0 f in
      let (a, i, h) = on_side x m all in
      counted c m a i (near_pin c m a first h))
      (λ f. let (last, all) = (and-eq-true_iff (eqb c n) (all_on g p m y)).0 f in
      let (a, i, h) = on_side y m all in
      counted c m a (subst (In a) same i) (far_pin c m a last h))

  -- ---- all nets

  abbrev need : ℕ → ℕ
  need c = sum (need_at g p along x y n c) largest_net

  abbrev passed : ℕ → ℕ
  passed c = nets (box_passes_at g p along x y n c)

  passed_le : (c : ℕ) → passed c ≤ need c
  passed_le c = sum_le _ (need_at g p along x y n c) largest_net (λ m i. omega arith)

  -- no side is beside a column between the first and the last
  between : (c : ℕ) → c ≢ 1 → c ≢ n → need c ≡ passed c
  between c ne nl = sum_same (need_at g p along x y n c) _ largest_net (λ m i.
      omega (arith, sum_zero (λ a. bit (pin_beside p x y n c m a)) (places g x) (λ a j. rw (ne_eqb c 1 ne, ne_eqb c n nl) refl)))

  most_need : 1 ≤ n → max (most passed n) (max (need 1) (need n)) ≡ most need n
  most_need one = most_outer passed need n one passed_le between

  -- ---- by the tables

  module _ (first last near far : List ℕ)
      (r : (m : ℕ) → In m largest_net → Reach g p along m (low_of (at first m) (at near m) (at far m) (n + 1))
      (high_of (at last m) (at far m) (n + 1)))
    where
      need_is : (c : ℕ) (beside : List ℕ) → ((m : ℕ) → In m largest_net → at beside m ≡ pins_beside g p x y n c m)
          → sum (need_from first last near far beside (n + 1) c) largest_net ≡ need c
      need_is c beside e = sum_same (need_from first last near far beside (n + 1) c) _ largest_net (λ m i. need_net c m (r m i) (e m i))

      need_first : 1 < n → NetTable (pin_count_to (p x) (places g x)) near
          → sum (need_from first last near far near (n + 1) 1) largest_net ≡ need 1
      need_first long t = need_is 1 near (λ m i. t.is m i ∙ count_same (λ a. eqb (p x a) m) (pin_beside p x y n 1 m) (places g x)
          (λ a j. rw (ne_eqb 1 n (λ q. omega arith)) (sym (or-false _))))

      need_last : 1 < n → NetTable (pin_count_to (p y) (places g x)) far
          → sum (need_from first last near far far (n + 1) n) largest_net ≡ need n
      need_last long t = need_is n far (λ m i. t.is m i ∙ count_same (λ a. eqb (p y a) m) (pin_beside p x y n n m) (places g x)
          (λ a j. rw (ne_eqb n 1 (λ q. omega arith), eq-eqb n n refl) refl))

      need_only : n ≡ 1 → (beside : List ℕ) → NetTable (λ m. count (holds_at (p x) (p y) m) (places g x)) beside
          → sum (need_from first last near far beside (n + 1) 1) largest_net ≡ need 1
      need_only one beside t = need_is 1 beside (λ m i. t.is m i ∙ count_same (holds_at (p x) (p y) m) (pin_beside p x y n 1 m) (places g x)
          (λ a j. rw one refl))

      module _ {across : ℕ} (e : across ≡ most passed n) where
        most_two : {begin end : ℕ} → 1 < n → NetTable (pin_count_to (p x) (places g x)) near → NetTable (pin_count_to (p y) (places g x)) far
            → begin ≡ sum (need_from first last near far near (n + 1) 1) largest_net
            → end ≡ sum (need_from first last near far far (n + 1) n) largest_net → max across (max begin end) ≡ most need n
        most_two long tx ty b d = omega (arith, e, b ∙ need_first long tx, d ∙ need_last long ty, most_need (omega arith))

        most_one : {only : ℕ} (beside : List ℕ) → n ≡ 1 → NetTable (λ m. count (holds_at (p x) (p y) m) (places g x)) beside
            → only ≡ sum (need_from first last near far beside (n + 1) 1) largest_net → max across only ≡ most need n
        most_one beside one t b = omega (arith, e, b ∙ need_only one beside t, ap need one, most_need (omega arith))

-- ---- columns and tracks

module _ {a b near far : List ℕ} {n w : ℕ} (h : EndsOf a b near far n w) (first last : List ℕ) {across : ℕ} (few : across ≤ table_sum) where
  pub needs_two : {begin end r : ℕ} → 1 < n → begin ≡ sum (need_from first last near far near (n + 1) 1) largest_net
      → end ≡ sum (need_from first last near far far (n + 1) n) largest_net → (begin ≤ table_sum) × (end ≤ table_sum)
      → r ≡ max across (max begin end) → MostNeed a b first last near far n w across r
  unfolding column_need track_need box_across up
  needs_two long eb ee fit er = record {
    small = omega (arith, er);
    columns = λ c d f l e. let g = upright n w 1 in let p = pins_of c d a b in
        er ∙ most_two g p (column_of g) west east n refl first last near far
        (λ m i. reach_columns g p m (f.is m i) (l.is m i) (h.nears.is m i) (h.fars.is m i)) e long h.nears h.fars eb ee;
    tracks = λ c d f l e. let g = upright w n 1 in let p = pins_of b a c d in
        er ∙ most_two g p (track_of g) south north n refl first last near far
        (λ m i. reach_tracks g p m (f.is m i) (l.is m i) (h.nears.is m i) (h.fars.is m i)) e long h.nears h.fars eb ee;
  }

  pub needs_one : {only r : ℕ} (beside : List ℕ) → n ≡ 1 → NetTable (λ m. count (holds_at (entry a) (entry b) m) w) beside
      → only ≡ sum (need_from first last near far beside (n + 1) 1) largest_net → only ≤ table_sum → r ≡ max across only
      → MostNeed a b first last near far n w across r
  unfolding column_need track_need box_across up
  needs_one beside one t eo fit er = record {
    small = omega (arith, er);
    columns = λ c d f l e. let g = upright n w 1 in let p = pins_of c d a b in
        er ∙ most_one g p (column_of g) west east n refl first last near far
        (λ m i. reach_columns g p m (f.is m i) (l.is m i) (h.nears.is m i) (h.fars.is m i)) e beside one t eo;
    tracks = λ c d f l e. let g = upright w n 1 in let p = pins_of b a c d in
        er ∙ most_one g p (track_of g) south north n refl first last near far
        (λ m i. reach_tracks g p m (f.is m i) (l.is m i) (h.nears.is m i) (h.fars.is m i)) e beside one t eo;
  }
