-- Where a net begins and ends, looked for along the whole sides, is what the tables say of it: past a side's end no place holds a net.
use Prim.Native.Nat.{ℕ, zero, suc, ◌+◌, ◌≤◌, ◌<◌}
use mathlib.Core.Path.{◌≡◌, refl, sym, ap, ap₂, ◌∙◌, fun_ext}
use mathlib.Core.Logic.{by_cases}
use mathlib.Core.Bool.{Bool, false, cond, ◌||◌, or_comm}
use native.Mathlib.Decide.{ℕ_discrete}
use native.Mathlib.Omega.{arith}
use lib.Dec.{eqb, leb}
use borrow.Author.Tests.{ne_eqb, le-leb}
use mathlib.Mathlib.Data.Bool.Basic.{or-eq-false-eq-eq-false-and-eq-false}
use Rattle.counting.specs.Counting.{In, bit, least, some}
use Rattle.counting.proofs.Sums.{bit_zero, sum_zero}
use Rattle.counting.proofs.Leasts.{least_zero, least_le}
use Rattle.terms.specs.Kinds.{Side, north, south, west, east, has_side}
use Rattle.terms.specs.Limits.{longest_side}
use Rattle.grid.specs.Grid.{Grid, Node, places, column_of, track_of}
use Rattle.grid.specs.Legal.{Pins}
use Rattle.density.specs.Density.{passes_at, has_pin_on, sides_of, box_passes_at, passes, box_passes, box_passes_track}
use Rattle.problem.specs.declared.Problem.{Problem}
use Rattle.problem.specs.Problem.{pins_in, pin_count_on, pin_count, width_of, shape_of, Good}
use Rattle.problem.proofs.Sizes.{side_fits}
use Rattle.nets.specs.Spans.{Reach}
use Rattle.nets.specs.Tables.{pin_count_to, holds_at, first_held, last_held, low_of, high_of}
use Rattle.nets.proofs.Totals.{count_whole}
use Rattle.nets.proofs.Reach.{reach_columns, reach_tracks}
use Rattle.figures.proofs.Alone.{some_count, tells}
use Rattle.figures.proofs.Across.{held_columns}
use Rattle.board_law.specs.Runs.{no_place, or_no_place, Ends, low_along, high_along, in_run}
use Rattle.board_law.proofs.Runs.{Lies, box_passed, plain_passed}

-- ---- what fails past n is not found there

pub least_past : (t : ℕ → Bool) (n top : ℕ) → n ≤ top → ((x : ℕ) → n < x → t x ≡ false) → least t n ≡ least t top
unfolding least
least_past t n zero le out = let e : n ≡ 0 = omega arith in rw e
least_past t n (suc top) le out = by_cases (ℕ_discrete n (suc top))
    (λ q. ap (least t) q)
    (λ ne. rw (out (suc top) (omega arith), ← least_past t n top (omega arith) out) (keeps (least t n)))
  where
    keeps : (x : ℕ) → x ≡ cond (eqb x 0) 0 x
    keeps x = by_cases (ℕ_discrete x 0) (λ z. rw z) (λ nz. rw (ne_eqb x 0 nz))

pub last_past : (a b : ℕ → ℕ) (n top m : ℕ) → n ≤ top → ((x : ℕ) → n < x → holds_at a b m x ≡ false) → last_held a b n m ≡ last_held a b top m
unfolding last_held
last_past a b n zero m le out = let e : n ≡ 0 = omega arith in rw e
last_past a b n (suc top) m le out = by_cases (ℕ_discrete n (suc top))
    (λ q. ap (λ (k : ℕ). last_held a b k m) q)
    (λ ne. rw (out (suc top) (omega arith)) (last_past a b n top m (omega arith) out))

-- two sides with no first place have no pin
none_first : (a b : ℕ → ℕ) (n m : ℕ) → first_held a b n m ≡ 0 → (pin_count_to a n m ≡ 0) × (pin_count_to b n m ≡ 0)
none_first a b n m z = (
  sum_zero (λ x. bit (eqb (a x) m)) n (λ x i. bit_zero (fails x i).0),
  sum_zero (λ x. bit (eqb (b x) m)) n (λ x i. bit_zero (fails x i).1),
)
  where
    fails : (x : ℕ) → In x n → (eqb (a x) m ≡ false) × (eqb (b x) m ≡ false)
    fails x i = (or-eq-false-eq-eq-false-and-eq-false _ _).0 (least_zero (holds_at a b m) n x z i)

-- ---- the least and the greatest place, from either

low_same : (f v u past : ℕ) {x : ℕ} {near : Bool} → f < no_place → x ≡ or_no_place f → near ≡ leb 1 v → 1 ≤ f + v + u
    → low_along x near past ≡ low_of f v u past
low_same f v u past less ex en some = by_cases (ℕ_discrete v 0)
    (λ z. by_cases (ℕ_discrete f 0)
    (λ q. rw (ex, en, z, q, ne_eqb u 0 (λ o. omega (arith, z, q, some))))
    (λ nf. rw (ex, en, z, ne_eqb f 0 nf, ne_eqb f no_place (λ e. omega arith))))
    (λ nv. rw (en, le-leb 1 v (omega (arith, nv)), ne_eqb v 0 nv))

high_same : (l u past : ℕ) {x : ℕ} {far : Bool} → x ≡ l → far ≡ leb 1 u → high_along x far past ≡ high_of l u past
high_same l u past ex ef = by_cases (ℕ_discrete u 0)
    (λ z. rw (ex, ef, z))
    (λ nz. rw (ef, le-leb 1 u (omega (arith, nz)), ne_eqb u 0 nz))

-- ---- a net of a good problem

-- place tells places along the sides a and b, of n places each, from the near side to the far one, of w places each; the net has a pin
record Along (g : Grid) (p : Pins) (m : ℕ) (place : Node → ℕ) (a b near far : Side) (n w : ℕ) : Type 0 where
  sizes : (places g a ≡ n) × (places g b ≡ n) × (places g near ≡ w) × (places g far ≡ w)
  sides : sides_of g p m ≡ bit (has_pin_on g p m a) + bit (has_pin_on g p m b) + bit (has_pin_on g p m near) + bit (has_pin_on g p m far)
  there : 1 ≤ pin_count_on p m a + pin_count_on p m b + pin_count_on p m near + pin_count_on p m far
  reach : Reach g p place m (low_of (first_held (p a) (p b) n m) (pin_count_to (p near) w m) (pin_count_to (p far) w m) (n + 1))
      (high_of (last_held (p a) (p b) n m) (pin_count_to (p far) w m) (n + 1))

columns_along : (g : Grid) (p : Pins) (m : ℕ) → 1 ≤ pin_count p m → Along g p m (column_of g) north south west east g.n g.w
unfolding pin_count
columns_along g p m some =
    record { sizes = (refl, refl, refl, refl); sides = refl; there = some; reach = reach_columns g p m refl refl refl refl }

tracks_along : (g : Grid) (p : Pins) (m : ℕ) → 1 ≤ pin_count p m → Along g p m (track_of g) west east south north g.w g.n
unfolding pin_count
tracks_along g p m some =
    record {
      sizes = (refl, refl, refl, refl);
      sides = omega arith;
      there = omega arith;
      reach = reach_tracks g p m refl refl refl refl;
    }

-- what was found along the whole sides: the first and the last place, and whether the near and the far side have the net
record Found (p : Pins) (m : ℕ) (a b near far : Side) (low high : ℕ) (on_near on_far : Bool) : Type 0 where
  first : low ≡ or_no_place (first_held (p a) (p b) longest_side m)
  last : high ≡ last_held (p a) (p b) longest_side m
  nears : on_near ≡ some (λ c. eqb (p near c) m) longest_side
  fars : on_far ≡ some (λ c. eqb (p far c) m) longest_side

module _ {q : Problem} (good : Good q) {m : ℕ} (one : 1 ≤ m) where
  abbrev g : Grid
  g = shape_of q

  abbrev p : Pins
  p = pins_in q.pins

  none_past : (s : Side) (x : ℕ) → places g s < x → eqb (p s x) m ≡ false
  none_past s x past = ne_eqb (p s x) m (λ e. omega (arith, good.ends s x past))

  whole : (s : Side) {k : ℕ} → places g s ≡ k → pin_count_to (p s) k m ≡ pin_count_on p m s
  whole s e = ap (λ (k : ℕ). pin_count_to (p s) k m) (sym e) ∙ count_whole g p s (side_fits good s) (good.ends s) m one

  on_side : (s : Side) {k : ℕ} {x : Bool} → places g s ≡ k → x ≡ some (λ c. eqb (p s c) m) longest_side → x ≡ leb 1 (pin_count_to (p s) k m)
  on_side s e h = h ∙ some_count (λ c. eqb (p s c) m) longest_side ∙ ap (leb 1) (sym (whole s e))

  module _ {place : Node → ℕ} {a b near far : Side} {n w : ℕ} (k : Along g p m place a b near far n w) where
    abbrev first : ℕ
    first = first_held (p a) (p b) n m

    abbrev last : ℕ
    last = last_held (p a) (p b) n m

    abbrev nears : ℕ
    nears = pin_count_to (p near) w m

    abbrev fars : ℕ
    fars = pin_count_to (p far) w m

    fits : n ≤ longest_side
    fits = omega (arith, k.sizes.0, side_fits good a)

    held_past : (x : ℕ) → n < x → holds_at (p a) (p b) m x ≡ false
    held_past x past = rw (none_past a x (omega (arith, k.sizes.0))) (none_past b x (omega (arith, k.sizes.1)))

    pinned : 1 ≤ first + nears + fars
    pinned = by_cases (ℕ_discrete first 0)
        (λ z. omega (
          arith,
          k.there,
          none_first (p a) (p b) n m z,
          whole a k.sizes.0,
          whole b k.sizes.1,
          whole near k.sizes.2,
          whole far k.sizes.3,
        ))
        (λ nz. omega arith)

    lies : Lies g p place m a b near far n first last nears fars
    lies =
        let columns = held_columns (p a) (p b) m n in
        record {
          reach = k.reach;
          tells = tells a b near far k.sides k.sizes refl (columns.order, columns.none) refl refl;
          columns = columns;
          pinned = pinned;
          small = omega (arith, fits);
        }

    module _ {low high : ℕ} {on_near on_far : Bool} (found : Found p m a b near far low high on_near on_far) (c : ℕ) where
      same_run : in_run (low_of first nears fars (n + 1)) (high_of last fars (n + 1)) n c
          ≡ in_run (low_along low on_near (n + 1)) (high_along high on_far (n + 1)) n c
      same_run =
          let first_whole = least_past (holds_at (p a) (p b) m) n longest_side fits held_past in
          let last_whole = last_past (p a) (p b) n longest_side m fits held_past in
          let less : first < no_place = omega (arith, fits, least_le (holds_at (p a) (p b) m) n) in
          let near_is = on_side near k.sizes.2 found.nears in
          let far_is = on_side far k.sizes.3 found.fars in
          ap₂ (λ (x y : ℕ). in_run x y n c)
          (sym (low_same first nears fars (n + 1) less (found.first ∙ ap or_no_place (sym first_whole)) near_is pinned))
          (sym (high_same last fars (n + 1) (found.last ∙ sym last_whole) far_is))

      box_along : In c n → box_passes_at g p place near far n c m ≡ in_run (low_along low on_near (n + 1)) (high_along high on_far (n + 1)) n c
      box_along i = box_passed lies c i ∙ same_run

      -- where the ends of the grid have no pins
      plain_along : has_side q.kind near ≡ false → has_side q.kind far ≡ false → In c n
          → passes_at g p place c m ≡ in_run (low_along low on_near (n + 1)) (high_along high on_far (n + 1)) n c
      plain_along no_near no_far i = plain_passed lies c i (bare near no_near) (bare far no_far) ∙ same_run
        where
          bare : (s : Side) → has_side q.kind s ≡ false → pin_count_to (p s) w m ≡ 0
          bare s lacks =
              sum_zero (λ x. bit (eqb (p s x) m)) w (λ x i. bit_zero (ne_eqb (p s x) m (λ e. omega (arith, good.bare s lacks x))))

-- ---- sides that have the net at the same places, and two sides in the other order

pub last_same : (a b a' b' : ℕ → ℕ) (m n : ℕ) → ((c : ℕ) → In c n → holds_at a b m c ≡ holds_at a' b' m c)
    → last_held a b n m ≡ last_held a' b' n m
unfolding last_held
last_same a b a' b' m zero e = refl
last_same a b a' b' m (suc n) e = rw (e (suc n) (omega arith), last_same a b a' b' m n (λ c i. e c (omega arith)))

-- where a net stands depends on its own places alone
pub same_ends : {a b a' b' : ℕ → ℕ} {m low high : ℕ} {one two : Bool} → ((c : ℕ) → eqb (a' c) m ≡ eqb (a c) m)
    → ((c : ℕ) → eqb (b' c) m ≡ eqb (b c) m) → Ends a b m low high one two → Ends a' b' m low high one two
same_ends {a} {b} {a'} {b'} {m} f g e =
    let holds : holds_at a b m ≡ holds_at a' b' m = fun_ext (λ c i. sym (f c) i || sym (g c) i) in
    record {
      on_one = e.on_one ∙ ap (λ (t : ℕ → Bool). some t longest_side) (fun_ext (λ c. sym (f c)));
      on_two = e.on_two ∙ ap (λ (t : ℕ → Bool). some t longest_side) (fun_ext (λ c. sym (g c)));
      first = e.first ∙ ap (λ (t : ℕ → Bool). or_no_place (least t longest_side)) holds;
      last = e.last ∙ last_same a b a' b' m longest_side (λ c i. ap (λ (t : ℕ → Bool). t c) holds);
    }

pub ends_turned : {a b : ℕ → ℕ} {m low high : ℕ} {one two : Bool} → Ends a b m low high one two → Ends b a m low high two one
ends_turned {a} {b} {m} e =
    let same : holds_at a b m ≡ holds_at b a m = fun_ext (λ x. or_comm (eqb (a x) m) (eqb (b x) m)) in
    record {
      on_one = e.on_two;
      on_two = e.on_one;
      first = e.first ∙ ap (λ (t : ℕ → Bool). or_no_place (least t longest_side)) same;
      last = e.last ∙ last_same a b b a m longest_side (λ c i. ap (λ (t : ℕ → Bool). t c) same);
    }

-- ---- the columns and the tracks that must pass it

module _ {q : Problem} (good : Good q) {m : ℕ} (one : 1 ≤ m) (there : 1 ≤ pin_count (pins_in q.pins) m)
    {f l f' l' : ℕ} {ns ss ws es : Bool} (x : Ends (pins_in q.pins north) (pins_in q.pins south) m f l ns ss)
    (y : Ends (pins_in q.pins west) (pins_in q.pins east) m f' l' ws es) (c : ℕ) where
  on_columns : Found (pins_in q.pins) m north south west east f l ws es
  on_columns = record { first = x.first; last = x.last; nears = y.on_one; fars = y.on_two }

  on_tracks : Found (pins_in q.pins) m west east south north f' l' ss ns
  on_tracks = record { first = y.first; last = y.last; nears = x.on_two; fars = x.on_one }

  pub box_column : In c q.n.0 → box_passes (shape_of q) (pins_in q.pins) c m
      ≡ in_run (low_along f ws (q.n.0 + 1)) (high_along l es (q.n.0 + 1)) q.n.0 c
  box_column = box_along good one (columns_along _ _ m there) on_columns c

  pub plain_column : has_side q.kind west ≡ false → has_side q.kind east ≡ false → In c q.n.0
      → passes (shape_of q) (pins_in q.pins) c m ≡ in_run (low_along f ws (q.n.0 + 1)) (high_along l es (q.n.0 + 1)) q.n.0 c
  plain_column = plain_along good one (columns_along _ _ m there) on_columns c

  pub box_track : In c (width_of q) → box_passes_track (shape_of q) (pins_in q.pins) c m
      ≡ in_run (low_along f' ss (width_of q + 1)) (high_along l' ns (width_of q + 1)) (width_of q) c
  box_track = box_along good one (tracks_along _ _ m there) on_tracks c
