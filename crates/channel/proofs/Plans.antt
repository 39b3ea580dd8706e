-- The trunk places of the nets of a row or a channel make a plan of its grid: no place is beyond across, so each is on one of the h trunk layers.
use Prim.Native.Nat.{ℕ, zero, suc, ◌*◌, ◌/◌, ◌≤◌, ◌<◌}
use native.Mathlib.Omega.{arith}
use native.Mathlib.Nat.{div-add-mod', mod-lt, div-lt_iff_lt-mul}
use native.Mathlib.Decide.{dec_le}
use mathlib.Core.Path.{◌≡◌, refl, sym, ap, ◌∙◌}
use mathlib.Core.Logic.{inl, inr, ◌≢◌}
use mathlib.Core.Bool.{Bool, true, ◌&&◌, and-eq-true_iff}
use mathlib.Core.List.{List, []}
use lib.Dec.{leb, ltb}
use borrow.Author.Tests.{leb-true, ltb-true}
use Rattle.counting.specs.Counting.{In, bit}
use Rattle.counting.proofs.Sums.{split, sum_le, sum_some, bit_one, bit_zero}
use Rattle.counting.proofs.Counts.{le_most, most_le, count_le}
use Rattle.terms.specs.Kinds.{Side, north, south, west, east}
use Rattle.terms.specs.Limits.{largest_net}
use Rattle.grid.specs.Grid.{Grid, upright, pin, point, places, column_of, Inside}
use Rattle.grid.specs.Legal.{nets, entry}
use Rattle.density.specs.Density.{passes, across}
use Rattle.density.proofs.Pinned.{Pinned, Span, passes_span}
use Rattle.trunks.specs.Trunks.{Trunks, left_of, right_of, place_of, PinIn, crossing, Placed}
use Rattle.channel_law.specs.Drawing.{Claims, Spans}
use Rattle.grid.specs.Legal.{column_pins}
use Rattle.channel.specs.Laying.{plan_of, Seated}

pub none : (a : ℕ) → entry [] a ≡ 0
none zero = refl
none (suc a) = refl

module _ (norths souths : List ℕ) (n w h k : ℕ) (t : Trunks) (d : Placed norths souths n t) where
  abbrev g : Grid
  g = upright n w k

  abbrev p : Side → ℕ → ℕ
  p = column_pins norths souths

  -- a pin in a column is a pin of a side
  pinned : (m c lo : ℕ) → In c n → PinIn norths souths c m → c ≡ lo → Pinned g p m (λ a. a ≡ lo)
  pinned m c lo i (inl e) q = record { side = north; place = c; on = i; net = e; at = q }
  pinned m c lo i (inr e) q = record { side = south; place = c; on = i; net = e; at = q }

  all : (m : ℕ) (s : Side) (a : ℕ) → m ≢ 0 → In a (places g s) → p s a ≡ m → (left_of t m ≤ column_of g (pin s a)) × (column_of g (pin s a) ≤ right_of t m)
  all m north a nz i e = d.all a m i nz (inl e)
  all m south a nz i e = d.all a m i nz (inr e)
  all m west a nz i e = absurd (nz (sym e ∙ none a))
  all m east a nz i e = absurd (nz (sym e ∙ none a))

  span : (m : ℕ) → left_of t m < right_of t m → Span g p m (left_of t m) (right_of t m)
  span m lt = record {
    first = pinned m _ _ (d.first m lt).0 (d.first m lt).1 refl;
    last = pinned m _ _ (d.last m lt).0 (d.last m lt).1 refl;
    all = λ s a. all m s a (λ z. absurd (omega (arith, d.few m lt)));
  }

  abbrev crosses : ℕ → ℕ → Bool
  crosses c m = leb (left_of t m) c && leb c (right_of t m) && ltb (left_of t m) (right_of t m)

  -- a net crosses a column of the grid, and that column must pass it
  crossed : (c m : ℕ) → crosses c m ≡ true → In c n × (bit (passes g p c m) ≡ 1)
  crossed c m e =
      let (e', f) = (and-eq-true_iff (leb (left_of t m) c && leb c (right_of t m)) (ltb (left_of t m) (right_of t m))).0 e in
      let (a, b) = (and-eq-true_iff (leb (left_of t m) c) (leb c (right_of t m))).0 e' in
      let lt = ltb-true (left_of t m) (right_of t m) f in
      let in_grid : In c n = omega (arith, leb-true (left_of t m) c a, leb-true c (right_of t m) b, (d.first m lt).0, (d.last m lt).0) in
      (in_grid, bit_one (passes_span g p c m _ _ (span m lt) ∙ e))

  few : (c : ℕ) → crossing t c ≤ across g p
  unfolding across
  few c = elim (dec_le 1 (crossing t c)) [
    | yes one ↦ let (m, i, o) = sum_some (λ m. bit (crosses c m)) largest_net one in
        let (inside, _) = crossed c m (split (crosses c m) (λ e. e) (λ e. absurd (omega (arith, bit_zero e)))) in
        omega (
          arith,
          sum_le (λ m. bit (crosses c m)) (λ m. bit (passes g p c m)) largest_net
              (λ m i. split (crosses c m) (λ e. omega (arith, bit_one e, crossed c m e)) (λ e. omega (arith, bit_zero e))),
          le_most
              (λ c. nets (passes g p c)) n c inside,
        )
    | no none ↦ omega arith
  ]

  across_small : across g p ≤ largest_net
  unfolding across
  across_small = most_le (λ c. nets (passes g p c)) n largest_net (λ c i. count_le (passes g p c) largest_net)

  module _ (wide : 1 ≤ w) (fits : across g p ≤ h * w) (layers : 2 * h ≤ k) where
    placed : (m : ℕ) → left_of t m < right_of t m → place_of t m / w < h
    placed m lt = (div-lt_iff_lt-mul wide).1 (omega (arith, d.within (across g p) across_small few m lt))

    pub spans : Spans (plan_of t w) g p largest_net
    spans = record {
      few = d.few;
      all = λ m s a nz i e. at m s a nz i e;
      ends = λ m lt. ends m lt (d.first m lt).1;
      seated = λ m lt. (omega (arith, mod-lt (place_of t m) wide), omega (arith, placed m lt), omega arith);
    }
      where
        at : (m : ℕ) (s : Side) (a : ℕ) → m ≢ 0 → In a (places g s) → p s a ≡ m → (left_of t m ≤ a) × (a ≤ right_of t m)
        at m north a nz i e = d.all a m i nz (inl e)
        at m south a nz i e = d.all a m i nz (inr e)
        at m west a nz i e = absurd (nz (sym e ∙ none a))
        at m east a nz i e = absurd (nz (sym e ∙ none a))

        ends : (m : ℕ) → left_of t m < right_of t m → PinIn norths souths (left_of t m) m
            → (s : Side) × In (left_of t m) (places g s) × (p s (left_of t m) ≡ m) × (right_of t m ≤ n)
        ends m lt (inl e) = (north, (d.first m lt).0, e, (d.last m lt).0.1)
        ends m lt (inr e) = (south, (d.first m lt).0, e, (d.last m lt).0.1)

    claims_inside : (m i j l : ℕ) → Claims (plan_of t w) m i j l → Inside g (point i j l)
    claims_inside m i j l (lt, ej, el, lo, hi) = let s = spans.seated m lt in
        (omega (arith, (d.first m lt).0, (d.last m lt).0), omega (arith, s), omega (arith, s))

    claims_apart : (m m' i j l : ℕ) → Claims (plan_of t w) m i j l → Claims (plan_of t w) m' i j l → m ≡ m'
    claims_apart m m' i j l (lt, ej, el, lo, hi) (lt', ej', el', lo', hi') =
        let q : place_of t m / w ≡ place_of t m' / w = omega arith in
        d.apart m m' i (lt, lo, hi) (lt', lo', hi')
        (sym (div-add-mod' (place_of t m) w) ∙ omega (arith, ap (λ (u : ℕ). u * w) q) ∙ div-add-mod' (place_of t m') w)

    pub seated : Seated (plan_of t w) g
    seated = record { inside = claims_inside; flat = λ m i j l c. omega (arith, c.2); apart = claims_apart }
