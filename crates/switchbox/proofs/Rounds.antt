-- The track layers are painted in rounds of two layers, a comb and a track layer, of which each leaves what the drawing of a box has there.
use Prim.Native.Nat.{ℕ, suc, ◌+◌, ◌*◌, ◌-◌, ◌/◌, ◌%◌, ◌≤◌, ◌<◌}
use mathlib.Core.Path.{◌≡◌, refl, sym, ap, subst, ◌∙◌}
use mathlib.Core.List.{List}
use mathlib.Core.Bool.{Bool, true, false, not, cond}
use native.Mathlib.Omega.{arith}
use native.Mathlib.Nat.{add-mul, suc-mul, mul-le-mul_right}
use lib.Dec.{eqb}
use lib.ListN.{length, get_or, drop}
use lib.Seq.{get_or-take, get_or-drop}
use borrow.Author.Tests.{eqb-true, eqb-false}
use borrow.Rule.Slice.PartMut.{mid_of, put_mid}
use Rattle.counting.proofs.Sums.{split}
use Rattle.terms.specs.Kinds.{Side, north, south}
use Rattle.grid.specs.Legal.{Pins, Wiring, entry}
use Rattle.grid.specs.Motion.{Orientation}
use Rattle.orientation.specs.Lookup.{own_list}
use Rattle.paint.proofs.Laws.{mid_size}
use Rattle.switchbox_law.specs.Drawing.{BoxDrawing}
use Rattle.switchbox_law.proofs.FullLines.{drawn}
use Rattle.switchbox.specs.Layers.{StripedAs, DrawnAs, track_lines, Lined}
use Rattle.switchbox.proofs.Layers.{striped_flip, drawn_as_next, drawn_as_long}

-- before round t + 1; the pins are those of the moved box, on the ticket's lines
pub record Rounds (p : Pins) (n w : ℕ) (tracks : List ℕ) (q : ℕ) (turned : Bool) (before now : List ℕ) (t : ℕ) : Type 0 where
  pub few : t ≤ q
  pub layers : DrawnAs turned n w before now (2 * t) (track_lines w q p tracks)

-- two layers more are within those of all rounds
two_more : (s q t : ℕ) → t < q → 2 * t * s + s + s ≤ 2 * q * s
two_more s q t h = let le : (2 * t + 2) * s ≤ 2 * q * s = mul-le-mul_right s (omega arith) in omega (arith, add-mul (2 * t) 2 s)

module _ {o : Orientation} {a b' c d : List ℕ} {n w : ℕ} {tracks : List ℕ} {q : ℕ} {before : List ℕ}
    (fit : Lined o a b' c d n w tracks q before) where
  -- the comb is north's or south's, which have n places
  side_lines : (b : Bool) {s : Side} → s ≡ cond b north south → length (own_list o a b' c d s) ≡ n
  side_lines b e = ap (λ (s : Side). length (own_list o a b' c d s)) e ∙ go b
    where
      go : (b : Bool) → length (own_list o a b' c d (cond b north south)) ≡ n
      go false = fit.sides.long south
      go true = fit.sides.long north

  module _ {p : Pins} {turned : Bool} {now : List ℕ} {t : ℕ} (r : Rounds p n w tracks q turned before now t) (more : t < q) where
    -- a round's two layers, and as many entries of the tracks as the second has tracks
    abbrev from : ℕ
    from = 2 * t * (n * w)

    abbrev middle : ℕ
    middle = 2 * t * (n * w) + n * w

    abbrev to : ℕ
    to = 2 * t * (n * w) + n * w + n * w

    abbrev start : ℕ
    start = t * w

    abbrev lane : List ℕ
    lane = mid_of (t * w) (t * w + w - t * w) tracks

    pub round_fits : from + n * w + n * w ≤ length now
    round_fits = omega (arith, two_more (n * w) q t more, fit.room, drawn_as_long r.layers)

    pub lane_fits : start + w ≤ length tracks
    lane_fits = omega (arith, fit.lanes, mul-le-mul_right w more, suc-mul t w)

    lane_long : length lane ≡ w
    lane_long = mid_size start (start + w) tracks refl lane_fits

    abbrev x : Wiring
    x = track_lines w q p tracks

    d' : BoxDrawing n w q p (track_lines w q p tracks) (entry tracks) (λ i. 0)
    d' = drawn n w q p (entry tracks) (λ i. 0)

    comb_is : (i j : ℕ) → i < n → j < w → p (cond (eqb ((t + q) % 2) 0) north south) (suc i)
        ≡ track_lines w q p tracks (suc i) (suc j) (suc (2 * t))
    comb_is i j hi hj = split (eqb ((t + q) % 2) 0)
        (λ e. let f : (t + q) % 2 ≡ 0 = eqb-true _ _ e in
        rw e (sym (d'.norths (suc i) (suc j) (suc (2 * t)) (omega arith) (omega arith) (omega arith) (omega arith))))
        (λ e. let f : ¬ ((t + q) % 2 ≡ 0) = eqb-false _ _ e in
        rw e (sym (d'.souths (suc i) (suc j) (suc (2 * t)) (omega arith) (omega arith) (omega arith) (omega arith))))

    row_is : (i j : ℕ) → i < n → j < w → get_or lane j 0 ≡ track_lines w q p tracks (suc i) (suc j) (suc (suc (2 * t)))
    row_is i j hi hj =
        let l : suc (suc (2 * t)) / 2 - 1 ≡ t = omega arith in
        let s : suc (t * w + j) ≡ t * w + suc j = omega arith in
        get_or-take (start + w - start) (drop start tracks) j 0 (omega arith) ∙ get_or-drop start tracks j 0
        ∙ ap (entry tracks) s ∙ ap (λ (z : ℕ). entry tracks (z * w + suc j)) (sym l)
        ∙ sym (d'.rows (suc i) (suc j) (suc (suc (2 * t))) (omega arith) (omega arith) (omega arith) (omega arith))

    -- once the comb of side s is painted
    module _ {comb : List ℕ} {s : Side} (is : s ≡ cond (eqb ((t + q) % 2) 0) north south)
        (one : StripedAs turned (mid_of from (middle - from) now) comb (length (own_list o a b' c d s)) w (λ i j. p s (suc i))) where
      abbrev mid : List ℕ
      mid = put_mid from (middle - from) now comb

      comb_drawn : DrawnAs turned n w before mid (suc (2 * t)) x
      comb_drawn = drawn_as_next turned refl refl (omega (arith, round_fits)) r.layers
          (subst (λ (v : ℕ). StripedAs turned (mid_of from (middle - from) now) comb v w (λ i j. p s (suc i)))
          (side_lines (eqb ((t + q) % 2) 0) is) one)
          (λ i j hi hj. ap (λ (z : Side). p z (suc i)) is ∙ comb_is i j hi hj)

      pub row_fits : to ≤ length mid
      row_fits = omega (arith, round_fits, drawn_as_long comb_drawn, drawn_as_long r.layers)

      pub next_round : {rows : List ℕ} → StripedAs (not turned) (mid_of middle (to - middle) mid) rows (length lane) n (λ i j. get_or lane i 0)
          → Rounds p n w tracks q turned before (put_mid middle (to - middle) mid rows) (t + 1)
      next_round {rows} two =
          let size = n * w in
          let after = put_mid middle (to - middle) mid rows in
          let both : DrawnAs turned n w before after (suc (suc (2 * t))) x
          = drawn_as_next turned (omega (arith, suc-mul (2 * t) size)) refl row_fits comb_drawn
          (subst (λ (v : ℕ). StripedAs turned (mid_of middle (to - middle) mid) rows n v (λ i j. get_or lane j 0)) lane_long (striped_flip turned two)) row_is in
          let layers : suc (suc (2 * t)) ≡ 2 * (t + 1) = omega arith in
          record {
            few = omega arith;
            layers = subst (λ (v : ℕ). DrawnAs turned n w before after v x) layers both;
          }
