-- Above the track layers come the last north comb, the east comb, the column layer and the west comb: then the whole box is drawn.
use Prim.Native.Nat.{ℕ, suc, ◌+◌, ◌*◌, ◌-◌, ◌≤◌, ◌<◌}
use mathlib.Core.Path.{◌≡◌, refl, sym, ap, subst, ◌∙◌}
use mathlib.Core.List.{List}
use mathlib.Core.Bool.{Bool, not}
use native.Mathlib.Omega.{arith}
use native.Mathlib.Nat.{suc-mul, mul_comm, mul-le-mul_right}
use lib.ListN.{length, get_or}
use borrow.Author.Tests.{le-leb}
use borrow.Rule.Slice.PartMut.{mid_of, put_mid}
use Rattle.grid.specs.Legal.{Pins, entry}
use Rattle.grid.specs.Motion.{Orientation}
use Rattle.terms.specs.Kinds.{Side, north, west, east}
use Rattle.orientation.specs.Lookup.{by_side, own_list}
use Rattle.paint.proofs.Laws.{mid_size}
use Rattle.switchbox_law.specs.Drawing.{BoxDrawing, full_lines}
use Rattle.switchbox_law.proofs.FullLines.{drawn}
use Rattle.switchbox.specs.Layers.{StripedAs, DrawnAs, Combed, track_lines, box_lines, Drawable}
use Rattle.switchbox.proofs.Layers.{striped_flip, drawn_as_same, drawn_as_next, drawn_as_long}

-- layers 1 to l of the box are drawn, and the next one starts at `from`
pub record Layered (p : Pins) (n w : ℕ) (tracks columns : List ℕ) (q : ℕ) (turned : Bool) (before now : List ℕ) (l from : ℕ) : Type 0 where
  pub start : from ≡ l * (n * w)
  pub layers : DrawnAs turned n w before now l (box_lines w q p tracks columns)

-- the part of `size` bytes from `from` on, and the whole when it is handed back
abbrev layer_at : ℕ → ℕ → List ℕ → List ℕ
layer_at size from now = mid_of from (from + size - from) now

abbrev with_layer : ℕ → ℕ → List ℕ → List ℕ → List ℕ
with_layer size from now ys = put_mid from (from + size - from) now ys

-- the next layer's part is within the buffer, and is lent, striped and handed back
module _ {o : Orientation} {a b c d : List ℕ} {n w : ℕ} {tracks columns before now : List ℕ} {q l from : ℕ} {turned : Bool} {p : Pins}
    (fit : Drawable o a b c d n w tracks columns q before) (y : Layered p n w tracks columns q turned before now l from)
    (h : l < 2 * q + 4) where
  pub layer_fits : from + n * w ≤ length now
  layer_fits =
      let s = n * w in
      omega (arith, y.start, fit.room, mul-le-mul_right s h, suc-mul l s, drawn_as_long y.layers)

  pub layer_size : length (layer_at (n * w) from now) ≡ n * w
  layer_size = mid_size from (from + n * w) now refl layer_fits

  -- the part has a line for each place of the moved box's side
  pub combed_up : Combed (own_list o a b c d north) w (layer_at (n * w) from now)
  combed_up =
      let k = fit.lined.sides.long north in
      record { short = omega (arith, k, fit.lined.long); some = fit.lined.wide.0; size = layer_size ∙ ap (λ (u : ℕ). u * w) (sym k) }

  pub combed_across : (s : Side) → by_side n n w w s ≡ w → Combed (own_list o a b c d s) n (layer_at (n * w) from now)
  combed_across s e =
      let k = fit.lined.sides.long s ∙ e in
      record {
        short = omega (arith, k, fit.lined.wide);
        some = fit.lined.long.0;
        size = layer_size ∙ mul_comm n w ∙ ap (λ (u : ℕ). u * n) (sym k);
      }

  layer_next : {ys : List ℕ} {f : ℕ → ℕ → ℕ} → StripedAs turned (layer_at (n * w) from now) ys n w f
      → ((i j : ℕ) → i < n → j < w → f i j ≡ box_lines w q p tracks columns (suc i) (suc j) (suc l))
      → Layered p n w tracks columns q turned before (with_layer (n * w) from now ys) (suc l) (from + n * w)
  layer_next s same = record {
    start = omega (arith, y.start, suc-mul l (n * w));
    layers = drawn_as_next turned y.start refl layer_fits y.layers s same;
  }

-- the last four layers
module _ {o : Orientation} {a b c d : List ℕ} {n w : ℕ} {tracks columns : List ℕ} {q : ℕ} {before : List ℕ} (p : Pins)
    (fit : Drawable o a b c d n w tracks columns q before) where
  box : BoxDrawing n w q p (box_lines w q p tracks columns) (entry tracks) (entry columns)
  box = drawn n w q p (entry tracks) (entry columns)

  same_lines : (i j l : ℕ) → l ≤ 2 * q → track_lines w q p tracks i j l ≡ box_lines w q p tracks columns i j l
  unfolding full_lines
  same_lines i j l h = let low : l ≤ 2 * q + 1 = omega arith in rw (le-leb l (2 * q + 1) low)

  at : (i j : ℕ) {l l' v : ℕ} → l ≡ l' → box_lines w q p tracks columns (suc i) (suc j) l' ≡ v → v
      ≡ box_lines w q p tracks columns (suc i) (suc j) l
  at i j e h = sym (ap (box_lines w q p tracks columns (suc i) (suc j)) e ∙ h)

  module _ {turned : Bool} {now : List ℕ} where
    pub lower_layers : DrawnAs turned n w before now (2 * q) (track_lines w q p tracks)
        → Layered p n w tracks columns q turned before now (2 * q) (2 * q * (n * w))
    lower_layers low = record { start = refl; layers = drawn_as_same turned low (λ i j l hi hj hl. same_lines (suc i) (suc j) (suc l) hl) }

    module _ {from : ℕ} {ys : List ℕ} where
      pub north_comb : {k : ℕ} → k ≡ n → Layered p n w tracks columns q turned before now (2 * q) from
          → StripedAs turned (layer_at (n * w) from now) ys k w (λ i j. p north (suc i))
          → Layered p n w tracks columns q turned before (with_layer (n * w) from now ys) (suc (2 * q)) (from + n * w)
      north_comb e y s = layer_next fit y (omega arith)
          (subst (λ (v : ℕ). StripedAs turned (layer_at (n * w) from now) ys v w (λ i j. p north (suc i))) e s)
          (λ i j hi hj. sym (box.norths (suc i) (suc j) (suc (2 * q)) (omega arith) (omega arith) (omega arith) (omega arith)))

      pub east_comb : {k : ℕ} → k ≡ w → Layered p n w tracks columns q turned before now (suc (2 * q)) from
          → StripedAs (not turned) (layer_at (n * w) from now) ys k n (λ i j. p east (suc i))
          → Layered p n w tracks columns q turned before (with_layer (n * w) from now ys) (suc (suc (2 * q))) (from + n * w)
      east_comb e y s = layer_next fit y (omega arith)
          (subst (λ (v : ℕ). StripedAs turned (layer_at (n * w) from now) ys n v (λ i j. p east (suc j))) e (striped_flip turned s))
          (λ i j hi hj. at i j {l = suc (suc (2 * q))} {l' = 2 * q + 2} (omega arith) (box.easts (suc i) (suc j) (omega arith) (omega arith)))

      pub column_layer : Layered p n w tracks columns q turned before now (suc (suc (2 * q))) from
          → StripedAs turned (layer_at (n * w) from now) ys (length columns) w (λ i j. get_or columns i 0)
          → Layered p n w tracks columns q turned before (with_layer (n * w) from now ys) (suc (suc (suc (2 * q))))
          (from + n * w)
      column_layer y s = layer_next fit y (omega arith)
          (subst (λ (v : ℕ). StripedAs turned (layer_at (n * w) from now) ys v w (λ i j. get_or columns i 0)) fit.posts s)
          (λ i j hi hj. at i j {l = suc (suc (suc (2 * q)))} {l' = 2 * q + 3} (omega arith) (box.posts (suc i) (suc j) (omega arith) (omega arith)))

      pub west_comb : {k : ℕ} → k ≡ w → Layered p n w tracks columns q turned before now (suc (suc (suc (2 * q)))) from
          → StripedAs (not turned) (layer_at (n * w) from now) ys k n (λ i j. p west (suc i))
          → DrawnAs turned n w before (with_layer (n * w) from now ys) (2 * q + 4) (box_lines w q p tracks columns)
      west_comb e y s =
          let top : suc (suc (suc (suc (2 * q)))) ≡ 2 * q + 4 = omega arith in
          let after = with_layer (n * w) from now ys in
          subst (λ (v : ℕ). DrawnAs turned n w before after v (box_lines w q p tracks columns)) top
          (layer_next fit y (omega arith)
          (subst (λ (v : ℕ). StripedAs turned (layer_at (n * w) from now) ys n v (λ i j. p west (suc j))) e (striped_flip turned s))
          (λ i j hi hj. at i j {l = suc (suc (suc (suc (2 * q))))} {l' = 2 * q + 4} (omega arith)
          (box.wests (suc i) (suc j) (omega arith) (omega arith)))).layers
