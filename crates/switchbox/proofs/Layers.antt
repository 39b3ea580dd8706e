-- Layers are painted one after the other, upright or turned, and the drawn layers are the wiring that the buffer holds.
use Prim.Native.Nat.{ℕ, suc, ◌+◌, ◌*◌, ◌-◌, ◌≤◌, ◌<◌}
use mathlib.Core.Path.{◌≡◌, ap, ◌∙◌}
use mathlib.Core.List.{List}
use mathlib.Core.Bool.{Bool, true, false, not}
use native.Mathlib.Nat.{mul_comm}
use lib.ListN.{length}
use borrow.Rule.Slice.PartMut.{mid_of, put_mid}
use Rattle.grid.specs.Legal.{Wiring}
use Rattle.paint.proofs.Laws.{drawn_part}
use Rattle.switchbox.specs.Layers.{StripedAs, DrawnBy, DrawnAs}

-- what is striped by tracks has its columns for tracks
pub striped_flip : {before after : List ℕ} {n w : ℕ} {f : ℕ → ℕ → ℕ} (turned : Bool) → StripedAs (not turned) before after n w f
    → StripedAs turned before after w n (λ i j. f j i)
striped_flip false p = record { is = p.is }
striped_flip true p = record { is = p.is }

-- the next layer's part is lent, striped as x has it, and handed back
pub drawn_as_next : (turned : Bool) {n w top from to : ℕ} {before now ys : List ℕ} {f : ℕ → ℕ → ℕ} {x : Wiring} → from ≡ top * (n * w)
    → to ≡ from + n * w → to ≤ length now → DrawnAs turned n w before now top x → StripedAs turned (mid_of from (to - from) now) ys n w f
    → ((i j : ℕ) → i < n → j < w → f i j ≡ x (suc i) (suc j) (suc top)) → DrawnAs turned n w before (put_mid from (to - from) now ys) (suc top) x
drawn_as_next false start end fits d s same = record { is = drawn_part start end fits d.is s.is same }
drawn_as_next true {n} {w} {top} {from} start end fits d s same =
    let area : n * w ≡ w * n = mul_comm n w in
    record {
      is = drawn_part (start ∙ ap (λ (u : ℕ). top * u) area) (end ∙ ap (λ (u : ℕ). from + u) area) fits d.is s.is (λ i j hi hj. same j i hj hi);
    }

pub drawn_as_long : {turned : Bool} {n w top : ℕ} {before after : List ℕ} {x : Wiring} → DrawnAs turned n w before after top x
    → length after ≡ length before
drawn_as_long {turned} {n} {w} {top} {before} {after} {x} d = go turned d.is
  where
    go : (turned : Bool) → DrawnBy turned n w before after top x → length after ≡ length before
    go false d = d.long
    go true d = d.long

pub drawn_as_same : (turned : Bool) {n w top : ℕ} {before after : List ℕ} {x y : Wiring} → DrawnAs turned n w before after top x
    → ((i j l : ℕ) → i < n → j < w → l < top → x (suc i) (suc j) (suc l) ≡ y (suc i) (suc j) (suc l)) → DrawnAs turned n w before after top y
drawn_as_same false d e =
    record { is = record { long = d.is.long; here = λ i j l hi hj hl. d.is.here i j l hi hj hl ∙ e i j l hi hj hl; others = d.is.others } }
drawn_as_same true d e =
    record { is = record { long = d.is.long; here = λ i j l hi hj hl. d.is.here i j l hi hj hl ∙ e j i l hj hi hl; others = d.is.others } }
