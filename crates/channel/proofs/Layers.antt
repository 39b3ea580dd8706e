-- A trunk layer is painted with zeros, as the wiring `base` has it; and layer after layer makes the whole of it.
use Prim.Native.Nat.{ℕ, suc, ◌+◌, ◌*◌, ◌-◌, ◌%◌, ◌≤◌, ◌<◌}
use native.Mathlib.Omega.{arith}
use native.Mathlib.Numerals.{add-one}
use native.Mathlib.Nat.{zero-mul}
use mathlib.Core.Path.{◌≡◌, refl, ap, ◌∙◌}
use mathlib.Core.List.{List}
use lib.ListN.{length, get_or}
use borrow.Author.Tests.{ne_eqb}
use borrow.Rule.Slice.PartMut.{mid_of, put_mid}
use Rattle.paint.specs.Paint.{Striped, Drawn}
use Rattle.paint.proofs.Laws.{row_in, next_row, striped_as, drawn_part}
use Rattle.channel.specs.Laying.{base}

-- a part of n × w bytes of one value is w tracks of n
flat : {before after : List ℕ} {n w v : ℕ} → length before ≡ n * w → Striped before after (length before) 1 (λ i j. v) → Striped before after n w (λ i j. v)
flat {before} {after} {n} {w} size s = record {
  long = s.long;
  here = λ i j hi hj. ap (λ (u : ℕ). get_or after u 0) (omega (arith, zero-mul (length before)))
      ∙ s.here (j * n + i) 0 (omega (arith, row_in n w j hj)) (omega arith);
}

module _ {before after : List ℕ} {n w : ℕ} (l : ℕ) (a b : List ℕ) where
  pub trunk_layer : l % 2 ≡ 1 → length before ≡ n * w → Striped before after (length before) 1 (λ i j. 0)
      → Striped before after n w (λ i j. base a b (suc i) (suc j) (suc l))
  trunk_layer h size s = striped_as refl (λ i j hi hj. rw (ne_eqb (suc l % 2) 1 (omega arith))) (flat size s)

-- ---- layer after layer: l of k are laid, and the next one starts at `from`

pub record Stacked (a b : List ℕ) (n w k size from l : ℕ) (before now : List ℕ) : Type 0 where
  pub area : size ≡ n * w
  pub room : n * w * k ≤ length before
  pub under : l ≤ k
  pub start : from ≡ l * (n * w)
  pub drawn : Drawn n w before now l (base a b)

module _ {a b before now : List ℕ} {n w k size from l : ℕ} (s : Stacked a b n w k size from l before now) (h : l < k) where
  pub stack_room : from + size ≤ length now
  stack_room = omega (arith, s.area, s.start, row_in (n * w) k l h, s.room, s.drawn.long)

  pub stack_next : {ys : List ℕ} → Striped (mid_of from (from + size - from) now) ys n w (λ i j. base a b (suc i) (suc j) (suc l))
      → Stacked a b n w k size (from + size) (l + 1) before (put_mid from (from + size - from) now ys)
  stack_next p = record {
    area = s.area;
    room = s.room;
    under = omega arith;
    start = ap (λ (u : ℕ). from + u) s.area ∙ next_row from (n * w) l s.start;
    drawn = rw (add-one l) (drawn_part s.start (omega (arith, s.area)) stack_room s.drawn p (λ i j hi hj. refl));
  }
