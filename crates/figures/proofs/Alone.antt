-- A net whose pins are all on one side, by what the tables say of it: it has pins there, none on the opposite side, and no first column.
use Prim.Native.Nat.{ℕ, zero, suc, ◌+◌, ◌≤◌}
use mathlib.Core.Path.{◌≡◌, refl, sym, ap, ap₂, ◌∙◌}
use mathlib.Core.Bool.{Bool, true, false, not, ◌&&◌, ◌||◌, true≢false}
use native.Mathlib.Decide.{dec_le}
use native.Mathlib.Omega.{arith}
use lib.Dec.{eqb, leb}
use borrow.Author.Tests.{le-leb, lt-leb}
use Rattle.counting.specs.Counting.{bit, count, some}
use Rattle.counting.proofs.Sums.{split, bit_one, bit_zero, sum_part, sum_some}
use Rattle.counting.proofs.Counts.{some_in, some_of}
use Rattle.counting.proofs.Tests.{some_least}
use Rattle.terms.specs.Kinds.{Side}
use Rattle.grid.specs.Grid.{Grid, places}
use Rattle.grid.specs.Legal.{Pins}
use Rattle.density.specs.Density.{has_pin_on, sides_of, all_on}
use Rattle.nets.specs.Tables.{pin_count_to, holds_at, first_held}

-- ---- tests and counts

pub some_count : (t : ℕ → Bool) (top : ℕ) → some t top ≡ leb 1 (count t top)
some_count t top = split (some t top)
    (λ e. let (a, i, h) = some_in t top e in e ∙ sym (le-leb 1 (count t top) (omega (arith, sum_part (λ a. bit (t a)) a top i, bit_one h))))
    (λ e. elim (dec_le 1 (count t top)) [
      | yes h ↦ let (a, i, l) = sum_some (λ a. bit (t a)) top h in
          absurd (split (t a) (λ y. true≢false (sym (some_of t top a i y) ∙ e)) (λ y. omega (arith, bit_zero y)))
      | no h ↦ e ∙ sym (lt-leb 1 (count t top) (omega arith))
    ])

some_or : (s t : ℕ → Bool) (top : ℕ) → (some s top || some t top) ≡ some (λ a. s a || t a) top
unfolding some
some_or s t zero = refl
some_or s t (suc top) = rw (← some_or s t top) (swap (some s top) (s (suc top)) (some t top) (t (suc top)))
  where
    swap : (a b c d : Bool) → ((a || b) || (c || d)) ≡ ((a || c) || (b || d))
    swap true b c d = refl
    swap false true true d = refl
    swap false true false d = refl
    swap false false c d = refl

-- ---- a, b, v and u tell whether it has pins on the two sides along the grid, on the near side and on the far one

alone : (a b v u : Bool) → (v && eqb (bit a + bit b + bit v + bit u) 1) ≡ (v && not u && not (a || b))
alone a b false u = refl
alone true true true true = refl
alone true true true false = refl
alone true false true true = refl
alone true false true false = refl
alone false true true true = refl
alone false true true false = refl
alone false false true true = refl
alone false false true false = refl

-- f and l are its first and last place along sides a and b, v and u the number of its pins on the near and on the far side
pub record Tells (g : Grid) (p : Pins) (m : ℕ) (a b near far : Side) (f l v u : ℕ) : Type 0 where
  sides : sides_of g p m ≡ bit (has_pin_on g p m a) + bit (has_pin_on g p m b) + bit (has_pin_on g p m near) + bit (has_pin_on g p m far)
  first : leb 1 f ≡ (has_pin_on g p m a || has_pin_on g p m b)
  last : leb 1 l ≡ leb 1 f
  nears : leb 1 v ≡ has_pin_on g p m near
  fars : leb 1 u ≡ has_pin_on g p m far

module _ {g : Grid} {p : Pins} {m : ℕ} {a b near far : Side} {f l v u : ℕ} (t : Tells g p m a b near far f l v u) where
  pub all_near : all_on g p m near ≡ (leb 1 v && not (leb 1 u) && not (leb 1 l))
  unfolding all_on
  all_near =
      ap (λ (k : ℕ). has_pin_on g p m near && eqb k 1) t.sides
      ∙ alone (has_pin_on g p m a) (has_pin_on g p m b) (has_pin_on g p m near) (has_pin_on g p m far)
      ∙ rw (t.last, t.first, t.nears, t.fars) refl

  pub all_far : all_on g p m far ≡ (leb 1 u && not (leb 1 v) && not (leb 1 f))
  unfolding all_on
  all_far =
      let swapped : sides_of g p m ≡ bit (has_pin_on g p m a) + bit (has_pin_on g p m b) + bit (has_pin_on g p m far) + bit (has_pin_on g p m near) =
      omega (arith, t.sides) in
      ap (λ (k : ℕ). has_pin_on g p m far && eqb k 1) swapped
      ∙ alone (has_pin_on g p m a) (has_pin_on g p m b) (has_pin_on g p m far) (has_pin_on g p m near)
      ∙ rw (t.first, t.nears, t.fars) refl

-- the tables tell it
pub tells : {g : Grid} {p : Pins} {m n w : ℕ} (a b near far : Side) {f l v u : ℕ}
    → sides_of g p m ≡ bit (has_pin_on g p m a) + bit (has_pin_on g p m b) + bit (has_pin_on g p m near) + bit (has_pin_on g p m far)
    → (places g a ≡ n) × (places g b ≡ n) × (places g near ≡ w) × (places g far ≡ w)
    → f ≡ first_held (p a) (p b) n m → (f ≤ l) × (f ≡ 0 → l ≡ 0) → v ≡ pin_count_to (p near) w m → u ≡ pin_count_to (p far) w m
    → Tells g p m a b near far f l v u
tells {g} {p} {m} {n} {w} a b near far {f} {l} all (pa, pb, pn, pf) ef order ev eu = record {
  sides = all;
  first = ap (leb 1) ef ∙ sym (some_least (holds_at (p a) (p b) m) n) ∙ sym (some_or (λ x. eqb (p a x) m) (λ x. eqb (p b x) m) n)
      ∙ ap₂ (λ (j k : ℕ). some (λ x. eqb (p a x) m) j || some (λ x. eqb (p b x) m) k) (sym pa) (sym pb);
  last = elim (dec_le 1 f) [
    | yes h ↦ le-leb 1 l (omega (arith, order.0)) ∙ sym (le-leb 1 f h)
    | no h ↦ lt-leb 1 l (omega (arith, order.1 (omega arith))) ∙ sym (lt-leb 1 f (omega arith))
  ];
  nears = ap (leb 1) ev ∙ sym (some_count (λ x. eqb (p near x) m) w) ∙ ap (some (λ x. eqb (p near x) m)) (sym pn);
  fars = ap (leb 1) eu ∙ sym (some_count (λ x. eqb (p far x) m) w) ∙ ap (some (λ x. eqb (p far x) m)) (sym pf);
}
