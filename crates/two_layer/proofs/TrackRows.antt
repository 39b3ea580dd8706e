-- A track is two rows of the buffer, n bytes each: what is painted in them, and that no other point's byte changes.
use Prim.Native.Nat.{ℕ, zero, suc, ◌+◌, ◌*◌, ◌-◌, ◌≤◌, ◌<◌}
use mathlib.Core.Path.{◌≡◌, refl, sym, ap, ◌∙◌}
use mathlib.Core.Logic.{◌⊎◌, inl, inr, ◌≢◌}
use mathlib.Core.List.{List}
use native.Mathlib.Omega.{arith}
use native.Mathlib.Decide.{dec_lt, dec_le}
use native.Mathlib.Nat.{zero-mul, suc-mul, mul-le-mul_right, add-sub_cancel_left}
use lib.ListN.{length, get_or, replicate, length-replicate}
use Rattle.std.proofs.lemmas.List.{get_or-replicate}
use borrow.Author.Tests.{le-leb, lt-leb}
use borrow.Rule.Slice.PartMut.{mid_of, put_mid}
use Rattle.counting.specs.Counting.{In}
use Rattle.grid.specs.Grid.{upright, point, Inside}
use Rattle.grid.specs.Legal.{index, wiring_of}
use Rattle.grid.proofs.Buffer.{index_in, index_once}
use Rattle.paint.specs.Paint.{Striped, Painted}
use Rattle.paint.proofs.Laws.{put_row}
use Rattle.terms.specs.Limits.{longest_side}
use Rattle.two_layer_cuts.specs.Rows.{item, Row}
use Rattle.two_layer.specs.Drawing.{trunk, TrackDrawn}

-- ---- the trunk in its row

trunk_in : (x low high c : ℕ) → low ≤ c → c ≤ high → trunk x low high c ≡ x
trunk_in x low high c a b = rw (le-leb low c a, le-leb c high b)

trunk_under : (x low high c : ℕ) → c < low → trunk x low high c ≡ 0
trunk_under x low high c a = rw (lt-leb low c a)

trunk_over : (x low high c : ℕ) → high < c → trunk x low high c ≡ 0
trunk_over x low high c a = elim (dec_le low c) [
  | yes h ↦ rw (le-leb low c h, lt-leb c high a)
  | no h ↦ trunk_under x low high c (omega arith)
]

filled : (part ys : List ℕ) (v : ℕ) → ys ≡ replicate (length part) v → Striped part ys (length part) 1 (λ i j. v)
filled part ys v e = rw e (record {
  long = length-replicate (length part) v;
  here = λ i j hi hj. (let first : j ≡ 0 = omega arith in
      get_or-replicate (length part) (j * length part + i) v 0 (rw first (omega (arith, zero-mul (length part)))));
})

pub trunk_put : {part zeros ys : List ℕ} {from to : ℕ} (x low high : ℕ) → 1 ≤ low → from ≡ low - 1 → to ≡ high → from < to
    → to ≤ length part → zeros ≡ replicate (length part) 0 → ys ≡ replicate (length (mid_of from (to - from) zeros)) x
    → Striped part (put_mid from (to - from) zeros ys) (length part) 1 (λ i j. trunk x low high (suc i))
trunk_put {part} {zeros} {ys} {from} {to} x low high one a b h fits blank some = record { long = p.long ∙ z.long; here = at }
  where
    z : Striped part zeros (length part) 1 (λ i j. 0)
    z = filled part zeros 0 blank

    after : List ℕ
    after = put_mid from (to - from) zeros ys

    p : Painted zeros after from (to - from) 1 (λ i j. x)
    p = put_row zeros ys refl (omega (arith, z.long)) (filled (mid_of from (to - from) zeros) ys x some)

    at : (i j : ℕ) → i < length part → j < 1 → get_or after (j * length part + i) 0 ≡ trunk x low high (suc i)
    at i j hi hj =
        let first : j ≡ 0 = omega arith in
        let place : j * length part + i ≡ i = rw first (omega (arith, zero-mul (length part))) in
        elim (dec_lt i from) [
          | yes under ↦
              p.others (j * length part + i) (inl (omega arith)) ∙ z.here i j hi hj ∙ sym (trunk_under x low high (suc i) (omega arith))
          | no over ↦ elim (dec_lt i to) [
            | yes inside ↦
                ap (λ (u : ℕ). get_or after u 0) (omega (arith, place, zero-mul (to - from)))
                ∙ p.here (i - from) 0 (omega arith) (omega arith) ∙ sym (trunk_in x low high (suc i) (omega arith) (omega arith))
            | no past ↦
                p.others (j * length part + i) (inr (omega arith)) ∙ z.here i j hi hj ∙ sym (trunk_over x low high (suc i) (omega arith))
          ]
        ]

-- ---- rows of the buffer

row_in : (a b n : ℕ) → a < b → a * n + n ≤ b * n
row_in a b n h = omega (arith, mul-le-mul_right n h, suc-mul a n)

apart : (n a b c : ℕ) → a ≢ b → In c n → (a * n + c - 1 < b * n) ⊎ (b * n + n * 1 ≤ a * n + c - 1)
apart n a b c ne h = elim (dec_lt a b) [
  | yes l ↦ inl (omega (arith, row_in a b n l))
  | no m ↦ inr (omega (arith, row_in b a n (omega (arith, ne))))
]

-- the row of track j on layer l
abbrev number : ℕ → ℕ → ℕ → ℕ
number w j l = (l - 1) * w + (j - 1)

pub first : In 1 2
first = (omega arith, omega arith)

pub second : In 2 2
second = (omega arith, omega arith)

module _ {n w : ℕ} where
  -- it lies in the buffer
  pub row_fits : (j l : ℕ) → 1 ≤ n → In j w → In l 2 → index (upright n w 2) 1 j l + n ≤ n * w * 2
  row_fits j l h hj hl = omega (arith, index_in (upright n w 2) n j l ((omega arith, omega arith), hj, hl))

  -- it is painted with f
  module _ (f : ℕ → ℕ) {xs ys : List ℕ} {from j l : ℕ} (start : from ≡ index (upright n w 2) 1 j l) (hj : In j w) (hl : In l 2)
      (p : Painted xs ys from n 1 (λ i k. f (suc i))) where
    painted : (c : ℕ) → In c n → wiring_of (upright n w 2) ys c j l ≡ f c
    painted zero h = absurd (omega arith)
    painted (suc c) h =
        ap (λ (u : ℕ). get_or ys u 0) (omega (arith, start, zero-mul n)) ∙ p.here c 0 (omega arith) (omega arith)

    elsewhere : (c i k : ℕ) → Inside (upright n w 2) (point c i k) → ((i ≡ j) → (k ≡ l) → ⊥)
        → wiring_of (upright n w 2) ys c i k ≡ wiring_of (upright n w 2) xs c i k
    elsewhere c i k h other = p.others (index (upright n w 2) c i k) (rw place (apart n (number w i k) (number w j l) c differ h.0))
      where
        place : from ≡ number w j l * n
        place = omega (arith, start)

        differ : number w i k ≢ number w j l
        differ e =
            let same = index_once (upright n w 2) 1 i k 1 j l ((omega arith, omega arith), h.1, h.2) ((omega arith, omega arith), hj, hl)
            (ap (λ (u : ℕ). u * n + 1 - 1) e) in
            other same.1 same.2

    past : 1 ≤ n → (b : ℕ) → n * w * 2 ≤ b → get_or ys b 0 ≡ get_or xs b 0
    past h b k = p.others b (inr (omega (arith, start, row_fits j l h hj hl)))

  -- both rows of a track are lent, striped and handed back
  module _ {wiring ys zs row : List ℕ} {one two columns j : ℕ} {f h : ℕ → ℕ} (some : In n longest_side) (hj : In j w)
      (room : n * w * 2 ≤ length wiring) (all : columns ≡ n) (a : one ≡ index (upright n w 2) 1 j 1) (b : two ≡ index (upright n w 2) 1 j 2)
      (r : Row longest_side f row) where
    pub track_put : Striped (mid_of one (one + columns - one) wiring) ys (length (mid_of one (one + columns - one) wiring)) 1
        (λ i k. item row (suc i))
        → Striped (mid_of two (two + columns - two) (put_mid one (one + columns - one) wiring ys)) zs
        (length (mid_of two (two + columns - two) (put_mid one (one + columns - one) wiring ys))) 1 (λ i k. h (suc i))
        → TrackDrawn (upright n w 2) j f h wiring (put_mid two (two + columns - two) (put_mid one (one + columns - one) wiring ys) zs)
    track_put s t = record {
      vertical = λ c k.
          elsewhere h b hj second q c j 1 (k, hj, first) (λ e z. absurd (omega arith)) ∙ painted (item row) a hj first p c k
          ∙ r.is c (omega arith);
      horizontal = λ c k. painted h b hj second q c k;
      kept = λ c i l k ne. elsewhere h b hj second q c i l k (λ e z. ne e) ∙ elsewhere (item row) a hj first p c i l k (λ e z. ne e);
      long = q.long ∙ p.long;
      others = λ x k. past h b hj second q some.0 x k ∙ past (item row) a hj first p some.0 x k;
    }
      where
        now : List ℕ
        now = put_mid one (one + columns - one) wiring ys

        many : (from : ℕ) → from + columns - from ≡ n
        many from = add-sub_cancel_left from columns ∙ all

        p : Painted wiring now one n 1 (λ i k. item row (suc i))
        p = put_row wiring ys (many one) (omega (arith, a, row_fits j 1 some.0 hj first)) s

        q : Painted now (put_mid two (two + columns - two) now zs) two n 1 (λ i k. h (suc i))
        q = put_row now zs (many two) (omega (arith, b, p.long, row_fits j 2 some.0 hj second)) t
