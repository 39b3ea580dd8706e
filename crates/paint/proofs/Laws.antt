-- Laws of painting: byte by byte, in the first row, in the middle of a buffer, row by row, eight rows at a time, and layer by layer.
use Prim.Native.Nat.{ℕ, zero, suc, ◌+◌, ◌*◌, ◌-◌, ◌/◌, ◌%◌, ◌≤◌, ◌<◌}
use mathlib.Core.Path.{◌≡◌, refl, sym, ap, ap₂, subst, ◌∙◌}
use mathlib.Core.Logic.{◌⊎◌, inl, inr, ⊎_elim, by_cases}
use mathlib.Core.List.{List}
use native.Mathlib.Omega.{arith}
use native.Mathlib.Decide.{ℕ_discrete, dec_lt}
use native.Mathlib.Nat.{zero-mul, one-mul, add-sub_cancel_left, mul-one, suc-mul, mul-add, add-mul, mul_assoc, mul_comm, mul_left_comm, mul-le-mul_right}
use native.Mathlib.Nat.{le-mul_of_pos_right}
use native.Mathlib.Numerals.{add-one}
use mathlib.Core.List.{◌++◌}
use lib.ListN.{length, get_or, set, take, drop, length-set, length-drop, length-append, get_or-append}
use lib.Seq.{get_or-set_same, get_or-set_other, get_or-append-add, get_or-take, get_or-drop, length-take-le}
use borrow.Rule.Slice.PartMut.{mid_of, post_of, put_mid, same_len_mid, take_put, drop_put}
use Rattle.grid.specs.Grid.{Grid, point, Inside}
use Rattle.grid.specs.Legal.{Wiring, index, wiring_of}
use Rattle.terms.specs.Limits.{longest_side}
use Rattle.grid.proofs.Buffer.{index_is}
use Rattle.std.proofs.Math.ListN.{replicate}
use Rattle.std.proofs.lemmas.List.{length-replicate, get_or-replicate}
use Rattle.paint.specs.Paint.{Striped, Lined, Painted, Block, Drawn}

-- ---- byte by byte: the first i bytes are f

pub record Upto (before after : List ℕ) (i : ℕ) (f : ℕ → ℕ) : Type 0 where
  pub long : length after ≡ length before
  pub here : (t : ℕ) → t < i → get_or after t 0 ≡ f t

pub upto_start : (l : List ℕ) (f : ℕ → ℕ) → Upto l l 0 f
upto_start l f = record { long = refl; here = λ t h. absurd (omega arith) }

pub upto_next : {before after : List ℕ} {i : ℕ} {f : ℕ → ℕ} (v : ℕ) → i < length before → v ≡ f i → Upto before after i f
    → Upto before (set after i v) (i + 1) f
upto_next {before} {after} {i} {f} v h e u = record {
  long = simp length-set u.long;
  here = λ t k. by_cases (ℕ_discrete t i)
      (λ q. rw q (get_or-set_same after i v 0 (omega (arith, u.long)) ∙ e))
      (λ ne. get_or-set_other after i t v 0 ne ∙ u.here t (omega (arith, ne)));
}

pub upto_all : {before after : List ℕ} {n : ℕ} {f : ℕ → ℕ → ℕ} → length before ≤ n → Upto before after n (λ i. f i 0) → Striped before after
    (length before) 1 f
upto_all {before} {after} {n} {f} h u = record { long = u.long; here = λ i j hi hj. at i j (omega arith) (omega arith) }
  where
    at : (i j : ℕ) → i < n → j ≡ 0 → get_or after (j * length before + i) 0 ≡ f i j
    at i j hi e = rw e (ap (λ t. get_or after t 0) (omega (arith, zero-mul (length before))) ∙ u.here i hi)

-- the bytes of a single row
pub row_bytes : {before after : List ℕ} {n : ℕ} {f : ℕ → ℕ → ℕ} → Striped before after n 1 f → (i : ℕ) → i < n → get_or after i 0 ≡ f i 0
row_bytes {after = after} {n = n} s i h = ap (λ (u : ℕ). get_or after u 0) (omega (arith, zero-mul n)) ∙ s.here i 0 h (omega arith)

-- the place of a byte in the first row
first_row : (z i size : ℕ) → z < 1 → z * size + i ≡ i
first_row z i size h = let e : z * size ≡ 0 * size = ap (λ (u : ℕ). u * size) (omega arith) in omega (arith, zero-mul size)

-- bytes one by one are a row, and rows of one byte
pub lined_row : {before after : List ℕ} {value : ℕ → ℕ → Type 0} → length after ≡ length before
    → ((i : ℕ) → i < length before → value i (get_or after i 0)) → Lined before after (length before) 1 (λ i j. value i)
lined_row {before} {after} {value} long here = record {
  long = long;
  here = λ i j hi hj. subst (λ (u : ℕ). value i (get_or after u 0)) (sym (first_row j i _ hj)) (here i hi);
}

pub lined_bytes : {before after : List ℕ} {n w : ℕ} {value : ℕ → ℕ → Type 0} → n ≡ 1 → length before ≡ n * w
    → Lined before after (length before) 1 (λ i j. value i) → Lined before after n w (λ i j. value j)
lined_bytes {before} {after} {n} {w} {value} one size s = record {
  long = s.long;
  here = λ i j hi hj.
      let wide : n * w ≡ w = ap (λ (u : ℕ). u * w) one ∙ one-mul w in
      let place : j * n ≡ j = ap (λ (u : ℕ). j * u) one ∙ mul-one j in
      subst (λ (u : ℕ). value j (get_or after u 0)) (first_row 0 j _ (omega arith) ∙ omega (arith, place)) (s.here j 0 (omega arith) (omega arith));
}

-- rows of as many bytes, with the same values
pub striped_as : {before after : List ℕ} {m n w : ℕ} {f g : ℕ → ℕ → ℕ} → m ≡ n → ((i j : ℕ) → i < n → j < w → f i j ≡ g i j)
    → Striped before after m w f → Striped before after n w g
striped_as {before} {after} {m} {n} {w} {f} size same s = record {
  long = s.long;
  here = λ i j hi hj. ap (λ (u : ℕ). get_or after (j * u + i) 0) (sym size) ∙ s.here i j (omega arith) hj ∙ same i j hi hj;
}

-- where the values are as f says
pub lined_striped : {before after : List ℕ} {n w : ℕ} {value : ℕ → ℕ → ℕ → Type 0} {f : ℕ → ℕ → ℕ} → ((i j v : ℕ) → value i j v → v ≡ f i j)
    → Lined before after n w value → Striped before after n w f
lined_striped same s = record { long = s.long; here = λ i j hi hj. same i j _ (s.here i j hi hj) }

-- ---- the first n bytes are lent, painted as a row and handed back

pub put_first : {m : ℕ} {ys : List ℕ} {f : ℕ → ℕ → ℕ} (n : ℕ) (xs : List ℕ) → n ≤ length xs → m ≡ n → Striped (take n xs) ys m 1 f
    → Upto xs (ys ++ drop n xs) n (λ i. f i 0)
put_first {ys = ys} n xs fits wide s = record {
  long = length-append ys (drop n xs) ∙ omega (arith, many, length-drop n xs);
  here = λ i h. get_or-append ys (drop n xs) 0 i (omega (arith, many)) ∙ row_bytes s i (omega arith);
}
  where
    many : length ys ≡ n
    many = s.long ∙ length-take-le n xs fits

-- the first of w rows
module _ (n w : ℕ) (part : List ℕ) (some : 1 ≤ w) (size : length part ≡ n * w) where
  pub first_fits : n ≤ length part
  first_fits = omega (arith, le-mul_of_pos_right n some)

  pub first_size : length (take n part) ≡ n
  first_size = length-take-le n part first_fits

  -- it is painted, and all others become copies of it
  pub first_repeated : {m : ℕ} {ys after : List ℕ} {f : ℕ → ℕ} → m ≡ n → Striped (take n part) ys m 1 (λ i j. f i)
      → Striped (ys ++ drop n part) after n w (λ i j. get_or (ys ++ drop n part) i 0) → Striped part after n w (λ i j. f i)
  first_repeated wide s r =
      let u = put_first n part first_fits wide s in
      record { long = r.long ∙ u.long; here = λ i j hi hj. r.here i j hi hj ∙ u.here i hi }

-- row j, and byte i of it, lie within w rows of n
pub row_in : (n w j : ℕ) → j < w → j * n + n ≤ n * w
row_in n w j h = omega (arith, mul-le-mul_right n h, suc-mul j n, mul_comm w n)

inside : (n w i j : ℕ) → i < n → j < w → j * n + i < n * w
inside n w i j hi hj = omega (arith, row_in n w j hj)

-- ---- in the middle of a buffer: k bytes from a on give way to ys

mid_long : (a k : ℕ) (xs : List ℕ) → a + k ≤ length xs → length (mid_of a k xs) ≡ k
mid_long a k xs fits = length-take-le k (drop a xs) (simp length-drop (omega arith))

pub mid_size : {size : ℕ} (from to : ℕ) (xs : List ℕ) → to ≡ from + size → to ≤ length xs → length (mid_of from (to - from) xs) ≡ size
mid_size from to xs e fits = mid_long from (to - from) xs (omega arith) ∙ omega arith

module _ (a k : ℕ) (xs ys : List ℕ) (fits : a + k ≤ length xs) (many : length ys ≡ k) where
  mid_here : (t : ℕ) → t < k → get_or (put_mid a k xs ys) (a + t) 0 ≡ get_or ys t 0
  mid_here t h =
      ap (λ (u : ℕ). get_or (put_mid a k xs ys) (u + t) 0) (sym (length-take-le a xs (omega arith)))
      ∙ get_or-append-add (take a xs) (ys ++ post_of a k xs) t 0 ∙ get_or-append ys (post_of a k xs) 0 t (omega arith)

  mid_before : (b : ℕ) → b < a → get_or (put_mid a k xs ys) b 0 ≡ get_or xs b 0
  mid_before b h = sym (get_or-take a (put_mid a k xs ys) b 0 h) ∙ ap (λ (l : List ℕ). get_or l b 0) (take_put a k xs ys (omega arith)) ∙ get_or-take a xs b 0 h

  dropped : drop (a + k) (put_mid a k xs ys) ≡ drop (a + k) xs
  dropped =
      let size : a + k - a ≡ k = omega arith in
      subst (λ (u : ℕ). drop (a + k) (put_mid a u xs ys) ≡ drop (a + k) xs) size (drop_put a (a + k) xs ys (omega arith) fits (omega arith))

  mid_after : (t : ℕ) → get_or (put_mid a k xs ys) (a + k + t) 0 ≡ get_or xs (a + k + t) 0
  mid_after t = sym (get_or-drop (a + k) (put_mid a k xs ys) t 0) ∙ ap (λ (l : List ℕ). get_or l t 0) dropped ∙ get_or-drop (a + k) xs t 0

-- a part that is lent, striped and handed back
pub put_striped : {from k n w : ℕ} {f : ℕ → ℕ → ℕ} (xs ys : List ℕ) → k ≡ n * w → from + k ≤ length xs → Striped (mid_of from k xs) ys n w f
    → Painted xs (put_mid from k xs ys) from n w f
put_striped {from} {k} {n} {w} {f} xs ys size fits s = record {
  long = same_len_mid from k xs ys s.long;
  here = λ i j hi hj. mid_here from k xs ys fits many (j * n + i) (omega (arith, inside n w i j hi hj)) ∙ s.here i j hi hj;
  others = λ b o. ⊎_elim (mid_before from k xs ys fits many b)
      (λ h. let e : from + k + (b - (from + k)) ≡ b = omega arith in
      subst (λ (u : ℕ). get_or (put_mid from k xs ys) u 0 ≡ get_or xs u 0) e (mid_after from k xs ys fits many (b - (from + k)))) o;
}
  where
    many : length ys ≡ k
    many = s.long ∙ mid_long from k xs fits

-- n bytes that are lent, striped and handed back
pub put_row : {from n k : ℕ} {f : ℕ → ℕ → ℕ} (xs ys : List ℕ) → k ≡ n → from + n ≤ length xs → Striped (mid_of from k xs) ys (length (mid_of from k xs)) 1 f
    → Painted xs (put_mid from k xs ys) from n 1 f
put_row {from} {n} {k} {f} xs ys size fits s =
    let many : length (mid_of from k xs) ≡ n = mid_long from k xs (omega arith) ∙ size in
    put_striped {k = k} {n = n} {w = 1} xs ys (omega (arith, mul-one n)) (omega arith) (subst (λ (u : ℕ). Striped (mid_of from k xs) ys u 1 f) many s)

pub next_row : (from n j : ℕ) → from ≡ j * n → from + n ≡ (j + 1) * n
next_row from n j e = rw add-one (omega (arith, suc-mul j n))

-- ---- row by row: of the rows of n bytes those above row j are painted

-- row j is the first n of m bytes that are written at its start
pub lined_next : {before now : List ℕ} {n j : ℕ} {value : ℕ → ℕ → ℕ → Type 0} (m : ℕ) (ys : List ℕ) → n ≤ m → j * n + m ≤ length before
    → length ys ≡ m → ((i : ℕ) → i < n → value i j (get_or ys i 0)) → Lined before now n j value
    → Lined before (put_mid (j * n) (j * n + m - j * n) now ys) n (j + 1) value
lined_next {before} {now} {n} {j} {value} m ys wide fits many same p = record {
  long = q.long ∙ p.long;
  here = λ i k hi hk. by_cases (ℕ_discrete k j)
      (λ e. subst (λ (u : ℕ). value i u (get_or after (u * n + i) 0)) (sym e)
      (subst (λ (v : ℕ). value i j v) (sym (ap (λ (u : ℕ). get_or after (j * n + u) 0) (omega (arith, zero-mul m)) ∙ q.here i 0 (omega arith) (omega arith))) (same i hi)))
      (λ ne. subst (λ (v : ℕ). value i k v) (sym (q.others (k * n + i) (inl (omega (arith, inside n j i k hi (omega arith), mul_comm n j)))))
      (p.here i k hi (omega arith)));
}
  where
    after : List ℕ
    after = put_mid (j * n) (j * n + m - j * n) now ys

    q : Painted now after (j * n) m 1 (λ i z. get_or ys i 0)
    q = put_row now ys (add-sub_cancel_left (j * n) m) (omega (arith, p.long)) (record {
      long = many ∙ sym (mid_long (j * n) (j * n + m - j * n) now (omega (arith, p.long)) ∙ add-sub_cancel_left (j * n) m);
      here = λ i z hi hz. ap (λ (u : ℕ). get_or ys u 0) (first_row z i _ hz);
    })

-- the same where these bytes are all v
pub filled_next : {before now : List ℕ} {n j : ℕ} {value : ℕ → ℕ → ℕ → Type 0} (m v : ℕ) (ys : List ℕ) → n ≤ m → j * n + m ≤ length before
    → ys ≡ replicate (length (mid_of (j * n) (j * n + m - j * n) now)) v → ((i : ℕ) → value i j v) → Lined before now n j value
    → Lined before (put_mid (j * n) (j * n + m - j * n) now ys) n (j + 1) value
filled_next {before} {now} {n} {j} {value} m v ys wide fits all same p =
    lined_next m ys wide fits (ap length all ∙ length-replicate _ v ∙ many)
    (λ i h. subst (λ (u : ℕ). value i j u) (sym (ap (λ (l : List ℕ). get_or l i 0) all ∙ get_or-replicate _ i v 0 (omega (arith, many)))) (same i)) p
  where
    many : length (mid_of (j * n) (j * n + m - j * n) now) ≡ m
    many = mid_long (j * n) (j * n + m - j * n) now (omega (arith, p.long)) ∙ add-sub_cancel_left (j * n) m

-- a row with no fewer than 15 / n others after it has 16 bytes from its start on
pub store_in : (n w j : ℕ) → 1 ≤ n → j < w - 15 / n → j * n + 16 ≤ n * w
store_in n w j some h =
    let below : j + (15 / n + 1) ≤ w = omega arith in
    omega (arith, mul-le-mul_right n below, add-mul j (15 / n + 1) n, add-mul (15 / n) 1 n, mul_comm n (15 / n), mul_comm w n)

-- ---- rows at the front and at the back of a part are lent, striped and handed back

pub front_striped : {n w k : ℕ} {f : ℕ → ℕ → ℕ} {ys : List ℕ} (xs : List ℕ) → k ≡ n * w → k ≤ length xs → Striped (take k xs) ys n w f
    → Striped xs (ys ++ drop k xs) n w f
front_striped {n} {w} {k} {f} {ys} xs size fits s = record {
  long = length-append ys (drop k xs) ∙ omega (arith, many, length-drop k xs);
  here = λ i j hi hj. get_or-append ys (drop k xs) 0 (j * n + i) (omega (arith, inside n w i j hi hj, many)) ∙ s.here i j hi hj;
}
  where
    many : length ys ≡ k
    many = s.long ∙ length-take-le k xs fits

-- the last m rows, which follow the first j
module _ {before now : List ℕ} {n j from : ℕ} {f : ℕ → ℕ → ℕ} (w m : ℕ) (all : j + m ≡ w) (start : from ≡ j * n) (size : length before ≡ n * w)
    (above : Striped before now n j f) where
  back_size : from + n * m ≡ length now
  back_size = let e : n * (j + m) ≡ n * w = ap (λ (u : ℕ). n * u) all in omega (arith, mul-add n j m, mul_comm j n, above.long)

  pub back_long : length (mid_of from (length now - from) now) ≡ n * m
  back_long = mid_long from (length now - from) now (omega (arith, back_size)) ∙ omega (arith, back_size)

  pub back_striped : {ys : List ℕ} → Striped (mid_of from (length now - from) now) ys n m (λ i z. f i (j + z))
      → Striped before (put_mid from (length now - from) now ys) n w f
  back_striped {ys} s = record {
    long = p.long ∙ above.long;
    here = λ i k hi hk. elim (dec_lt k j) [
      | yes h ↦ p.others (k * n + i) (inl (omega (arith, inside n j i k hi h, mul_comm n j, start))) ∙ above.here i k hi h
      | no h ↦
          let e : j + (k - j) ≡ k = omega arith in
          subst (λ (u : ℕ). get_or after (u * n + i) 0 ≡ f i u) e
          (ap (λ (u : ℕ). get_or after u 0) (omega (arith, add-mul j (k - j) n, start)) ∙ p.here i (k - j) hi (omega arith))
    ];
  }
    where
      after : List ℕ
      after = put_mid from (length now - from) now ys

      p : Painted now after from n m (λ i z. f i (j + z))
      p = put_striped {k = length now - from} now ys (omega (arith, back_size)) (omega (arith, back_size)) s

-- ---- eight rows at a time

pub block_long : (n : ℕ) (block : List ℕ) → n ≤ longest_side → length block ≡ 8 * longest_side → length (take (8 * n) block) ≡ 8 * n
block_long n block few long = length-take-le (8 * n) block (omega arith)

-- an array whose first bytes are lent, striped by row and handed back
pub block_made : {ys row : List ℕ} (blank : List ℕ) → length row ≤ longest_side → length blank ≡ 8 * longest_side
    → Striped (take (8 * length row) blank) ys (length row) 8 (λ i j. get_or row i 0) → Block (ys ++ drop (8 * length row) blank) row
block_made {ys} {row} blank few size s =
    let r : Striped blank (ys ++ drop (8 * length row) blank) (length row) 8 (λ i j. get_or row i 0) = front_striped blank (mul_comm 8 (length row)) (omega arith) s in
    record { long = r.long ∙ size; here = r.here }

pub blocks_fit : (n w : ℕ) → 8 * n * (w / 8) ≤ n * w
blocks_fit n w =
    let h : 8 * (w / 8) ≤ w = omega arith in
    omega (arith, mul-le-mul_right n h, mul_assoc 8 (w / 8) n, mul_assoc 8 n (w / 8), mul_comm n (w / 8), mul_comm w n)

pub blocks_end : (n w : ℕ) → 8 * n * (w / 8) ≡ 8 * (w / 8) * n
blocks_end n w = omega (arith, mul_assoc 8 n (w / 8), mul_assoc 8 (w / 8) n, mul_comm n (w / 8))

-- rows of the block's first bytes are rows of row, and m rows of the block are 8 * m rows of row
module _ {row block : List ℕ} (few : length row ≤ longest_side) (b : Block block row) where
  pub first_long : length (take (length row) block) ≡ length row
  first_long = length-take-le (length row) block (omega (arith, b.long))

  pub first_rows : {before after : List ℕ} {w : ℕ} → Striped before after (length (take (length row) block)) w (λ i j. get_or (take (length row) block) i 0)
      → Striped before after (length row) w (λ i j. get_or row i 0)
  first_rows s = striped_as first_long
      (λ i j hi hj. get_or-take (length row) block i 0 hi ∙ ap (λ (u : ℕ). get_or block u 0) (omega (arith, zero-mul (length row)))
      ∙ b.here i 0 hi (omega arith)) s

  block_rows : {before after : List ℕ} (m : ℕ)
      → Striped before after (length (take (8 * length row) block)) m (λ i j. get_or (take (8 * length row) block) i 0)
      → Striped before after (length row) (8 * m) (λ i j. get_or row i 0)
  block_rows {before} {after} m s = record {
    long = s.long;
    here = λ i j hi hj.
        let e : (8 * (j / 8) + j % 8) * n ≡ j * n = ap (λ (u : ℕ). u * n) (omega arith) in
        let h : j % 8 * n + i < 8 * n = omega (arith, inside n 8 i (j % 8) hi (omega arith)) in
        ap (λ (u : ℕ). get_or after u 0) (omega (arith, add-mul (8 * (j / 8)) (j % 8) n, mul_assoc 8 (j / 8) n, mul_left_comm (j / 8) 8 n))
        ∙ p.here (j % 8 * n + i) (j / 8) h (omega arith) ∙ b.here i (j % 8) hi (omega arith);
  }
    where
      n : ℕ
      n = length row

      p : Striped before after (8 * n) m (λ i j. get_or block i 0)
      p = striped_as (block_long n block few b.long) (λ i j hi hj. get_or-take (8 * n) block i 0 hi) s

  -- the rows of w / 8 blocks, which are lent at the front
  pub above_rest : {part ys : List ℕ} (w : ℕ) → length part ≡ length row * w
      → Striped (take (8 * length row * (w / 8)) part) ys (length (take (8 * length row) block)) (w / 8) (λ i j. get_or (take (8 * length row) block) i 0)
      → Striped part (ys ++ drop (8 * length row * (w / 8)) part) (length row) (8 * (w / 8)) (λ i j. get_or row i 0)
  above_rest {part} {ys} w size s =
      let long : length (take (8 * length row) block) ≡ 8 * length row = block_long (length row) block few b.long in
      block_rows (w / 8) (front_striped part (ap (λ (u : ℕ). u * (w / 8)) (sym long)) (omega (arith, blocks_fit (length row) w)) s)

-- ---- a layer's part, lent from `from` to `to`, striped and handed back

put_layer : {from to n w : ℕ} {f : ℕ → ℕ → ℕ} (xs ys : List ℕ) → to ≡ from + n * w → to ≤ length xs
    → Striped (mid_of from (to - from) xs) ys n w f → Painted xs (put_mid from (to - from) xs ys) from n w f
put_layer {from} {to} xs ys e fits s = put_striped {k = to - from} xs ys (omega arith) (omega arith) s

-- in it rows are painted from `at` on, and the rest is as it was
module _ {from to at n w : ℕ} {f : ℕ → ℕ → ℕ} (xs ys : List ℕ) (in_order : from ≤ to) (fits : to ≤ length xs) (room : at + n * w ≤ to - from)
    (p : Painted (mid_of from (to - from) xs) ys at n w f) where
  many : length ys ≡ to - from
  many = p.long ∙ mid_long from (to - from) xs (omega arith)

  byte_of : (t : ℕ) → t < to - from → get_or (put_mid from (to - from) xs ys) (from + t) 0 ≡ get_or ys t 0
  byte_of = mid_here from (to - from) xs ys (omega arith) many

  elsewhere : (b : ℕ) → (b < from + at) ⊎ (from + at + n * w ≤ b) → get_or (put_mid from (to - from) xs ys) b 0 ≡ get_or xs b 0
  elsewhere b o = elim (dec_lt b from) [
    | yes under ↦ mid_before from (to - from) xs ys (omega arith) many b under
    | no over ↦ elim (dec_lt b to) [
      | yes within ↦
          let e : from + (b - from) ≡ b = omega arith in
          subst (λ (u : ℕ). get_or (put_mid from (to - from) xs ys) u 0 ≡ get_or xs u 0) e
          (byte_of (b - from) (omega arith) ∙ p.others (b - from) (⊎_elim (λ h. inl (omega arith)) (λ h. inr (omega arith)) o)
          ∙ get_or-take (to - from) (drop from xs) (b - from) 0 (omega arith) ∙ get_or-drop from xs (b - from) 0)
      | no past ↦
          let e : from + (to - from) + (b - to) ≡ b = omega arith in
          subst (λ (u : ℕ). get_or (put_mid from (to - from) xs ys) u 0 ≡ get_or xs u 0) e (mid_after from (to - from) xs ys (omega arith) many (b - to))
    ]
  ]

  pub put_painted : Painted xs (put_mid from (to - from) xs ys) (from + at) n w f
  put_painted = record {
    long = same_len_mid from (to - from) xs ys p.long;
    here = λ i j hi hj.
        ap (λ (u : ℕ). get_or (put_mid from (to - from) xs ys) u 0) (omega arith) ∙ byte_of (at + (j * n + i)) (omega (arith, inside n w i j hi hj))
        ∙ p.here i j hi hj;
    others = elsewhere;
  }

-- ---- layer by layer

pub drawn_none : (n w : ℕ) (l : List ℕ) (x : Wiring) → Drawn n w l l 0 x
drawn_none n w l x = record { long = refl; here = λ i j t hi hj h. absurd (omega arith); others = λ b h. refl }

-- the next layer is painted as x has it
drawn_next : {n w top from : ℕ} {before now after : List ℕ} {f : ℕ → ℕ → ℕ} {x : Wiring} → from ≡ top * (n * w) → Drawn n w before now top x
    → Painted now after from n w f → ((i j : ℕ) → i < n → j < w → f i j ≡ x (suc i) (suc j) (suc top)) → Drawn n w before after (suc top) x
drawn_next {n} {w} {top} {from} {before} {now} {after} {f} {x} start d p same = record {
  long = p.long ∙ d.long;
  here = λ i j l hi hj hl. by_cases (ℕ_discrete l top)
      (λ e. rw e (ap (λ (u : ℕ). get_or after (u + (j * n + i)) 0) (sym start) ∙ p.here i j hi hj ∙ same i j hi hj))
      (λ ne. p.others (l * (n * w) + (j * n + i)) (inl (omega (arith, inside n w i j hi hj, row_in (n * w) top l (omega arith), mul_comm (n * w) top)))
      ∙ d.here i j l hi hj (omega arith));
  others = λ b h. let e : suc top * (n * w) ≡ top * (n * w) + n * w = suc-mul top (n * w) in p.others b (inr (omega arith)) ∙ d.others b (omega arith);
}

-- the same where the layer's part is lent, striped and handed back
pub drawn_part : {n w top from to : ℕ} {before now ys : List ℕ} {f : ℕ → ℕ → ℕ} {x : Wiring} → from ≡ top * (n * w) → to ≡ from + n * w → to ≤ length now
    → Drawn n w before now top x → Striped (mid_of from (to - from) now) ys n w f
    → ((i j : ℕ) → i < n → j < w → f i j ≡ x (suc i) (suc j) (suc top)) → Drawn n w before (put_mid from (to - from) now ys) (suc top) x
drawn_part {now = now} {ys = ys} start end fits d s same = drawn_next start d (put_layer now ys end fits s) same

-- the drawn layers are the wiring that the buffer holds
pub drawn_wiring : (g : Grid) {before after : List ℕ} {x : Wiring} → Drawn g.n g.w before after g.k x
    → (i j l : ℕ) → Inside g (point i j l) → wiring_of g after i j l ≡ x i j l
drawn_wiring g d zero j l h = absurd (omega arith)
drawn_wiring g d (suc i) zero l h = absurd (omega arith)
drawn_wiring g d (suc i) (suc j) zero h = absurd (omega arith)
drawn_wiring g {before} {after} {x} d (suc i) (suc j) (suc l) h =
    ap (λ (u : ℕ). get_or after u 0) (at ∙ ap₂ (λ (a b : ℕ). a * (g.n * g.w) + (b * g.n + i)) level row)
    ∙ d.here i j l (omega arith) (omega arith) (omega arith)
  where
    level : suc l - 1 ≡ l
    level = omega arith

    row : suc j - 1 ≡ j
    row = omega arith

    at : index g (suc i) (suc j) (suc l) ≡ (suc l - 1) * (g.n * g.w) + ((suc j - 1) * g.n + i)
    at = omega (arith, index_is g (suc i) (suc j) (suc l) (omega arith))
