-- Bits of a map: a byte's count of ones is the number of its standing places, and its leading zeros show whether a spare bit stands.
use Prim.Native.Nat.{ℕ, zero, suc, ◌+◌, ◌-◌, ◌*◌, ◌/◌, ◌%◌, ◌^◌, ◌≤◌, ◌<◌}
use mathlib.Core.Bool.{Bool, true, false, cond, and-false, and-eq-true_iff}
use mathlib.Core.List.{List}
use mathlib.Core.Logic.{◌≢◌, ⊎_elim, by_cases}
use mathlib.Core.Path.{◌≡◌, refl, sym, ap, ◌∙◌}
use native.Mathlib.Nat.{add-suc, zero-add, add-zero, div-one, lt_of_lt_of_le, le_trans, pow-suc, div-eq_of_lt, div-lt_iff_lt-mul, le-div_iff_mul-le}
use native.Mathlib.Nat.{div-le_self, lt_of_le_of_lt}
use native.Mathlib.Decide.{ℕ_discrete}
use native.Mathlib.Numerals.{add-one}
use native.Mathlib.Omega.{arith}
use lib.Dec.{leb, ltb, eqb}
use lib.Pow.{pow_mono, pow_pos, shr-shr}
use lib.Count.{ones, ones_step, count_leading_zeros, leading_length}
use borrow.Author.Tests.{le-leb, lt-leb, lt-ltb, le-ltb, eq-eqb, ne_eqb, leb-true}
use Rattle.counting.specs.Counting.{bit, sum, count}
use Rattle.counting.proofs.Sums.{bit_one, bit_zero}
use Rattle.counting.proofs.Counts.{count_le}
use Rattle.ticket_sides.proofs.Flags.{le_or_lt}
use Rattle.ticket_sides.specs.Format.{byte, is_on, stands, standing_bits, map_bytes, good_map}
use Rattle.ticket_sides.specs.Steps.{map_count}

-- ---- one byte

-- how many of the lowest d bits of b stand
abbrev low : ℕ → ℕ → ℕ
low b d = count (λ a. is_on b (a - 1)) d

pub bit_mod : (x : ℕ) → bit (eqb (x % 2) 1) ≡ x % 2
bit_mod x =
    by_cases (ℕ_discrete (x % 2) 1)
    (λ e. bit_one (eq-eqb (x % 2) 1 e) ∙ sym e)
    (λ ne. let z : x % 2 ≡ 0 = omega arith in bit_zero (ne_eqb (x % 2) 1 ne) ∙ sym z)

-- the ones of a byte are those of its lowest d bits and those of the rest
ones_split : (b d : ℕ) → low b d + ones (b / 2 ^ d) ≡ ones b
unfolding sum
ones_split b zero = simp (zero-add, div-one)
ones_split b (suc d) =
    let q : suc d - 1 ≡ d = omega arith in
    let up : b / 2 ^ d / 2 ≡ b / 2 ^ suc d = shr-shr b d 1 ∙ ap (λ (k : ℕ). b / 2 ^ k) (add-one d) in
    let here : bit (is_on b (suc d - 1)) ≡ b / 2 ^ d % 2 = rw q (bit_mod (b / 2 ^ d)) in
    omega (arith, ones_split b d, ones_step (b / 2 ^ d), ap ones up)

ones_zero : ones 0 ≡ 0
unfolding ones
ones_zero = refl

ones_some : (k n : ℕ) → n < 2 ^ k → 1 ≤ n → 1 ≤ ones n
ones_some zero n h p = absurd (omega arith)
ones_some (suc k) n h p =
    by_cases (ℕ_discrete (n % 2) 0)
    (λ e.
    let less : n / 2 < 2 ^ k = (div-lt_iff_lt-mul {k = 2} {x = n} {y = 2 ^ k} (omega arith)).1 (rw pow-suc at h) in
    omega (arith, ones_step n, ones_some k (n / 2) less (omega arith)))
    (λ ne. omega (arith, ones_step n))

-- a bit of b stands past its lowest `used` exactly where its leading zeros are fewer than 8 - used
pub spare : (b used : ℕ) → b < 2 ^ 8 → leb (2 ^ used) b ≡ ltb (count_leading_zeros 8 b + used) 8
spare b used h =
    let t = leading_length 8 b h in
    ⊎_elim
    (λ (le : t.0 ≤ used). lt-leb _ _ (lt_of_lt_of_le t.2 (pow_mono le)) ∙ sym (le-ltb (count_leading_zeros 8 b + used) 8 (omega (arith, t.1))))
    (λ (lt : used < t.0).
    let p : 2 ^ used * 2 ≤ 2 * b + 1 = rw (← pow-suc 2 used) (le_trans (pow_mono lt) t.3) in
    le-leb (2 ^ used) b (omega arith) ∙ sym (lt-ltb (count_leading_zeros 8 b + used) 8 (omega (arith, t.1))))
    (le_or_lt t.0 used)

-- ---- a map

pub standing_le : (s : List ℕ) (from i : ℕ) → standing_bits s from i ≤ i
standing_le s from i = count_le (stands s from) i

-- the standing places below place d of byte j
standing_byte : (s : List ℕ) (from j d : ℕ) → d ≤ 8 → standing_bits s from (8 * j + d) ≡ standing_bits s from (8 * j) + low (byte s (from + j)) d
unfolding sum
standing_byte s from j zero h = simp add-zero
standing_byte s from j (suc d) h =
    let q : (suc (8 * j + d) - 1) / 8 ≡ j = omega arith in
    let r : (suc (8 * j + d) - 1) % 8 ≡ d = omega arith in
    let t : suc d - 1 ≡ d = omega arith in
    rw (add-suc, q, r, t) (omega (arith, standing_byte s from j d (omega arith)))

-- a whole byte
pub standing_ones : (s : List ℕ) (from j : ℕ) → byte s (from + j) < 2 ^ 8 → standing_bits s from (8 * (j + 1)) ≡ standing_bits s from (8 * j) + ones
    (byte s (from + j))
standing_ones s from j h =
    let b = byte s (from + j) in
    let e : 8 * (j + 1) ≡ 8 * j + 8 = omega arith in
    let rest : ones (b / 2 ^ 8) ≡ 0 = ap ones (div-eq_of_lt h) ∙ ones_zero in
    rw e (omega (arith, standing_byte s from j 8 (omega arith), ones_split b 8))

-- the last byte of a map of p places, and how many of its bits are places
abbrev pub last_byte : List ℕ → ℕ → ℕ → ℕ
last_byte s from p = byte s (from + (map_bytes p - 1))

abbrev pub used : ℕ → ℕ
used p = p - 8 * (map_bytes p - 1)

module _ (s : List ℕ) (from p : ℕ) (some : 1 ≤ p) (h : last_byte s from p < 2 ^ 8) where
  parts : standing_bits s from (8 * map_bytes p) ≡ standing_bits s from p + ones (last_byte s from p / 2 ^ used p)
  parts =
      let j = map_bytes p - 1 in
      let whole : 8 * map_bytes p ≡ 8 * (j + 1) = omega arith in
      let all : 8 * j + used p ≡ p = omega arith in
      omega (
        arith,
        ap (standing_bits s from) whole,
        ap (standing_bits s from) all,
        standing_ones s from j h,
        standing_byte s from j (used p) (omega arith),
        ones_split (last_byte s from p) (used p),
      )

  -- a spare bit stands: the map is not good
  pub count_spare : 2 ^ used p ≤ last_byte s from p → map_count s from p ≡ 0
  unfolding good_map
  count_spare le =
      let b = last_byte s from p in
      let one : 1 ≤ b / 2 ^ used p = (le-div_iff_mul-le {k = 2 ^ used p} {x = 1} {y = b} (pow_pos (used p))).1 (omega arith) in
      let more = ones_some 8 (b / 2 ^ used p) (lt_of_le_of_lt (div-le_self b (2 ^ used p)) h) one in
      let all = standing_bits s from (8 * map_bytes p) in
      let k = standing_bits s from p in
      let ne : eqb all k ≡ false = ne_eqb all k (λ e. omega (arith, parts)) in
      simp (ne, and-false)

  -- none does: all that stand in its bytes are places
  pub count_whole : last_byte s from p < 2 ^ used p → map_count s from p ≡ standing_bits s from (8 * map_bytes p)
  unfolding good_map
  count_whole lt =
      let none : ones (last_byte s from p / 2 ^ used p) ≡ 0 = ap ones (div-eq_of_lt lt) ∙ ones_zero in
      let k = standing_bits s from p in
      let same : standing_bits s from (8 * map_bytes p) ≡ k = omega (arith, parts) in
      let test : eqb (standing_bits s from (8 * map_bytes p)) k ≡ true = eq-eqb _ _ same in
      by_cases (ℕ_discrete k 0)
      (λ e. rw (lt-leb 1 k (omega arith)) (sym (same ∙ e)))
      (λ ne. rw (le-leb 1 k (omega arith), test) (sym same))

count_cases : (t : Bool) (k : ℕ) → cond t k 0 ≢ 0 → (t ≡ true) × (cond t k 0 ≡ k)
count_cases true k n = (refl, refl)
count_cases false k n = absurd (n refl)

pub count_good : (s : List ℕ) (from p : ℕ) → map_count s from p ≢ 0 → (good_map s from p ≡ true) × (map_count s from p ≡ standing_bits s from p)
count_good s from p n = count_cases (good_map s from p) (standing_bits s from p) n

good_cases : (t : Bool) (k : ℕ) → (t ≡ true → 1 ≤ k) → cond t k 0 ≡ 0 → t ≡ false
good_cases true k h e = absurd (omega (arith, h refl))
good_cases false k h e = refl

pub count_bad : (s : List ℕ) (from p : ℕ) → map_count s from p ≡ 0 → good_map s from p ≡ false
unfolding good_map
count_bad s from p e =
    good_cases (good_map s from p) (standing_bits s from p)
    (λ q. leb-true 1 (standing_bits s from p) ((and-eq-true_iff (leb 1 (standing_bits s from p)) _).0 q).0) e
