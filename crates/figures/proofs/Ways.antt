-- One net: f and l are its first and its last column, v and u how many pins it has on the near and on the far side of n columns. From its
-- least to its greatest place it crosses, or its pins are all on the near side, all on the far side, or at one column, if it has any.
use Prim.Native.Nat.{ℕ, suc, ◌+◌, ◌≤◌, ◌<◌, max}
use mathlib.Core.Path.{◌≡◌, refl, sym, ◌∙◌}
use mathlib.Core.Logic.{by_cases}
use mathlib.Core.Bool.{true, false, cond, not, ◌&&◌, and-true, and-false, and-eq-true_iff, true≢false}
use native.Mathlib.Decide.{ℕ_discrete}
use native.Mathlib.Omega.{arith}
use lib.Dec.{eqb, leb, ltb}
use borrow.Author.Tests.{eqb-true, eq-eqb, ne_eqb, le-leb, lt-leb}
use Rattle.counting.specs.Counting.{In}
use Rattle.counting.proofs.Sums.{split}
use Rattle.nets.specs.Tables.{low_of, high_of}
use Rattle.figures.specs.Crossings.{nowhere, stays_at, begin_of, end_of, Way, crosses, all_near, all_far, nowhere_at_all}

-- its least and greatest place, where it begins and where it ends
pub data Course (f l v u n : ℕ) : ℕ → ℕ → ℕ → ℕ → Type 0 where
  over : {low high : ℕ} → low < high → high ≤ n + 1 → (u ≡ 0 → l ≡ 0 → v ≡ 0) → (v ≡ 0 → f ≡ 0 → u ≡ 0)
      → Course f l v u n low high low high
  near_alone : 1 ≤ v → u ≡ 0 → l ≡ 0 → Course f l v u n 0 0 0 0
  far_alone : 1 ≤ u → v ≡ 0 → f ≡ 0 → Course f l v u n (n + 1) (n + 1) (n + 1) (n + 1)
  still : {low high : ℕ} → high ≤ low → v ≡ 0 → u ≡ 0 → Course f l v u n low high nowhere nowhere

pub record Columns (f l n : ℕ) : Type 0 where
  pub order : f ≤ l
  pub fits : l ≤ n
  pub none : f ≡ 0 → l ≡ 0

module _ (f l v u n : ℕ) (c : Columns f l n) where
  abbrev Here : ℕ → ℕ → ℕ → ℕ → Type 0
  Here = Course f l v u n

  moving : stays_at f l v u ≡ false
      → Here (low_of f v u (n + 1)) (high_of l u (n + 1)) (cond (eqb v 0) (cond (eqb f 0) (n + 1) f) 0) (high_of l u (n + 1))
  moving e = by_cases (ℕ_discrete v 0)
      (λ z. by_cases (ℕ_discrete u 0)
      (λ o. by_cases (ℕ_discrete f l)
      (λ q. absurd (true≢false (rw (z, o, eq-eqb f l q) at e)))
      (λ ne. rw (z, o, ne_eqb f 0 (λ q. omega (arith, ne, c.order, c.none q)))
      (over {low = f} {high = l} (omega (arith, c.order, ne)) (omega (arith, c.fits))
      (λ a b. refl) (λ a b. refl))))
      (λ ne. by_cases (ℕ_discrete f 0)
      (λ q. rw (z, q, ne_eqb u 0 ne) (far_alone (omega (arith, ne)) refl refl))
      (λ nf. rw (z, ne_eqb u 0 ne, ne_eqb f 0 nf)
      (over {low = f} {high = n + 1} (omega (arith, c.order, c.fits)) (omega arith) (λ a b. refl) (λ a b. absurd (nf b))))))
      (λ nv. by_cases (ℕ_discrete u 0)
      (λ o. by_cases (ℕ_discrete l 0)
      (λ q. rw (ne_eqb v 0 nv, o, q) (near_alone (omega (arith, nv)) refl refl))
      (λ nl. rw (ne_eqb v 0 nv, o)
      (over {low = 0} {high = l} (omega (arith, nl)) (omega (arith, c.fits)) (λ a b. absurd (nl b)) (λ a b. absurd (nv a)))))
      (λ ne. rw (ne_eqb v 0 nv, ne_eqb u 0 ne)
      (over {low = 0} {high = n + 1} (omega arith) (omega arith) (λ a b. absurd (ne a)) (λ a b. absurd (nv a)))))

  resting : stays_at f l v u ≡ true → Here (low_of f v u (n + 1)) (high_of l u (n + 1)) nowhere nowhere
  resting e =
      let (q, s) = (and-eq-true_iff (eqb f l) (eqb (max v u) 0)).0 e in
      let z : v ≡ 0 = omega (arith, eqb-true (max v u) 0 s) in
      let o : u ≡ 0 = omega (arith, eqb-true (max v u) 0 s) in
      by_cases (ℕ_discrete f 0)
      (λ r. rw (z, o, r) (still {low = 0} {high = l} (omega (arith, c.none r)) refl refl))
      (λ ne. rw (z, o, ne_eqb f 0 ne) (still {low = f} {high = l} (omega (arith, eqb-true f l q)) refl refl))

  pub course : Here (low_of f v u (n + 1)) (high_of l u (n + 1)) (begin_of f l v u (n + 1)) (end_of f l v u (n + 1))
  course = split (stays_at f l v u) (λ e. rw e (resting e)) (λ e. rw e (moving e))

-- ---- what it tells

not_alone : (a b c : ℕ) → (b ≡ 0 → c ≡ 0 → a ≡ 0) → (leb 1 a && not (leb 1 b) && not (leb 1 c)) ≡ false
not_alone a b c none = by_cases (ℕ_discrete b 0)
    (λ z. by_cases (ℕ_discrete c 0)
    (λ q. simp (lt-leb 1 a (omega (arith, none z q))))
    (λ ne. simp (le-leb 1 c (omega (arith, ne)), and-false)))
    (λ ne. simp (le-leb 1 b (omega (arith, ne)), and-false))

module _ {f l v u n : ℕ} (small : n + 1 < nowhere) where
  pub way : {low high x y : ℕ} → Course f l v u n low high x y → Way n x y
  way (over k h a b) = crosses k h
  way (near_alone a b c) = all_near
  way (far_alone a b c) = all_far
  way (still a b c) = nowhere_at_all

  pub begin : {low high x y : ℕ} (c : ℕ) → In c n → Course f l v u n low high x y → x ≡ c → low ≡ c
  begin c i (over k h a b) e = e
  begin c i (near_alone a b d) e = e
  begin c i (far_alone a b d) e = e
  begin c i (still a b d) e = absurd (omega arith)

  pub end : {low high x y : ℕ} (c : ℕ) → In c n → Course f l v u n low high x y → y ≡ c → high ≡ c
  end c i (over k h a b) e = e
  end c i (near_alone a b d) e = e
  end c i (far_alone a b d) e = e
  end c i (still a b d) e = absurd (omega arith)

  -- the columns that it goes over
  pub goes_over_lem : {low high x y : ℕ} (c : ℕ) → In c n → Course f l v u n low high x y
      → (leb x c && leb c y) ≡ (leb low c && leb c high && ltb low high)
  goes_over_lem {low} {high} c i (over k h a b) = simp (le-leb (suc low) high k, and-true)
  goes_over_lem c i (near_alone a b d) = simp (lt-leb c 0 i.0, and-false)
  goes_over_lem c i (far_alone a b d) = simp (lt-leb (n + 1) c (omega arith))
  goes_over_lem {low} {high} c i (still a b d) = simp (lt-leb nowhere c (omega arith), lt-leb (suc low) high (omega arith), and-false)

  -- its pins are all on the near side, all on the far side
  pub ends_near : {low high x y : ℕ} → Course f l v u n low high x y → eqb y 0 ≡ (leb 1 v && not (leb 1 u) && not (leb 1 l))
  ends_near {y = y} (over k h a b) = ne_eqb y 0 (λ q. omega arith) ∙ sym (not_alone v u l a)
  ends_near (near_alone a b d) = simp (le-leb 1 v a, lt-leb 1 u (omega arith), lt-leb 1 l (omega arith))
  ends_near (far_alone a b d) = simp (ne_eqb (n + 1) 0 (λ q. omega arith), lt-leb 1 v (omega arith))
  ends_near (still a b d) = simp (lt-leb 1 v (omega arith))

  pub begins_far : {low high x y : ℕ} → Course f l v u n low high x y → eqb x (n + 1) ≡ (leb 1 u && not (leb 1 v) && not (leb 1 f))
  begins_far {x = x} (over k h a b) = ne_eqb x (n + 1) (λ q. omega arith) ∙ sym (not_alone u v f b)
  begins_far (near_alone a b d) = simp (ne_eqb 0 (n + 1) (λ q. omega arith), lt-leb 1 u (omega arith))
  begins_far (far_alone a b d) = simp (eq-eqb (n + 1) (n + 1) refl, le-leb 1 u a, lt-leb 1 v (omega arith), lt-leb 1 f (omega arith))
  begins_far (still a b d) = simp (ne_eqb nowhere (n + 1) (λ q. omega arith), lt-leb 1 u (omega arith))
