-- From column to column: the nets that begin at a column come in, those that end there go, and each is one of the column's two pins.
use Prim.Native.Nat.{ℕ, suc, ◌+◌, ◌≤◌, ◌<◌, max}
use mathlib.Core.Path.{◌≡◌, refl, sym, ap, ap₂, ◌∙◌}
use mathlib.Core.Logic.{by_cases}
use mathlib.Core.Bool.{Bool, true, false, not, ◌&&◌, ◌||◌, and-true, and-false, and-eq-true_iff, false≢true}
use mathlib.Core.List.{List}
use native.Mathlib.Decide.{ℕ_discrete, dec_le}
use native.Mathlib.Numerals.{add-one}
use native.Mathlib.Omega.{arith}
use lib.Dec.{eqb, leb, ltb}
use borrow.Author.Tests.{eqb-true, eq-eqb, ne_eqb, le-leb, lt-leb}
use Rattle.counting.specs.Counting.{In, bit, most}
use Rattle.counting.proofs.Sums.{split, bit_le, bit_zero, sum_same, sum_add, sum_zero}
use Rattle.counting.proofs.Counts.{count_same, count_le}
use Rattle.counting.proofs.Tests.{count_once}
use Rattle.terms.specs.Limits.{largest_net}
use Rattle.grid.specs.Legal.{nets}
use Rattle.nets.specs.Tables.{Numbered}
use Rattle.figures.specs.Crossings.{at, nowhere, Way, crosses, all_near, all_far, nowhere_at_all, comes_to, EndsAt, goes_over, now_at}

-- ---- how many nets have an entry, where only x and y can

count_at : (x : ℕ) (s : Bool) → (s ≡ true → In x largest_net) → nets (λ m. eqb x m && s) ≡ bit s
count_at x true i =
    count_once (λ m. eqb x m && true) largest_net x (i refl) (rw (eq-eqb x x refl)) (λ m e. sym (eqb-true x m (simp and-true at e)))
count_at x false i = sum_zero _ largest_net (λ m j. simp and-false)

module _ (t : ℕ → Bool) (x y : ℕ) (hx : x ≤ largest_net) (hy : y ≤ largest_net) (none : t 0 ≡ false)
    (only : (m : ℕ) → In m largest_net → t m ≡ true → (eqb x m || eqb y m) ≡ true) where
  each : (m : ℕ) → In m largest_net → bit (t m) ≡ bit (eqb x m && t x) + bit (eqb y m && (not (eqb x y) && t y))
  each m i =
      by_cases (ℕ_discrete x m)
      (λ q. rw (← q, eq-eqb x x refl) (by_cases (ℕ_discrete x y)
      (λ e. rw (eq-eqb x y e) (simp and-false (omega arith)))
      (λ ne. rw (ne_eqb y x (λ e. ne (sym e))) (omega arith))))
      (λ nx. rw (ne_eqb x m nx) (by_cases (ℕ_discrete y m)
      (λ q. rw (← q, eq-eqb y y refl, ne_eqb x y (λ e. nx (e ∙ q))) (omega arith))
      (λ ny. rw (ne_eqb y m ny) (split (t m)
      (λ e. absurd (false≢true (rw (ne_eqb x m nx, ne_eqb y m ny) at (only m i e))))
      (λ e. bit_zero e)))))

  inside : (v : ℕ) → v ≤ largest_net → t v ≡ true → In v largest_net
  inside v h e = by_cases (ℕ_discrete v 0) (λ z. absurd (false≢true (sym none ∙ ap t (sym z) ∙ e))) (λ ne. omega arith)

  count_two : nets t ≡ bit (t x) + bit (not (eqb x y) && t y)
  count_two =
      sum_same _ _ largest_net each
      ∙ sum_add (λ m. bit (eqb x m && t x)) (λ m. bit (eqb y m && (not (eqb x y) && t y))) largest_net
      ∙ ap₂ (λ (a b : ℕ). a + b) (count_at x (t x) (inside x hx))
      (count_at y (not (eqb x y) && t y) (λ e. inside y hy ((and-eq-true_iff (not (eqb x y)) (t y)).0 e).1))

pub now_few : (list : List ℕ) (x y c : ℕ) → now_at list x y c ≤ 2
now_few list x y c = omega (arith, bit_le (eqb (at list x) c), bit_le (not (eqb x y) && eqb (at list y) c))

-- ---- a net that begins at x and ends at y, from column c to the next

begin_less : {n x y : ℕ} → n < nowhere → Way n x y → In x n → x < y
begin_less small (crosses l h) i = l
begin_less small all_near i = absurd (omega arith)
begin_less small all_far i = absurd (omega arith)
begin_less small nowhere_at_all i = absurd (omega arith)

end_more : {n x y : ℕ} → n < nowhere → Way n x y → In y n → x < y
end_more small (crosses l h) i = l
end_more small all_near i = absurd (omega arith)
end_more small all_far i = absurd (omega arith)
end_more small nowhere_at_all i = absurd (omega arith)

module _ (n x y c : ℕ) (small : n < nowhere) (way : Way n x y) where
  comes : c < n → bit (leb x (suc c) && leb (suc c) y) ≡ bit (leb x c && ltb c y) + bit (eqb x (suc c))
  comes h = by_cases (ℕ_discrete x (suc c))
      (λ q. let l = begin_less small way (omega arith) in
      simp (le-leb x (suc c) (omega arith), le-leb (suc c) y (omega arith), lt-leb x c (omega arith), eq-eqb x (suc c) q) refl)
      (λ ne. rw (ne_eqb x (suc c) ne) elim (dec_le x c) [
        | yes l ↦ simp (le-leb x (suc c) (omega arith), le-leb x c l) (omega arith)
        | no l ↦ simp (lt-leb x (suc c) (omega arith), lt-leb x c (omega arith)) refl
      ])

  goes : In c n → bit (leb x c && leb c y) ≡ bit (leb x c && ltb c y) + bit (eqb y c)
  goes h = by_cases (ℕ_discrete y c)
      (λ q. let l = end_more small way (omega arith) in
      simp (le-leb x c (omega arith), le-leb c y (omega arith), lt-leb (suc c) y (omega arith), eq-eqb y c q) refl)
      (λ ne. rw (ne_eqb y c ne) elim (dec_le c y) [
        | yes l ↦ simp (le-leb c y l, le-leb (suc c) y (omega arith)) (omega arith)
        | no l ↦ simp (lt-leb c y (omega arith), lt-leb (suc c) y (omega arith), and-false) refl
      ])

starts : (x y : ℕ) → (eqb x 0 && not (eqb y 0)) ≡ (leb x 0 && ltb 0 y)
starts x y = by_cases (ℕ_discrete x 0)
    (λ q. by_cases (ℕ_discrete y 0)
    (λ r. simp (eq-eqb x 0 q, eq-eqb y 0 r, le-leb x 0 (omega arith), lt-leb 1 y (omega arith)))
    (λ ne. simp (eq-eqb x 0 q, ne_eqb y 0 ne, le-leb x 0 (omega arith), le-leb 1 y (omega arith))))
    (λ ne. simp (ne_eqb x 0 ne, lt-leb x 0 (omega arith)))

-- ---- from the first column to the last

-- past column c: the nets that go on from it, and the most that went over a column
pub record Swept (from to : List ℕ) (c going best : ℕ) : Type 0 where
  pub on : going ≡ nets (λ m. leb (at from m) c && ltb c (at to m))
  pub largest : best ≡ most (λ k. nets (goes_over from to k)) c

-- the two pins of column c + 1
pub record TwoPins (a b : List ℕ) (c x y : ℕ) : Type 0 where
  pub one : x ≡ at a c
  pub two : y ≡ at b c
  pub small : (x ≤ largest_net) × (y ≤ largest_net)

pub two_pins : {a b : List ℕ} {c x y : ℕ} → Numbered a → Numbered b → x ≡ at a c → y ≡ at b c → TwoPins a b c x y
two_pins {c = c} ha hb e f = record { one = e; two = f; small = (rw e (ha.small c), rw f (hb.small c)) }

module _ {a b from to : List ℕ} {n : ℕ} (small : n < nowhere) (h : EndsAt a b n from to) where
  pub swept_none : {going : ℕ} → going ≡ nets (comes_to from to) → Swept from to 0 going 0
  unfolding most
  swept_none e = record { on = e ∙ count_same _ _ largest_net (λ m i. starts (at from m) (at to m)); largest = refl }

  module _ {c x y : ℕ} (l : c < n) (p : TwoPins a b c x y) where
    -- the nets that begin and that end at column c + 1
    pub beginning : nets (λ m. eqb (at from m) (suc c)) ≡ now_at from x y (suc c)
    beginning = count_two (λ m. eqb (at from m) (suc c)) x y p.small.0 p.small.1
        (ne_eqb (at from 0) (suc c) (λ q. omega (arith, h.empty.0)))
        (λ m i e. rw (p.one, p.two) (h.begins m (suc c) i (omega arith) (eqb-true _ _ e)))

    pub ending : nets (λ m. eqb (at to m) (suc c)) ≡ now_at to x y (suc c)
    ending = count_two (λ m. eqb (at to m) (suc c)) x y p.small.0 p.small.1
        (ne_eqb (at to 0) (suc c) (λ q. omega (arith, h.empty.1)))
        (λ m i e. rw (p.one, p.two) (h.ends m (suc c) i (omega arith) (eqb-true _ _ e)))

  module _ {c going best x y : ℕ} (r : Swept from to c going best) (l : c < n) (p : TwoPins a b c x y) where
    come : nets (goes_over from to (suc c)) ≡ going + now_at from x y (suc c)
    come =
        sum_same _ _ largest_net (λ m i. comes n (at from m) (at to m) c small (h.way m i) l)
        ∙ sum_add (λ m. bit (leb (at from m) c && ltb c (at to m))) (λ m. bit (eqb (at from m) (suc c))) largest_net
        ∙ ap₂ (λ (j k : ℕ). j + k) (sym r.on) (beginning l p)

    go : nets (goes_over from to (suc c)) ≡ nets (λ m. leb (at from m) (suc c) && ltb (suc c) (at to m)) + now_at to x y (suc c)
    go =
        sum_same _ _ largest_net (λ m i. goes n (at from m) (at to m) (suc c) small (h.way m i) (omega arith))
        ∙ sum_add (λ m. bit (leb (at from m) (suc c) && ltb (suc c) (at to m))) (λ m. bit (eqb (at to m) (suc c))) largest_net
        ∙ ap (λ (k : ℕ). nets (λ m. leb (at from m) (suc c) && ltb (suc c) (at to m)) + k) (ending l p)

    -- i nets come in, o nets go
    module _ {i : ℕ} (ei : i ≡ now_at from x y (c + 1)) where
      in_now : going + i ≡ nets (goes_over from to (suc c))
      in_now = omega (arith, come, ei ∙ ap (now_at from x y) (add-one c))

      pub swept_in : going + i ≤ largest_net
      swept_in = omega (arith, in_now, count_le (goes_over from to (suc c)) largest_net)

      module _ {o : ℕ} (eo : o ≡ now_at to x y (c + 1)) where
        out_now : o ≡ now_at to x y (suc c)
        out_now = eo ∙ ap (now_at to x y) (add-one c)

        pub swept_out : o ≤ going + i
        swept_out = omega (arith, in_now, go, out_now)

        pub swept_more : {best' : ℕ} (going' : ℕ) → going' + o ≡ going + i → best' ≡ max best (going + i) → Swept from to (c + 1) going' best'
        unfolding most
        swept_more going' e f = rw add-one record { on = omega (arith, in_now, go, out_now); largest = f ∙ ap₂ max r.largest in_now }
