-- The gathering operations run and lead to the cut `leads`: each net is gathered once, so that a column keeps its pin until its net's
-- operation and has, from then on, what `leads` has there; a net that is not gathered stands in one column, which is its first.
use Prim.Native.Nat.{ℕ, zero, suc, ◌≤◌, ◌<◌}
use mathlib.Core.Path.{◌≡◌, refl, sym, ap, ◌∙◌}
use mathlib.Core.Logic.{◌⊎◌, inl, inr, ◌≢◌, by_cases, ⊎_elim}
use mathlib.Core.Bool.{Bool, true, false, ◌&&◌, and-eq-true_iff, false≢true}
use native.Mathlib.Omega.{arith}
use native.Mathlib.Decide.{ℕ_discrete, dec_le}
use lib.Dec.{eqb}
use borrow.Author.Tests.{eqb-true, eqb-false, eq-eqb, ne_eqb, leb-true, le-leb}
use Rattle.counting.specs.Counting.{In, bit, count}
use Rattle.counting.proofs.Sums.{split, bit_one, bit_zero, sum_two, sum_some}
use Rattle.counting.proofs.Counts.{some_of}
use Rattle.counting.proofs.Leasts.{least_in, least_before}
use Rattle.terms.specs.Limits.{largest_net}
use Rattle.two_layer_law.specs.Channels.{Several}
use Rattle.two_layer_law.specs.Cuts.{Ops, cut_of, row_of, Runs}
use Rattle.two_layer_law.specs.Moves.{first_on, last_on, held_on, leads, several, Gathered}

-- ---- the columns of a net on side a

module _ (a : ℕ → ℕ) (n : ℕ) where
  pub first_found : (m c : ℕ) → In c n → a c ≡ m → In (first_on a n m) n × (a (first_on a n m) ≡ m) × (first_on a n m ≤ c)
  first_found m c i e =
      let (one, le) = least_before (λ d. eqb (a d) m) n c i (eq-eqb _ _ e) in
      let (j, f) = least_in (λ d. eqb (a d) m) n (first_on a n m) refl (omega arith) in
      (j, eqb-true (a (first_on a n m)) m f, le)

  pub twice : (m c d : ℕ) → In c n → In d n → a c ≡ m → a d ≡ m → c ≢ d → several a n m ≡ true
  twice m c d i j e f ne =
      let u = bit_one (eq-eqb (a c) m e) in
      let v = bit_one (eq-eqb (a d) m f) in
      le-leb 2 (count (λ c. eqb (a c) m) n) (elim (dec_le c d) [
        | yes le ↦ omega (arith, sum_two (λ c. bit (eqb (a c) m)) c d n i j (omega arith))
        | no gt ↦ omega (arith, sum_two (λ c. bit (eqb (a c) m)) d c n j i (omega arith))
      ])

  counted : (m : ℕ) → 1 ≤ count (λ c. eqb (a c) m) n → (c : ℕ) × In c n × (a c ≡ m)
  counted m h = let (c, i, e) = sum_some (λ c. bit (eqb (a c) m)) n h in (c, i, hit c e)
    where
      hit : (c : ℕ) → 1 ≤ bit (eqb (a c) m) → a c ≡ m
      hit c e = split (eqb (a c) m) (eqb-true _ _) (λ q. absurd (omega (arith, bit_zero q)))

  pub pin_of : (m : ℕ) → several a n m ≡ true → (c : ℕ) × In c n × (a c ≡ m)
  pin_of m h = counted m (omega (arith, leb-true 2 (count (λ c. eqb (a c) m) n) h))

  pub holds_of : (m c : ℕ) → In c n → a c ≡ m → held_on a n m ≡ true
  holds_of m c i e = some_of (λ c. eqb (a c) m) n c i (eq-eqb _ _ e)

last_found : (a : ℕ → ℕ) (n m c : ℕ) → In c n → a c ≡ m → c ≤ last_on a n m
unfolding last_on
last_found a zero m c i e = absurd (omega arith)
last_found a (suc n) m c i e =
    split (eqb (a (suc n)) m)
    (λ h. rw h i.1)
    (λ h. rw h (by_cases (ℕ_discrete c (suc n))
    (λ q. absurd (eqb-false (a (suc n)) m h (ap a (sym q) ∙ e)))
    (λ ne. last_found a n m c (omega arith) e)))

last_le : (a : ℕ → ℕ) (n m : ℕ) → last_on a n m ≤ n
unfolding last_on
last_le a zero m = omega arith
last_le a (suc n) m = split (eqb (a (suc n)) m) (λ h. rw h (omega arith)) (λ h. rw h (omega (arith, last_le a n m)))

-- ---- the columns that lead a net

module _ (a b : ℕ → ℕ) (n c : ℕ) where
  pub leads_of : (m : ℕ) → a c ≡ m → first_on a n m ≡ c → held_on b n m ≡ true → leads a b n c ≡ m
  unfolding leads
  leads_of m e f h = rw (e, eq-eqb (first_on a n m) c f, h)

  pub leads_none : a c ≡ 0 → leads a b n c ≡ 0
  unfolding leads
  leads_none e = split (eqb (first_on a n (a c)) c && held_on b n (a c)) (λ h. rw h e) (λ h. rw h)

  pub leads_at : (m : ℕ) → m ≢ 0 → leads a b n c ≡ m → (a c ≡ m) × (first_on a n m ≡ c) × (held_on b n m ≡ true)
  unfolding leads
  leads_at m nz e =
      split (eqb (first_on a n (a c)) c && held_on b n (a c))
      (λ h. let (f, k) = (and-eq-true_iff (eqb (first_on a n (a c)) c) (held_on b n (a c))).0 h in
      let q : a c ≡ m = rw h at e in
      (q, ap (first_on a n) (sym q) ∙ eqb-true _ _ f, ap (held_on b n) (sym q) ∙ k))
      (λ h. absurd (nz (sym (rw h at e))))

-- ---- the operations

module _ {n : ℕ} {a b : ℕ → ℕ} {o : Ops} (g : Gathered a b n o) where
  to_first : (s : ℕ) → s < o.count → held_on b n (o.net s) ≡ true → o.to s ≡ first_on a n (o.net s)
  to_first s h k = g.to s h ∙ rw k

  pub to_none : (s : ℕ) → s < o.count → o.to s ≡ 0 → held_on b n (o.net s) ≡ false
  to_none s h z =
      split (held_on b n (o.net s))
      (λ k. let (c, i, e) = pin_of a n (o.net s) (g.each s h).1 in
      absurd (omega (arith, to_first s h k, (first_found a n (o.net s) c i e).0)))
      (λ k. k)

  -- the column that a net is brought to is its first
  own_column_lem : (s c : ℕ) → s < o.count → In c n → c ≡ o.to s
      → (first_on a n (o.net s) ≡ c) × (a c ≡ o.net s) × (held_on b n (o.net s) ≡ true)
  own_column_lem s c h i q =
      split (held_on b n (o.net s))
      (λ k. let f = sym (to_first s h k) ∙ sym q in
      let (d, j, e) = pin_of a n (o.net s) (g.each s h).1 in
      (f, ap a (sym f) ∙ (first_found a n (o.net s) d j e).1, k))
      (λ k. let z : o.to s ≡ 0 = g.to s h ∙ rw k in absurd (omega arith))

  pub once : (s r : ℕ) → s < o.count → r < o.count → o.net s ≡ o.net r → s ≡ r
  once s r h k e = by_cases (ℕ_discrete s r) (λ q. q) (λ ne. elim (dec_le s r) [
    | yes le ↦ absurd (omega (arith, g.rising s r (omega arith) k))
    | no gt ↦ absurd (omega (arith, g.rising r s (omega arith) h))
  ])

  -- a cut has the pin, or nothing
  thinned : (s c : ℕ) → s ≤ o.count → In c n → (cut_of o a s c ≡ a c) ⊎ (cut_of o a s c ≡ 0)
  unfolding cut_of
  thinned zero c h i = inl refl
  thinned (suc s) c h i =
      split (eqb c (o.to s))
      (λ q. inl (rw q (sym (own_column_lem s c (omega arith) i (eqb-true _ _ q)).1)))
      (λ q. split (eqb (cut_of o a s c) (o.net s)) (λ e. inr (rw (q, e))) (λ e. rw (q, e) (thinned s c (omega arith) i)))

  -- an operation of another net leaves the column as it is
  passed : (s c : ℕ) → s < o.count → In c n → o.net s ≢ a c → cut_of o a (suc s) c ≡ cut_of o a s c
  unfolding cut_of
  passed s c h i ne =
      rw (
        ne_eqb c (o.to s) (λ q. ne (sym (own_column_lem s c h i q).1)),
        ne_eqb (cut_of o a s c) (o.net s) (λ q. ⊎_elim
            (λ e. ne (sym q ∙ e))
            (λ e. absurd (omega (arith, (g.each s h).0, sym q ∙ e)))
            (thinned s c (omega arith) i)),
      )

  kept : (s c : ℕ) → s ≤ o.count → In c n → ((r : ℕ) → r < s → o.net r ≢ a c) → cut_of o a s c ≡ a c
  unfolding cut_of
  kept zero c h i none = refl
  kept (suc s) c h i none =
      passed s c (omega arith) i (none s (omega arith)) ∙ kept s c (omega arith) i (λ r k. none r (omega arith))

  -- its own operation leaves what leads has
  own : (s c : ℕ) → s < o.count → In c n → o.net s ≡ a c → cut_of o a s c ≡ a c → cut_of o a (suc s) c ≡ leads a b n c
  unfolding cut_of
  own s c h i e k =
      split (eqb c (o.to s))
      (λ q. let (f, u, v) = own_column_lem s c h i (eqb-true _ _ q) in rw q (sym (leads_of a b n c (o.net s) u f v)))
      (λ q. rw (q, eq-eqb (cut_of o a s c) (o.net s) (k ∙ sym e)) (sym (by_cases (ℕ_discrete (leads a b n c) 0) (λ z. z) (λ nz.
      let (u, f, v) = leads_at a b n c (leads a b n c) nz refl in
      let x : leads a b n c ≡ o.net s = sym u ∙ sym e in
      absurd (eqb-false _ _ q (sym f ∙ ap (first_on a n) x ∙ sym (to_first s h (ap (held_on b n) (sym x) ∙ v))))))))

  settled : (s c r : ℕ) → s ≤ o.count → In c n → r < s → o.net r ≡ a c → cut_of o a s c ≡ leads a b n c
  settled zero c r h i lt e = absurd (omega arith)
  settled (suc s) c r h i lt e =
      by_cases (ℕ_discrete r s)
      (λ q. let e' : o.net s ≡ a c = ap o.net (sym q) ∙ e in
      own s c (omega arith) i e'
      (kept s c (omega arith) i (λ t k z. omega (arith, once t s (omega arith) (omega arith) (z ∙ sym e')))))
      (λ ne.
      passed s c (omega arith) i (λ z. ne (once r s (omega arith) (omega arith) (e ∙ sym z)))
      ∙ settled s c r (omega arith) i (omega arith) e)

  named : (s : ℕ) → s < o.count → o.net s ≢ 0
  named s h z = omega (arith, (g.each s h).0)

  -- until its operation a net stands where its pins are
  before : (s c : ℕ) → s < o.count → In c n → a c ≡ o.net s → cut_of o a s c ≡ o.net s
  before s c h i e = kept s c (omega arith) i (λ r k z. omega (arith, once r s (omega arith) h (z ∙ e))) ∙ e

  to_inside : (s : ℕ) → s < o.count → o.to s ≤ n
  to_inside s h =
      split (held_on b n (o.net s))
      (λ k. let (c, i, e) = pin_of a n (o.net s) (g.each s h).1 in
      omega (arith, to_first s h k, (first_found a n (o.net s) c i e).0))
      (λ k. let z : o.to s ≡ 0 = g.to s h ∙ rw k in omega arith)

  pub gathered_runs : Runs n a o
  gathered_runs = record {
    named = named;
    column = to_inside;
    free = λ s h one. let i : In (o.to s) n = (one, to_inside s h) in inr (before s (o.to s) h i (own_column_lem s (o.to s) h i refl).1);
    there = λ s h. let (c, i, e) = pin_of a n (o.net s) (g.each s h).1 in (c, i, before s c h i e);
    ends = λ s h. let (c, i, e) = pin_of a n (o.net s) (g.each s h).1 in
        let first = first_found a n (o.net s) c i e in
        (omega (arith, g.low s h, first.0), omega (arith, g.high s h, last_le a n (o.net s)));
    reaches = λ s c h i e. let p = pin s c h i e in
        let first = first_found a n (o.net s) c i p in
        (omega (arith, g.low s h, first.2), omega (arith, g.high s h, last_found a n (o.net s) c i p));
  }
    where
      -- where the track has the net, the net has a pin
      pin : (s c : ℕ) → s < o.count → In c n → row_of o a s c ≡ o.net s → a c ≡ o.net s
      pin s c h i e =
          split (eqb c (o.to s))
          (λ q. (own_column_lem s c h i (eqb-true _ _ q)).1)
          (λ q. let e' : cut_of o a s c ≡ o.net s = rw q at e in
          ⊎_elim (λ t. sym t ∙ e') (λ t. absurd (named s h (sym e' ∙ t))) (thinned s c (omega arith) i))

  pub gathered_cut : Several n a b → ((c : ℕ) → a c ≤ largest_net) → (c : ℕ) → In c n → cut_of o a o.count c ≡ leads a b n c
  gathered_cut more small c i =
      by_cases (ℕ_discrete (a c) 0)
      (λ z. kept o.count c (omega arith) i (λ r k e. named r k (e ∙ z)) ∙ z ∙ sym (leads_none a b n c z))
      (λ nz. split (several a n (a c))
      (λ h. let (s, k, e) = g.all (a c) (omega (arith, small c)) h in settled o.count c s (omega arith) i k e)
      (λ h. kept o.count c (omega arith) i (λ r k e. false≢true (sym h ∙ ap (several a n) (sym e) ∙ (g.each r k).1))
      ∙ sym (leads_of a b n c (a c) refl (alone h) (opposite h nz))))
    where
      alone : several a n (a c) ≡ false → first_on a n (a c) ≡ c
      alone h =
          let (j, e, le) = first_found a n (a c) c i refl in
          by_cases (ℕ_discrete (first_on a n (a c)) c) (λ q. q) (λ ne. absurd (false≢true (sym h ∙ twice a n (a c) _ c j i e refl ne)))

      opposite : several a n (a c) ≡ false → a c ≢ 0 → held_on b n (a c) ≡ true
      opposite h nz = ⊎_elim
          (λ (d, j, ne, e). absurd (false≢true (sym h ∙ twice a n (a c) d c j i e refl ne)))
          (λ (d, j, e). holds_of b n (a c) d j e)
          (more.again c i nz)
