-- The test by leads is the definition of a solid channel: both say that each side is filled, that each of its nets stands on it once and
-- on the other side too, and that some net's pins are in different columns.
use Prim.Native.Nat.{ℕ, zero, suc, ◌≤◌, ◌<◌}
use mathlib.Core.Path.{◌≡◌, refl, sym, ap, ◌∙◌}
use mathlib.Core.Logic.{◌≢◌, by_cases}
use mathlib.Core.Bool.{Bool, true, false, not, ◌&&◌, and-eq-true_iff, and-false, false≢true}
use native.Mathlib.Decide.{ℕ_discrete, dec_le}
use native.Mathlib.Omega.{arith}
use lib.Dec.{eqb, leb}
use borrow.Author.Tests.{eqb-true, eqb-false, eq-eqb, ne_eqb, leb-true, le-leb, not-true}
use Rattle.counting.specs.Counting.{In, bit, some, every}
use Rattle.counting.proofs.Sums.{split, bit_one, bit_zero, sum_zero, sum_part, sum_two, sum_some}
use Rattle.counting.proofs.Counts.{some_in, some_of, some_none}
use Rattle.terms.specs.Limits.{longest_side, largest_net}
use Rattle.terms.specs.Kinds.{Side, north, south, west, east}
use Rattle.grid.specs.Legal.{Pins}
use Rattle.grid.proofs.Pins.{Bare}
use Rattle.problem.specs.Problem.{pin_count_on, pin_count}
use Rattle.two_layer_law.specs.Solid.{filled, paired, crooked, solid}
use Rattle.two_layer_law.specs.Moves.{first_on, held_on, leads, solid_test}
use Rattle.two_layer_law.specs.Channels.{Channel}
use Rattle.counting.proofs.Leasts.{least_first}
use Rattle.counting.proofs.Tests.{every_both, every_of, count_once}

-- side a is filled, each of its nets stands there once, and on side b too
pub record Matched (n : ℕ) (a b : ℕ → ℕ) : Type 0 where
  pub full : (c : ℕ) → In c n → 1 ≤ a c
  pub single : (c d : ℕ) → In c n → In d n → a c ≡ a d → c ≡ d
  pub other : (c : ℕ) → In c n → (d : ℕ) × In d n × (b d ≡ a c)

-- a solid channel with the sides a and b
pub record Solid (n : ℕ) (a b : ℕ → ℕ) : Type 0 where
  pub matched : Matched n a b
  pub matched_back : Matched n b a
  pub crooked_net : (c : ℕ) × (d : ℕ) × In c n × In d n × (a c ≡ b d) × (c ≢ d)

both : {s t : Bool} → s ≡ true → t ≡ true → (s && t) ≡ true
both {s} {t} e f = (and-eq-true_iff s t).1 (e, f)

-- ---- the definition

module _ (n : ℕ) (p : Pins) (ch : Channel n p) where
  -- places with a net are columns
  inside : (s : Side) (a : ℕ) → 1 ≤ p s a → In a n
  inside s zero h = absurd (omega (arith, ch.blank s))
  inside s (suc a) h = elim (dec_le (suc a) n) [
    | yes le ↦ (omega arith, le)
    | no gt ↦ absurd (omega (arith, ch.ends s (suc a) (omega arith)))
  ]

  -- a net that is counted on a side stands there
  found : (s : Side) (m : ℕ) → 1 ≤ m → 1 ≤ pin_count_on p m s → (a : ℕ) × In a n × (p s a ≡ m)
  found s m h k =
      let (a, i, e) = sum_some (λ a. bit (eqb (p s a) m)) longest_side k in
      let q = hit a e in
      (a, inside s a (omega arith), q)
    where
      hit : (a : ℕ) → 1 ≤ bit (eqb (p s a) m) → p s a ≡ m
      hit a e = split (eqb (p s a) m) (eqb-true _ _) (λ q. absurd (omega (arith, bit_zero q)))

  counted : (s : Side) (c : ℕ) → In c n → 1 ≤ pin_count_on p (p s c) s
  counted s c i =
      let one = bit_one (eq-eqb (p s c) (p s c) refl) in
      omega (arith, sum_part (λ a. bit (eqb (p s a) (p s c))) c longest_side (omega (arith, ch.columns)))

  -- two places of one net make a count of two
  alone : (s : Side) (c d : ℕ) → In c n → In d n → p s d ≡ p s c → c < d → pin_count_on p (p s c) s ≢ 1
  alone s c d i j e lt q =
      omega (
        arith,
        bit_one (eq-eqb (p s c) (p s c) refl),
        bit_one (eq-eqb (p s d) (p s c) e),
        sum_two (λ a. bit (eqb (p s a) (p s c))) c d longest_side (omega (arith, ch.columns)) (omega (arith, ch.columns)) lt,
      )

  matched_of : (s r : Side) → ((c : ℕ) → In c n → 1 ≤ p s c)
      → ((c : ℕ) → In c n → (pin_count_on p (p s c) s ≡ 1) × (pin_count_on p (p s c) r ≡ 1)) → Matched n (p s) (p r)
  matched_of s r full one = record {
    full = full;
    single = λ c d i j e. elim (dec_le c d) [
      | yes le ↦ by_cases (ℕ_discrete c d) (λ q. q) (λ ne. absurd (alone s c d i j (sym e) (omega arith) (one c i).0))
      | no gt ↦ absurd (alone s d c j i e (omega arith) (one d j).0)
    ];
    other = λ c i. found r (p s c) (full c i) (omega (arith, (one c i).1));
  }

  -- a net with a pin has one on each side
  pairs : paired p ≡ true → (m : ℕ) → In m largest_net → 1 ≤ pin_count p m → (pin_count_on p m north ≡ 1) × (pin_count_on p m south ≡ 1)
  unfolding paired
  pairs e m i h =
      split (eqb (pin_count_on p m north) 1 && eqb (pin_count_on p m south) 1)
      (λ q. let (u, v) = (and-eq-true_iff (eqb (pin_count_on p m north) 1) (eqb (pin_count_on p m south) 1)).0 q in
      (eqb-true _ _ u, eqb-true _ _ v))
      (λ q. absurd (false≢true (sym (not-true _ e) ∙ some_of _ largest_net m i (both (le-leb 1 _ h) (ap not q)))))

  pub solid_in : solid p n ≡ true → Solid n (p north) (p south)
  unfolding solid filled crooked pin_count
  solid_in e =
      let (fp, cr) = (and-eq-true_iff (filled p n && paired p) (crooked p n)).0 e in
      let (fi, pa) = (and-eq-true_iff (filled p n) (paired p)).0 fp in
      let (m, im, cr₁) = some_in (λ m. some (λ a. some (λ b. eqb (p north a) m && eqb (p south b) m && not (eqb a b)) n) n) largest_net cr in
      let (c, ic, cr₂) = some_in (λ a. some (λ b. eqb (p north a) m && eqb (p south b) m && not (eqb a b)) n) n cr₁ in
      let (d, id, cr₃) = some_in (λ b. eqb (p north c) m && eqb (p south b) m && not (eqb c b)) n cr₂ in
      let (nets, apart) = (and-eq-true_iff (eqb (p north c) m && eqb (p south d) m) (not (eqb c d))).0 cr₃ in
      let (en, es) = (and-eq-true_iff (eqb (p north c) m) (eqb (p south d) m)).0 nets in
      let full = every_both (λ c. leb 1 (p north c)) (λ c. leb 1 (p south c)) n fi in
      let up : (c : ℕ) → In c n → 1 ≤ p north c = λ c i. leb-true 1 (p north c) (full c i).0 in
      let down : (c : ℕ) → In c n → 1 ≤ p south c = λ c i. leb-true 1 (p south c) (full c i).1 in
      record {
        matched = matched_of north south up (λ c i. pairs pa (p north c) (up c i, ch.numbered north c) (omega (arith, counted north c i)));
        matched_back = matched_of south north down (λ c i.
            let (u, v) = pairs pa (p south c) (down c i, ch.numbered south c) (omega (arith, counted south c i)) in (v, u));
        crooked_net = (c, d, ic, id, eqb-true _ _ en ∙ sym (eqb-true _ _ es), eqb-false _ _ (not-true _ apart));
      }

  -- a net that stands once on a side is counted once
  once : (s : Side) (b : ℕ → ℕ) → Matched n (p s) b → (c m : ℕ) → In c n → p s c ≡ m → pin_count_on p m s ≡ 1
  once s b k c m i e =
      count_once (λ a. eqb (p s a) m) longest_side c (omega (arith, ch.columns)) (eq-eqb _ _ e) (λ a q. same a (eqb-true _ _ q))
    where
      same : (a : ℕ) → p s a ≡ m → a ≡ c
      same a q = k.single a c (inside s a (omega (arith, k.full c i))) i (q ∙ sym e)

  none : (s : Side) (m : ℕ) → Bare p s → 1 ≤ m → pin_count_on p m s ≡ 0
  none s m bare h = sum_zero _ longest_side (λ a i. bit_zero (ne_eqb (p s a) m (λ q. omega (arith, bare a))))

  solid_of : Solid n (p north) (p south) → solid p n ≡ true
  unfolding solid filled paired crooked pin_count
  solid_of k = both (both full (ap not (some_none _ largest_net alright))) askew
    where
      full : filled p n ≡ true
      full = every_of _ n (λ c i. both (le-leb 1 _ (k.matched.full c i)) (le-leb 1 _ (k.matched_back.full c i)))

      pair : (m : ℕ) → In m largest_net → 1 ≤ pin_count p m → (pin_count_on p m north ≡ 1) × (pin_count_on p m south ≡ 1)
      pair m i h = elim (dec_le 1 (pin_count_on p m north)) [
        | yes u ↦ let (c, ic, e) = found north m i.0 u in let (d, id, f) = k.matched.other c ic in
            (once north _ k.matched c m ic e, once south _ k.matched_back d m id (f ∙ e))
        | no u ↦ let none_west = none west m ch.bare_west i.0 in let none_east = none east m ch.bare_east i.0 in
            let (c, ic, e) = found south m i.0 (omega arith) in
            let (d, id, f) = k.matched_back.other c ic in
            (once north _ k.matched d m id (f ∙ e), once south _ k.matched_back c m ic e)
      ]

      alright : (m : ℕ) → In m largest_net
          → (leb 1 (pin_count p m) && not (eqb (pin_count_on p m north) 1 && eqb (pin_count_on p m south) 1)) ≡ false
      alright m i = split (leb 1 (pin_count p m))
          (λ h. let (u, v) = pair m i (leb-true 1 _ h) in
          ap (λ t. leb 1 (pin_count p m) && not t) (both (eq-eqb _ 1 u) (eq-eqb _ 1 v)) ∙ and-false (leb 1 (pin_count p m)))
          (λ h. rw h)

      askew : crooked p n ≡ true
      askew =
          let (c, d, ic, id, e, ne) = k.crooked_net in
          let nets = both (eq-eqb (p north c) (p north c) refl) (eq-eqb (p south d) (p north c) (sym e)) in
          some_of _ largest_net (p north c) (k.matched.full c ic, ch.numbered north c)
          (some_of _ n c ic (some_of _ n d id (both nets (ap not (ne_eqb c d ne)))))

-- ---- the test

-- side a, and the other side b
module _ (n : ℕ) (a b : ℕ → ℕ) where
  leads_all : Matched n a b → (c : ℕ) → In c n → leads a b n c ≡ a c
  unfolding leads
  leads_all k c i =
      let first : first_on a n (a c) ≡ c = least_first (λ d. eqb (a d) (a c)) n c i (eq-eqb (a c) (a c) refl)
      (λ d j lt. ne_eqb (a d) (a c) (λ q. omega (arith, k.single d c j i q))) in
      let (d, j, e) = k.other c i in
      rw (eq-eqb (first_on a n (a c)) c first, some_of (λ d. eqb (b d) (a c)) n d j (eq-eqb _ _ e))

  -- what it says that column c leads a net
  leading : (c : ℕ) → leb 1 (leads a b n c) ≡ true → (1 ≤ a c) × (first_on a n (a c) ≡ c) × (held_on b n (a c) ≡ true) × (leads a b n c ≡ a c)
  unfolding leads
  leading c e =
      split (eqb (first_on a n (a c)) c && held_on b n (a c))
      (λ h. let (f, k) = (and-eq-true_iff (eqb (first_on a n (a c)) c) (held_on b n (a c))).0 h in
      (leb-true 1 (a c) (rw h at e), eqb-true _ _ f, k, rw h))
      (λ h. absurd (false≢true (rw h at e)))

  matched_test : ((c : ℕ) → In c n → leb 1 (leads a b n c) ≡ true) → Matched n a b
  matched_test l = record {
    full = λ c i. (leading c (l c i)).0;
    single = λ c d i j e. sym (leading c (l c i)).1 ∙ ap (first_on a n) e ∙ (leading d (l d j)).1;
    other = λ c i. let (d, j, e) = some_in (λ d. eqb (b d) (a c)) n (leading c (l c i)).2 in (d, j, eqb-true _ _ e);
  }

module _ (n : ℕ) (a b : ℕ → ℕ) where
  test_of : Solid n a b → solid_test a b n ≡ true
  test_of k =
      let (c, d, ic, id, e, ne) = k.crooked_net in
      let up = leads_all n a b k.matched in
      let down = leads_all n b a k.matched_back in
      both
      (every_of _ n (λ c i. both (shown (up c i) (k.matched.full c i)) (shown (down c i) (k.matched_back.full c i))))
      (some_of _ n c ic (ap not (ne_eqb _ _ (λ q. ne (k.matched_back.single c d ic id (sym (down c ic) ∙ sym q ∙ up c ic ∙ e))))))
    where
      shown : {l m : ℕ} → l ≡ m → 1 ≤ m → leb 1 l ≡ true
      shown {l} {m} e h = le-leb 1 l (omega arith)

  test_in : solid_test a b n ≡ true → Solid n a b
  test_in e =
      let (ev, so) = (and-eq-true_iff (every (λ c. leb 1 (leads a b n c) && leb 1 (leads b a n c)) n) _).0 e in
      let l = every_both (λ c. leb 1 (leads a b n c)) (λ c. leb 1 (leads b a n c)) n ev in
      let up = matched_test n a b (λ c i. (l c i).0) in
      let (c, i, f) = some_in (λ c. not (eqb (leads a b n c) (leads b a n c))) n so in
      let (d, j, q) = up.other c i in
      record {
        matched = up;
        matched_back = matched_test n b a (λ c i. (l c i).1);
        crooked_net = (
          c,
          d,
          i,
          j,
          sym q,
          λ r. eqb-false _ _ (not-true _ f)
              ((leading n a b c (l c i).0).3 ∙ sym q ∙ ap b (sym r) ∙ sym (leading n b a c (l c i).1).3),
        );
      }

equal : (s t : Bool) → (s ≡ true → t ≡ true) → (t ≡ true → s ≡ true) → s ≡ t
equal true t f g = sym (f refl)
equal false true f g = g refl
equal false false f g = refl

pub solid_test_lem : (n : ℕ) (p : Pins) → Channel n p → solid p n ≡ solid_test (p north) (p south) n
solid_test_lem n p ch =
    equal _ _ (λ e. test_of n (p north) (p south) (solid_in n p ch e)) (λ e. solid_of n p ch (test_in n (p north) (p south) e))
