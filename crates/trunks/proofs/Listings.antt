-- One pin more is passed: what the loop of the listing has found then. A net's span is listed at the first pin of the net.
use Prim.Native.Nat.{ℕ, zero, suc, ◌+◌, ◌*◌, ◌/◌, ◌%◌, ◌≤◌, ◌<◌}
use native.Mathlib.Omega.{arith}
use native.Mathlib.Decide.{ℕ_discrete}
use native.Mathlib.Numerals.{add-one}
use mathlib.Core.Path.{◌≡◌, refl, sym, ap, ◌∙◌}
use mathlib.Core.Logic.{inl, inr, ◌≢◌, by_cases, ⊎_elim}
use mathlib.Core.Bool.{Bool, true, false, ◌||◌, not, and-eq-true_iff}
use mathlib.Core.List.Memᴰ
use mathlib.Core.List.{List, [], ◌∷◌, ◌++◌, Memᴰ}
use lib.ListN.{get_or}
use lib.Dec.{eqb, ltb}
use borrow.Author.Tests.{eq-eqb, ne_eqb, eqb-true, eqb-false, ltb-true, lt-ltb}
use Rattle.counting.specs.Counting.{In}
use Rattle.counting.proofs.Sums.{split, bit_one, bit_zero}
use Rattle.terms.specs.Limits.{largest_net}
use Rattle.nets.specs.declared.Span.{Span}
use Rattle.nets.specs.Tables.{Numbered, span_from}
use Rattle.trunks.specs.Listing.{pin_number, column, starts_at, Ordered, SpansListed}
use Rattle.trunks.specs.Trunks.{PinIn, SpanColumns}
use Rattle.trunks.proofs.Ends.{first_before, starts_at_lem, span_ends}

ordered_more : (ss : List Span) (s : Span) → Ordered ss → ((t : Span) → Memᴰ t ss → (t.left ≤ s.left) × (t.net ≢ s.net)) → Ordered (ss ++ (s ∷ []))
ordered_more [] s o h = (λ t i. absurd (Memᴰ.not-nil i), tt)
ordered_more (u ∷ ss) s o h = (
  λ t i. ⊎_elim (o.0 t) (λ j. let e = Memᴰ.eq_of_singleton j in rw e (h u (Memᴰ.head refl))) (Memᴰ.append_cases ss i),
  ordered_more ss s o.1 (λ t i. h t (Memᴰ.tail i)),
)

module _ (pin : ℕ → ℕ) (span : ℕ → Span) (q : ℕ) (ss : List Span) (l : SpansListed pin span q ss) where
  -- a net that lies in one column, or has been met before
  list_skip : ((span (pin q)).left < (span (pin q)).right → (e : ℕ) × (e < q) × (pin e ≡ pin q)) → SpansListed pin span (q + 1) ss
  list_skip met = record {
    each = l.each;
    met = λ s i. let (e, h, p) = l.met s i in (e, omega arith, p);
    all = all;
    ordered = l.ordered;
  }
    where
      again : (span (pin q)).left < (span (pin q)).right → Memᴰ (span (pin q)) ss
      again lt = let (e, h, p) = met lt in rw p at (l.all e h (rw p lt))

      all : (e : ℕ) → e < q + 1 → (span (pin e)).left < (span (pin e)).right → Memᴰ (span (pin e)) ss
      all e h lt = by_cases (ℕ_discrete e q) (λ s. rw s (again (rw s at lt))) (λ ne. l.all e (omega arith) lt)

  -- a net that is met here first
  list_more : (s : Span) → s ≡ span (pin q) → s.net ≡ pin q → 1 ≤ s.left → s.left < s.right → ((e : ℕ) → e < q → pin e ≢ pin q)
      → ((e : ℕ) → e < q → (span (pin e)).left ≤ s.left) → SpansListed pin span (q + 1) (ss ++ (s ∷ []))
  list_more s is net one lt new early = record {
    each = λ t i. ⊎_elim (l.each t) (λ j. let e = Memᴰ.eq_of_singleton j in rw e (is ∙ ap span (sym net), one, lt)) (Memᴰ.append_cases ss i);
    met = λ t i. ⊎_elim (λ j. let (e, h, p) = l.met t j in (e, omega arith, p))
        (λ j. let f = Memᴰ.eq_of_singleton j in (q, omega arith, rw f (sym net))) (Memᴰ.append_cases ss i);
    all = λ e h k. by_cases (ℕ_discrete e q) (λ f. Memᴰ.append_right ss (Memᴰ.head (ap (λ (z : ℕ). span (pin z)) f ∙ sym is)))
        (λ ne. Memᴰ.append_left (s ∷ []) (l.all e (omega arith) k));
    ordered = ordered_more ss s l.ordered before;
  }
    where
      before : (t : Span) → Memᴰ t ss → (t.left ≤ s.left) × (t.net ≢ s.net)
      before t i = let (e, h, p) = l.met t i in
          (rw ((l.each t i).0, ← p) (early e h), λ z. new e h (p ∙ z ∙ net))

-- ---- pins by number, and by column

pin_north : (north south : List ℕ) (c : ℕ) → pin_number north south (2 * c) ≡ get_or north c 0
pin_north north south c = let half : 2 * c / 2 ≡ c = omega arith in rw (eq-eqb (2 * c % 2) 0 (omega arith), half)

pin_south : (north south : List ℕ) (c : ℕ) → pin_number north south (2 * c + 1) ≡ get_or south c 0
pin_south north south c = let half : (2 * c + 1) / 2 ≡ c = omega arith in rw (ne_eqb ((2 * c + 1) % 2) 0 (omega arith), half)

-- a pin in a column has a number
pub pin_of : (north south : List ℕ) (n c m : ℕ) → In c n → PinIn north south c m → (q : ℕ) × (q < 2 * n) × (pin_number north south q ≡ m) × (column q ≡ c)
pin_of north south n zero m h p = absurd (omega arith)
pin_of north south n (suc c) m h (inl e) = (2 * c, omega arith, pin_north north south c ∙ e, omega arith)
pin_of north south n (suc c) m h (inr e) = (2 * c + 1, omega arith, pin_south north south c ∙ e, omega arith)

-- and each number is a pin's
of_pin : (north south : List ℕ) (q : ℕ) → PinIn north south (column q) (pin_number north south q)
of_pin north south q = rw (add-one (q / 2)) (split (eqb (q % 2) 0) (λ e. inl (rw e)) (λ e. inr (rw e)))

pub pin_small : {north south : List ℕ} → Numbered north → Numbered south → (q : ℕ) {m : ℕ} → m ≡ pin_number north south q → m ≤ largest_net
pin_small hn hs q is = rw is (split (eqb (q % 2) 0) (λ e. rw e (hn.small (q / 2))) (λ e. rw e (hs.small (q / 2))))

-- ---- a turn of the loop

module _ (q x m : ℕ) where
  alone : (eqb (q % 2) 0 || not (eqb x m)) ≡ true → q % 2 ≡ 1 → x ≢ m
  alone e odd s = absurd (omega (arith, bit_one (rw (ne_eqb (q % 2) 0 (omega arith), eq-eqb x m s) at e)))

  shared : (eqb (q % 2) 0 || not (eqb x m)) ≡ false → (q % 2 ≡ 1) × (x ≡ m)
  shared e = split (eqb (q % 2) 0) (λ f. absurd (omega (arith, bit_zero (rw f at e))))
      (λ f. (omega (arith, eqb-false (q % 2) 0 f), split (eqb x m) (λ s. eqb-true x m s) (λ s. absurd (omega (arith, bit_zero (rw (f, s) at e))))))

module _ (north south : List ℕ) (hn : Numbered north) (hs : Numbered south) {n : ℕ} {first last wests easts : List ℕ}
    (t : SpanColumns north south n first last wests easts) (norths souths : List ℕ) where
  abbrev pin : ℕ → ℕ
  pin = pin_number north south

  abbrev span : ℕ → Span
  span m = span_from first last norths souths wests easts m n

  -- no pin is further left than its net's first column
  early : (e : ℕ) → e < 2 * n → get_or first (pin e) 0 ≤ column e
  early e h = by_cases (ℕ_discrete (pin e) 0) (λ z. omega (arith, ap (λ (b : ℕ). get_or first b 0) z, t.firsts.none))
      (λ nz. (first_before north south t (column e) (pin e) (omega arith) (omega arith, pin_small hn hs e refl) (of_pin north south e)).1)

  module _ {q : ℕ} (h : q < 2 * n) {ss : List Span} (l : SpansListed pin span q ss) {m : ℕ} (e : m ≡ pin q) {r : Bool}
      (is : r ≡ starts_at north first last m q) where
    test : r ≡ starts_at north first last (pin q) q
    test = is ∙ ap (λ (z : ℕ). starts_at north first last z q) e

    pub list_on : r ≡ false → SpansListed pin span (q + 1) ss
    list_on off = list_skip pin span q ss l (λ lt. met (omega (arith, span_ends t (pin q) (n + 1))))
      where
        met : get_or first (pin q) 0 < get_or last (pin q) 0 → (e : ℕ) × (e < q) × (pin e ≡ pin q)
        met lt = split (eqb (q % 2) 0 || not (eqb (get_or north (q / 2) 0) (pin q)))
            (λ a. let (i, p) = starts_at_lem north south t (pin q) lt in
            let (e, k, same, at) = pin_of north south n (get_or first (pin q) 0) (pin q) i p in
            let ne : get_or first (pin q) 0 ≢ column q = λ s. absurd (omega (
              arith,
              bit_zero
                  (rw (a, eq-eqb (get_or first (pin q) 0) (column q) s, lt-ltb (column q) (get_or last (pin q) 0) (omega arith)) at (sym test ∙ off)),
            )) in
            (e, omega (arith, early q h), same))
            (λ a. let (odd, s) = shared q _ _ a in (2 * (q / 2), omega arith, pin_north north south (q / 2) ∙ s))

    pub list_new : {s : Span} → r ≡ true → s ≡ span m → SpansListed pin span (q + 1) (ss ++ (s ∷ []))
    list_new {s} on same =
        let (here, a) = (and-eq-true_iff _ (eqb (q % 2) 0 || not (eqb (get_or north (q / 2) 0) (pin q)))).0 (sym test ∙ on) in
        let (f, g) = (and-eq-true_iff (eqb (get_or first (pin q) 0) (column q)) (ltb (column q) (get_or last (pin q) 0))).0 here in
        let at : get_or first (pin q) 0 ≡ column q = eqb-true _ _ f in
        let past : column q < get_or last (pin q) 0 = ltb-true _ _ g in
        let (le, re) = span_ends t (pin q) (n + 1) in
        let own : s ≡ span (pin q) = same ∙ ap span e in
        let el : s.left ≡ column q = ap (λ (u : Span). u.left) own ∙ le ∙ at in
        let er : s.right ≡ get_or last (pin q) 0 = ap (λ (u : Span). u.right) own ∙ re in
        list_more pin span q ss l s own (ap (λ (u : Span). u.net) own) (omega arith) (omega arith) (new at a)
        (λ e k. omega (arith, early e (omega arith), span_ends t (pin e) (n + 1)))
      where
        -- a pin before q in the same column is the north one
        new : get_or first (pin q) 0 ≡ column q → (eqb (q % 2) 0 || not (eqb (get_or north (q / 2) 0) (pin q))) ≡ true → (e : ℕ) → e < q → pin e ≢ pin q
        new at a e k s =
            let low : get_or first (pin q) 0 ≤ column e = rw s at (early e (omega arith)) in
            let same : 2 * (q / 2) ≡ e = omega arith in
            alone q _ _ a (omega arith) (sym (pin_north north south (q / 2)) ∙ ap pin same ∙ s)
