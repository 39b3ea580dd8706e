-- Gallai's packing: spans listed by leftmost column find as many places as the most of them that contain one column, and two that share a place
-- have no column in common. From the next span's leftmost column on, the places that reach a column and the spans to come that contain it
-- are together no more than that number.
use Prim.Native.Nat.{ℕ, zero, suc, ◌+◌, ◌≤◌, ◌<◌}
use native.Mathlib.Omega.{arith}
use native.Mathlib.Decide.{ℕ_discrete, dec_le}
use mathlib.Core.Path.{◌≡◌, refl, sym, ◌∙◌, ap}
use mathlib.Core.Logic.{◌⊎◌, inl, inr, ◌≢◌, by_cases, ⊎_elim}
use mathlib.Core.Bool.{Bool, true, ◌&&◌, not}
use mathlib.Core.List.Memᴰ
use mathlib.Core.List.{List, [], ◌∷◌, Memᴰ}
use lib.ListN.{length, get_or, set, replicate, length-set}
use lib.Seq.{get_or-set_same, get_or-set_other}
use lib.Dec.{ltb, leb, eqb}
use borrow.Author.Tests.{ltb-true, ltb-false, le-leb, lt-leb, leb-true, eq-eqb, ne_eqb}
use Rattle.counting.specs.Counting.{In, bit, count}
use Rattle.counting.proofs.Sums.{split, bit_one, sum_change}
use Rattle.nets.specs.declared.Span.{Span}
use Rattle.trunks.specs.declared.Packing.{Packing}
use Rattle.trunks.specs.Packing.{pick, first_free, placed, packed, Packable}
use Rattle.trunks.specs.Listing.{Ordered}

-- how many of the numbers are at least c
abbrev pub at_least : ℕ → List ℕ → ℕ
at_least c [] = 0
at_least c (x ∷ xs) = pick (leb c x) 1 0 + at_least c xs

-- 1 where s contains column c, 0 elsewhere; and how many of the spans do
abbrev pub contains : Span → ℕ → ℕ
contains s c = pick (leb s.left c) (pick (leb c s.right) 1 0) 0

abbrev pub covering : ℕ → List Span → ℕ
covering c [] = 0
covering c (s ∷ ss) = contains s c + covering c ss

-- a store adds at most the number that is stored
set_at_least : (c r : ℕ) (xs : List ℕ) (i : ℕ) → at_least c (set xs i r) ≤ pick (leb c r) 1 0 + at_least c xs
set_at_least c r [] i = omega arith
set_at_least c r (x ∷ xs) zero = omega arith
set_at_least c r (x ∷ xs) (suc i) = omega (arith, set_at_least c r xs i)

pub none_at_least : (c n : ℕ) → 1 ≤ c → at_least c (replicate n 0) ≡ 0
none_at_least c zero h = refl
none_at_least c (suc n) h = rw (lt-leb c 0 h) (omega (arith, none_at_least c n h))

-- each place before the first that is free reaches column l
free_few : (l : ℕ) (xs : List ℕ) → first_free xs l ≤ at_least l xs
free_few l [] = omega arith
free_few l (x ∷ xs) = split (ltb x l) (λ e. rw e (omega arith)) (λ e. rw (e, le-leb l x (ltb-false x l e)) (omega (arith, free_few l xs)))

-- and the first that is free does not
free_below : (l : ℕ) (xs : List ℕ) → first_free xs l < length xs → get_or xs (first_free xs l) 0 < l
free_below l [] h = absurd (omega arith)
free_below l (x ∷ xs) h =
    split (ltb x l) (λ e. rw e (ltb-true x l e)) (λ e. let k = rw e at h in rw e (free_below l xs (omega arith)))

contains_from : (s : Span) (c : ℕ) → s.left ≤ c → contains s c ≡ pick (leb c s.right) 1 0
contains_from s c h = rw (le-leb s.left c h)

contains_left : (s : Span) → s.left ≤ s.right → contains s s.left ≡ 1
contains_left s h = rw (le-leb s.left s.left (omega arith), le-leb s.left s.right h)

contains_le : (s : Span) (c : ℕ) → contains s c ≤ 1
contains_le s c = split (leb s.left c) (λ e. split (leb c s.right) (λ f. rw (e, f) (omega arith)) (λ f. rw (e, f) (omega arith)))
    (λ e. rw e (omega arith))

-- the spans from column m on, in a state of the packing, with b places
pub record Ready (p : Packing) (ss : List Span) (m b : ℕ) : Type 0 where
  pub lasts_size : length p.lasts ≡ 180
  pub place_size : length p.place ≡ 181
  pub ordered : Ordered ss
  pub each : (s : Span) → Memᴰ s ss → (m ≤ s.left) × (s.left ≤ s.right) × (s.net ≤ 180)
  pub room : (c : ℕ) → m ≤ c → at_least c p.lasts + covering c ss ≤ b

-- what comes of it: r is each net's place
pub record Packs (p : Packing) (ss : List Span) (b : ℕ) (r : List ℕ) : Type 0 where
  pub fit : Packable p ss
  pub kept : (m : ℕ) → ((s : Span) → Memᴰ s ss → s.net ≢ m) → get_or r m 0 ≡ get_or p.place m 0
  pub within : (s : Span) → Memᴰ s ss → get_or r s.net 0 < b
  pub after : (s : Span) → Memᴰ s ss → get_or p.lasts (get_or r s.net 0) 0 < s.left
  pub apart : (s t : Span) → Memᴰ s ss → Memᴰ t ss → s.net ≢ t.net → get_or r s.net 0 ≡ get_or r t.net 0
      → (s.right < t.left) ⊎ (t.right < s.left)

module _ (p : Packing) (s : Span) (ss : List Span) (m b : ℕ) (few : b ≤ 180) (w : Ready p (s ∷ ss) m b) where
  abbrev at : ℕ
  at = first_free p.lasts s.left

  first : (m ≤ s.left) × (s.left ≤ s.right) × (s.net ≤ 180)
  first = w.each s (Memᴰ.head refl)

  at_small : at < b
  at_small = omega (arith, free_few s.left p.lasts, w.room s.left first.0, contains_left s first.1)

  below : get_or p.lasts at 0 < s.left
  below = free_below s.left p.lasts (omega (arith, at_small, w.lasts_size))

  rest : Ready (placed p s) ss s.left b
  rest = record {
    lasts_size = length-set p.lasts at s.right ∙ w.lasts_size;
    place_size = length-set p.place s.net at ∙ w.place_size;
    ordered = w.ordered.1;
    each = λ t i. ((w.ordered.0 t i).0, (w.each t (Memᴰ.tail i)).1, (w.each t (Memᴰ.tail i)).2);
    room = λ c h. omega (arith, w.room c (omega (arith, first.0)), contains_from s c h, set_at_least c s.right p.lasts at);
  }

  module _ (r : List ℕ) (ih : Packs (placed p s) ss b r) where
    here : get_or r s.net 0 ≡ at
    here = ih.kept s.net (λ t i e. (w.ordered.0 t i).1 (sym e)) ∙ get_or-set_same p.place s.net at 0 (omega (arith, first.2, w.place_size))

    -- what is before l once s has its place was before it already
    before : (q l : ℕ) → get_or (set p.lasts at s.right) q 0 < l → get_or p.lasts q 0 < l
    before q l h = by_cases (ℕ_discrete q at)
        (λ e. let k = rw (e, get_or-set_same p.lasts at s.right 0 (omega (arith, at_small, w.lasts_size))) at h in rw e
        (omega (arith, below, first.1)))
        (λ ne. rw (get_or-set_other p.lasts at q s.right 0 ne) at h)

    ended : (t : Span) → Memᴰ t ss → get_or r s.net 0 ≡ get_or r t.net 0 → s.right < t.left
    ended t i e =
        let k = rw (← e, here, get_or-set_same p.lasts at s.right 0 (omega (arith, at_small, w.lasts_size))) at (ih.after t i) in k

    head_within : (t : Span) → t ≡ s → get_or r t.net 0 < b
    head_within t e = rw (e, here) at_small

    head_after : (t : Span) → t ≡ s → get_or p.lasts (get_or r t.net 0) 0 < t.left
    head_after t e = rw (e, here) below

    packs_one : Packs p (s ∷ ss) b r
    packs_one = record {
      fit = ((omega (arith, at_small), first.2), ih.fit);
      kept = λ m h. ih.kept m (λ t i. h t (Memᴰ.tail i)) ∙ get_or-set_other p.place s.net m at 0 (λ e. h s (Memᴰ.head refl) (sym e));
      within = λ t i. ⊎_elim (head_within t) (ih.within t) (Memᴰ.cases_cons i);
      after = λ t i. ⊎_elim (head_after t) (λ j. before _ _ (ih.after t j)) (Memᴰ.cases_cons i);
      apart = λ t u i j ne e. ⊎_elim
          (λ a. ⊎_elim (λ c. absurd (ne (ap (λ (z : Span). z.net) (a ∙ sym c)))) (λ j'. inl (rw a (ended u j' (rw a at e)))) (Memᴰ.cases_cons j))
          (λ i'. ⊎_elim (λ c. inr (rw c (ended t i' (sym (rw c at e))))) (λ j'. ih.apart t u i' j' ne e) (Memᴰ.cases_cons j))
          (Memᴰ.cases_cons i);
    }

pub packs : (p : Packing) (ss : List Span) (m b : ℕ) → b ≤ 180 → Ready p ss m b → Packs p ss b (packed p ss).place
packs p [] m b few w = record {
  fit = tt;
  kept = λ m h. refl;
  within = λ s i. absurd (Memᴰ.not-nil i);
  after = λ s i. absurd (Memᴰ.not-nil i);
  apart = λ s t i. absurd (Memᴰ.not-nil i);
}
packs p (s ∷ ss) m b few w = packs_one p s ss m b few w (packed p (s ∷ ss)).place (packs (placed p s) ss s.left b few (rest p s ss m b few w))

-- ---- how many spans a column is in

pub contains_in : (s : Span) (c : ℕ) → 1 ≤ contains s c → (s.left ≤ c) × (c ≤ s.right)
contains_in s c h = split (leb s.left c)
    (λ e. split (leb c s.right) (λ f. (leb-true _ _ e, leb-true _ _ f)) (λ f. let k = rw (e, f) at h in absurd (omega arith)))
    (λ e. let k = rw e at h in absurd (omega arith))

pub covering_length : (c : ℕ) (ss : List Span) → covering c ss ≤ length ss
covering_length c [] = omega arith
covering_length c (s ∷ ss) = omega (arith, covering_length c ss, contains_le s c)

-- spans of different nets that contain a column are at most as many as the nets that pass a test which these nets pass
pub covering_few : (c : ℕ) (ss : List Span) (t : ℕ → Bool) (top : ℕ) → Ordered ss
    → ((s : Span) → Memᴰ s ss → In s.net top × (1 ≤ contains s c → t s.net ≡ true)) → covering c ss ≤ count t top
covering_few c [] t top o h = omega arith
covering_few c (s ∷ ss) t top o h = elim (dec_le 1 (contains s c)) [
  | yes one ↦ omega (
    arith,
    contains_le s c,
    covering_few c ss others top o.1 (λ u i. (
      (h u (Memᴰ.tail i)).0,
      λ k. rw (ne_eqb u.net s.net (λ e. (o.0 u i).1 (sym e)))
          ((h u (Memᴰ.tail i)).1 k),
    )),
    sum_change (λ m. bit (t m)) (λ m. bit (others m)) s.net top (h s (Memᴰ.head refl)).0 (λ b ne. rw (ne_eqb b s.net ne)),
    bit_one ((h s (Memᴰ.head refl)).1 one),
    here,
  )
  | no none ↦ omega (arith, covering_few c ss t top o.1 (λ u i. h u (Memᴰ.tail i)))
]
  where
    others : ℕ → Bool
    others m = not (eqb m s.net) && t m

    here : bit (others s.net) ≡ 0
    here = rw (eq-eqb s.net s.net refl)
