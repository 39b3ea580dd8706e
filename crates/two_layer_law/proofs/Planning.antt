-- The operations of a channel that is not solid are consistent: those that gather the north side's nets lead to the cut from which the
-- moves start, and these end at the cut to which those that gather the south side's nets lead. They take at most 7 tracks for each 4
-- columns: each net's operations are at most 7/8 of its pins.
use Prim.Native.Nat.{ℕ, zero, suc, ◌+◌, ◌*◌, ◌-◌, ◌≤◌, ◌<◌}
use mathlib.Core.Path.{◌≡◌, refl, sym, ap, ◌∙◌}
use mathlib.Core.Logic.{◌⊎◌, inl, inr, ◌≢◌, by_cases, ⊎_map}
use mathlib.Core.Bool.{Bool, true, false, cond, not, ◌&&◌, and-eq-true_iff, false≢true}
use native.Mathlib.Omega.{arith}
use native.Mathlib.Decide.{ℕ_discrete, dec_le}
use lib.Dec.{eqb, leb, ltb}
use borrow.Author.Tests.{eqb-true, eqb-false, eq-eqb, ne_eqb, leb-true, le-leb, lt-ltb, le-ltb, not-false}
use Rattle.counting.specs.Counting.{In, bit, sum, count, some, every}
use Rattle.counting.proofs.Sums.{split, bit_le, bit_one, sum_part, double_count}
use Rattle.counting.proofs.Counts.{some_in, some_of, count_le, pigeonhole}
use Rattle.terms.specs.Limits.{longest_side, largest_net}
use Rattle.terms.specs.Kinds.{north, south}
use Rattle.grid.specs.Legal.{Pins}
use Rattle.two_layer_law.specs.Cuts.{Ops, Same, followed, cut_with, cut_of, Runs, EndsOnce, Consistent, op_tracks}
use Rattle.two_layer_law.specs.Moves.{
  first_on,
  held_on,
  leads,
  solid_test,
  several,
  Gathered,
  MoveState,
  wrong,
  steps,
  start_of,
  moves_of,
  most_moves,
  moves,
  width_for,
}
use Rattle.two_layer_law.specs.Channels.{Channel, Several}
use Rattle.counting.proofs.Tests.{every_of, no_second}
use Rattle.two_layer_law.proofs.OneMove.{Movable}
use Rattle.two_layer_law.proofs.Moving.{Brought, moving}
use Rattle.two_layer_law.proofs.Gathering.{
  first_found,
  twice,
  pin_of,
  holds_of,
  leads_of,
  leads_none,
  leads_at,
  to_none,
  once,
  gathered_runs,
  gathered_cut,
}

-- ---- operations that run

-- one operation, of net x to column t with a trunk from l to h, runs from a cut
record Fits (n : ℕ) (cut : ℕ → ℕ) (x t l h : ℕ) : Type 0 where
  named : x ≢ 0
  column : t ≤ n
  free : 1 ≤ t → (cut t ≡ 0) ⊎ (cut t ≡ x)
  there : (c : ℕ) × In c n × (cut c ≡ x)
  ends : (1 ≤ l) × (h ≤ n)
  reaches : (c : ℕ) → In c n → cut_with x t cut c ≡ x → (l ≤ c) × (c ≤ h)

fits : {n : ℕ} {start : ℕ → ℕ} {o : Ops} → Runs n start o → (s : ℕ) → s < o.count
    → Fits n (cut_of o start s) (o.net s) (o.to s) (o.low s) (o.high s)
fits k s h = record {
  named = k.named s h;
  column = k.column s h;
  free = k.free s h;
  there = k.there s h;
  ends = k.ends s h;
  reaches = λ c. k.reaches s c h;
}

fits_all : {n : ℕ} {start : ℕ → ℕ} {o : Ops}
    → ((s : ℕ) → s < o.count → Fits n (cut_of o start s) (o.net s) (o.to s) (o.low s) (o.high s)) → Runs n start o
fits_all f = record {
  named = λ s h. (f s h).named;
  column = λ s h. (f s h).column;
  free = λ s h. (f s h).free;
  there = λ s h. (f s h).there;
  ends = λ s h. (f s h).ends;
  reaches = λ s c h. (f s h).reaches c;
}

-- the same operation on a cut that is the same in all columns
fits_cut : {n x t l h : ℕ} {cut cut' : ℕ → ℕ} → ((c : ℕ) → In c n → cut' c ≡ cut c) → Fits n cut x t l h → Fits n cut' x t l h
fits_cut {n} {x} {t} {l} {h} {cut} {cut'} e k = record {
  named = k.named;
  column = k.column;
  free = λ one. let q = e t (one, k.column) in ⊎_map (λ z. q ∙ z) (λ z. q ∙ z) (k.free one);
  there = let (c, i, q) = k.there in (c, i, e c i ∙ q);
  ends = k.ends;
  reaches = λ c i q. k.reaches c i (ap (cond (eqb c t) x) (sym (e c i)) ∙ q);
}

fits_same : {n x x' t t' l l' h h' : ℕ} {cut cut' : ℕ → ℕ} → x' ≡ x → t' ≡ t → l' ≡ l → h' ≡ h
    → ((c : ℕ) → In c n → cut' c ≡ cut c) → Fits n cut x t l h → Fits n cut' x' t' l' h'
fits_same ex et el eh e k = rw (ex, et, el, eh) (fits_cut e k)

-- the same operations from a start that is the same in column c
cut_same : {o o' : Ops} (start start' : ℕ → ℕ) → Same o o' → (s c : ℕ) → s ≤ o.count → start c ≡ start' c
    → cut_of o start s c ≡ cut_of o' start' s c
unfolding cut_of
cut_same start start' k zero c h e = e
cut_same start start' k (suc s) c h e =
    rw (k.nets s (omega arith), k.tos s (omega arith), cut_same start start' k s c (omega arith) e)

runs_same : {n : ℕ} {o o' : Ops} {start start' : ℕ → ℕ} → Same o o' → ((c : ℕ) → In c n → start c ≡ start' c) → Runs n start' o'
    → Runs n start o
runs_same {n} {o} {o'} {start} {start'} k e r = fits_all (λ s h.
    fits_same (k.nets s h) (k.tos s h) (k.lows s h) (k.highs s h) (λ c i. cut_same start start' k s c (omega arith) (e c i))
    (fits r s (omega (arith, k.many))))

-- ---- operations, and then others

at_first : (f f' : ℕ → ℕ) (k s : ℕ) → s < k → cond (ltb s k) (f s) (f' (s - k)) ≡ f s
at_first f f' k s h = rw (lt-ltb s k h)

at_then : (f f' : ℕ → ℕ) (k s : ℕ) → k ≤ s → cond (ltb s k) (f s) (f' (s - k)) ≡ f' (s - k)
at_then f f' k s h = rw (le-ltb s k h)

module _ (o o' : Ops) (start : ℕ → ℕ) where
  cut_first : (s c : ℕ) → s ≤ o.count → cut_of (followed o o') start s c ≡ cut_of o start s c
  unfolding cut_of
  cut_first zero c h = refl
  cut_first (suc s) c h = rw (lt-ltb s o.count h, cut_first s c (omega arith))

  cut_then : (s t c : ℕ) → t ≡ o.count + s → cut_of (followed o o') start t c ≡ cut_of o' (cut_of o start o.count) s c
  unfolding cut_of
  cut_then zero t c e = let q : t ≡ o.count = omega arith in rw q (cut_first o.count c (omega arith))
  cut_then (suc s) zero c e = absurd (omega arith)
  cut_then (suc s) (suc t) c e =
      let back : t - o.count ≡ s = omega arith in rw (le-ltb t o.count (omega arith), back, cut_then s t c (omega arith))

  runs_followed : (n : ℕ) → Runs n start o → Runs n (cut_of o start o.count) o' → Runs n start (followed o o')
  runs_followed n r r' = fits_all (λ s h. elim (dec_le (suc s) o.count) [
    | yes lt ↦ fits_same (at_first o.net o'.net _ s lt) (at_first o.to o'.to _ s lt) (at_first o.low o'.low _ s lt)
        (at_first o.high o'.high _ s lt) (λ c i. cut_first s c (omega arith)) (fits r s lt)
    | no ge ↦ let le : o.count ≤ s = omega arith in
        fits_same (at_then o.net o'.net _ s le) (at_then o.to o'.to _ s le) (at_then o.low o'.low _ s le)
        (at_then o.high o'.high _ s le)
        (λ c i. cut_then (s - o.count) s c (omega arith)) (fits r' (s - o.count) (omega arith))
  ])

-- ---- the moves

module _ (a b : ℕ → ℕ) (n : ℕ) where
  single : (c d : ℕ) → leads a b n c ≢ 0 → leads a b n c ≡ leads a b n d → c ≡ d
  single c d nz e = sym (leads_at a b n c _ nz refl).1 ∙ (leads_at a b n d (leads a b n c) nz (sym e)).1

  -- a net that one side leads is led by the other too
  across : (c : ℕ) → In c n → leads a b n c ≢ 0 → (d : ℕ) × In d n × (leads b a n d ≡ leads a b n c)
  across c i nz =
      let m = leads a b n c in
      let (e, f, h) = leads_at a b n c m nz refl in
      let (d, j, q) = some_in (λ d. eqb (b d) m) n h in
      let (k, r, le) = first_found b n m d j (eqb-true _ _ q) in
      (first_on b n m, k, leads_of b a n (first_on b n m) m r refl (holds_of a n m c i e))

-- f holds all of a's n numbers, which are different and not 0: so f holds nothing else
none_empty : (a f : ℕ → ℕ) (n : ℕ) → ((i j : ℕ) → In i n → In j n → a i ≡ a j → i ≡ j) → ((i : ℕ) → In i n → a i ≢ 0)
    → ((i : ℕ) → In i n → (c : ℕ) × In c n × (f c ≡ a i)) → (c : ℕ) → In c n → f c ≢ 0
none_empty a f n apart full all c i z =
    let one : In 1 n = omega arith in
    let (d, j, e) = all 1 one in
    let ne = elsewhere d 1 one e in
    ne (sym (no_second a f' n apart all' c d i j (rw (eq-eqb c c refl, ne_eqb d c ne) (sym e))))
  where
    -- f with another number in column c
    f' : ℕ → ℕ
    f' d = cond (eqb d c) (a 1) (f d)

    elsewhere : (d k : ℕ) → In k n → f d ≡ a k → d ≢ c
    elsewhere d k ik e q = full k ik (sym e ∙ ap f q ∙ z)

    all' : (k : ℕ) → In k n → (d : ℕ) × In d n × (f' d ≡ a k)
    all' k ik = let (d, j, e) = all k ik in (d, j, rw (ne_eqb d c (elsewhere d k ik e)) e)

none_passes : (t : ℕ → Bool) (top c : ℕ) → some t top ≡ false → In c top → t c ≡ false
none_passes t top c e i = split (t c) (λ h. absurd (false≢true (sym e ∙ some_of t top c i h))) (λ h. h)

pub movable : (a b : ℕ → ℕ) (n : ℕ) → b 0 ≡ 0 → solid_test a b n ≡ false → Movable n (leads b a n) (start_of a b n)
movable a b n blank open_test = record {
  single = λ c d i j. single a b n c d;
  goal_single = λ c d i j. single b a n c d;
  wanted = across a b n;
  standing = across b a n;
  at = λ c i nz. (leads_at a b n c (leads a b n c) nz refl).1;
  left = omega arith;
  blank = leads_none b a n 0 blank;
  vacant = split (some (λ c. eqb (leads b a n c) 0) n)
      (λ e. let (c, i, z) = some_in (λ c. eqb (leads b a n c) 0) n e in inl (c, i, eqb-true _ _ z))
      (λ e. inr (equal e));
}
  where
    equal : some (λ c. eqb (leads b a n c) 0) n ≡ false → (c : ℕ) → In c n → leads a b n c ≡ leads b a n c
    equal e c i =
        let full : (d : ℕ) → In d n → leads b a n d ≢ 0 = λ d j. eqb-false _ _ (none_passes (λ c. eqb (leads b a n c) 0) n d e j) in
        let up = none_empty (leads b a n) (leads a b n) n (λ d k j l. single b a n d k (full d j)) full
        (λ d j. across b a n d j (full d j)) in
        let led : every (λ c. leb 1 (leads a b n c) && leb 1 (leads b a n c)) n ≡ true =
        every_of _ n (λ d j. (and-eq-true_iff (leb 1 (leads a b n d)) (leb 1 (leads b a n d))).1
        (le-leb 1 (leads a b n d) (omega (arith, up d j)), le-leb 1 (leads b a n d) (omega (arith, full d j)))) in
        eqb-true _ _ (not-false _ (none_passes (λ c. not (eqb (leads a b n c) (leads b a n c))) n c (rw led at open_test) i))

-- the moves that are allowed are enough
pub few_wrong : (a b : ℕ → ℕ) (n : ℕ) → n ≤ longest_side → 3 * count (wrong (leads b a n) (leads a b n)) n ≤ 2 * most_moves
few_wrong a b n h = omega (arith, count_le (wrong (leads b a n) (leads a b n)) n)

-- ---- the tracks

-- how often net m stands on side a
abbrev pins : (ℕ → ℕ) → ℕ → ℕ → ℕ
pins a n m = count (λ c. eqb (a c) m) n

abbrev on_both : (ℕ → ℕ) → (ℕ → ℕ) → ℕ → ℕ → Bool
on_both a b n m = leb 1 (pins a n m) && leb 1 (pins b n m)

held_count : (a : ℕ → ℕ) (n m : ℕ) → held_on a n m ≡ true → leb 1 (pins a n m) ≡ true
held_count a n m h =
    let (c, i, e) = some_in (λ c. eqb (a c) m) n h in
    le-leb 1 (pins a n m) (omega (arith, bit_one e, sum_part (λ c. bit (eqb (a c) m)) c n i))

-- each column that is to get another net belongs to a net of both sides
wrong_nets : (a b : ℕ → ℕ) (n : ℕ) → ((c : ℕ) → b c ≤ largest_net)
    → count (wrong (leads b a n) (leads a b n)) n ≤ count (on_both a b n) largest_net
wrong_nets a b n small =
    omega (arith, pigeonhole (wrong (leads b a n) (leads a b n)) n (on_both a b n) (λ j m. first_on b n m) 1 largest_net found)
  where
    found : (c : ℕ) → In c n → wrong (leads b a n) (leads a b n) c ≡ true
        → (j : ℕ) × (m : ℕ) × In j 1 × In m largest_net × (on_both a b n m ≡ true) × (first_on b n m ≡ c)
    found c i e =
        let m = leads b a n c in
        let one = leb-true 1 m ((and-eq-true_iff (leb 1 m) (not (eqb (leads a b n c) m))).0 e).0 in
        let (q, f, h) = leads_at b a n c m (omega arith) refl in
        let held = (and-eq-true_iff (leb 1 (pins a n m)) (leb 1 (pins b n m))).1
        (held_count a n m h, held_count b n m (holds_of b n m c i q)) in
        (1, m, omega arith, omega (arith, small c), held, f)

-- a net's charge: 8 for each operation that gathers it and 12 for its moves, at most 7 for each of its pins
charge : (s t u : Bool) (x y : ℕ) → (s ≡ true → 2 ≤ x) → (t ≡ true → 2 ≤ y) → (u ≡ true → (1 ≤ x) × (1 ≤ y))
    → 8 * bit s + 8 * bit t + 12 * bit u ≤ 7 * (x + y)
charge true true u x y f g h = omega (arith, f refl, g refl, bit_le u)
charge true false true x y f g h = omega (arith, f refl, h refl)
charge true false false x y f g h = omega (arith, f refl)
charge false true true x y f g h = omega (arith, g refl, h refl)
charge false true false x y f g h = omega (arith, g refl)
charge false false true x y f g h = omega (arith, h refl)
charge false false false x y f g h = omega arith

charges : (f g h x y : ℕ → ℕ) (top : ℕ) → ((m : ℕ) → In m top → 8 * f m + 8 * g m + 12 * h m ≤ 7 * (x m + y m))
    → 8 * sum f top + 8 * sum g top + 12 * sum h top ≤ 7 * (sum x top + sum y top)
unfolding sum
charges f g h x y zero e = omega arith
charges f g h x y (suc top) e = omega (arith, charges f g h x y top (λ m i. e m (omega arith)), e (suc top) (omega arith))

charged : (a b : ℕ → ℕ) (n m : ℕ)
    → 8 * bit (several a n m) + 8 * bit (several b n m) + 12 * bit (on_both a b n m) ≤ 7 * (pins a n m + pins b n m)
charged a b n m =
    charge (several a n m) (several b n m) (on_both a b n m) (pins a n m) (pins b n m) (leb-true 2 (pins a n m)) (leb-true 2 (pins b n m))
    (λ e. let (f, g) = (and-eq-true_iff (leb 1 (pins a n m)) (leb 1 (pins b n m))).0 e in
    (leb-true 1 (pins a n m) f, leb-true 1 (pins b n m) g))

pub width_is : {n : ℕ} (a b : ℕ → ℕ) {gn om gs : Ops} → Gathered a b n gn
    → Same om (moves_of n (leads b a n) (start_of a b n) (moves a b n)) → Gathered b a n gs → op_tracks (followed gn om) gs ≡ width_for a b n
unfolding width_for
width_is a b kn km ks = rw (kn.count, km.many, ks.count)

-- ---- all operations

module _ {n : ℕ} {p : Pins} (ch : Channel n p) (open_test : solid_test (p north) (p south) n ≡ false) where
  -- the moves
  abbrev shifts : Ops
  shifts = moves_of n (leads (p south) (p north) n) (start_of (p north) (p south) n) (moves (p north) (p south) n)

  made : Brought n (leads (p south) (p north) n) (start_of (p north) (p south) n) (moves (p north) (p south) n)
  unfolding moves
  made =
      moving n (leads (p south) (p north) n) (start_of (p north) (p south) n) most_moves
      (movable (p north) (p south) n (ch.blank south) open_test) (few_wrong (p north) (p south) n ch.columns.1)

  pub few_tracks : 4 * width_for (p north) (p south) n ≤ 7 * n
  unfolding width_for
  few_tracks =
      omega (
        arith,
        made.few,
        ch.columns,
        wrong_nets (p north) (p south) n (ch.numbered south),
        charges (λ m. bit (several (p north) n m)) (λ m. bit (several (p south) n m)) (λ m. bit (on_both (p north) (p south) n m))
            (pins (p north) n) (pins (p south) n) largest_net (λ m i. charged (p north) (p south) n m),
        double_count (p north) n largest_net,
        double_count (p south) n largest_net,
      )

  module _ {gn om gs : Ops} (kn : Gathered (p north) (p south) n gn) (km : Same om shifts) (ks : Gathered (p south) (p north) n gs) where
    -- the operations from the north begin with those that gather, and end with the moves
    abbrev down : Ops
    down = followed gn om

    first_net : (s : ℕ) → s < gn.count → down.net s ≡ gn.net s
    first_net s h = at_first gn.net om.net gn.count s h

    -- a net that is moved has a south pin
    later_net : (s : ℕ) → s < down.count → gn.count ≤ s → (c : ℕ) × In c n × (p south c ≡ down.net s)
    later_net s h le =
        let lt : s - gn.count < om.count = omega arith in
        let lt' = rw km.many at lt in
        let (c, i, e) = made.two_sided (s - gn.count) lt' in
        let there = (leads_at (p south) (p north) n c _ (made.runs.named (s - gn.count) lt') e).0 in
        (c, i, there ∙ sym (km.nets (s - gn.count) lt) ∙ sym (at_then gn.net om.net gn.count s le))

    later_to : (s : ℕ) → s < down.count → gn.count ≤ s → 1 ≤ down.to s
    later_to s h le =
        let lt : s - gn.count < om.count = omega arith in
        omega (
          arith,
          made.somewhere (s - gn.count) (rw km.many at lt),
          km.tos (s - gn.count) lt,
          at_then gn.to om.to gn.count s le,
        )

    ended : EndsOnce down gs
    ended s h z = elim (dec_le (suc s) gn.count) [
      | yes lt ↦ let lacks = to_none kn s lt (sym (at_first gn.to om.to gn.count s lt) ∙ z) in (
        λ r k e. elim (dec_le (suc r) gn.count) [
          | yes lt' ↦ once kn r s lt' lt (sym (first_net r lt') ∙ e ∙ first_net s lt)
          | no ge ↦ let (c, i, q) = later_net r k (omega arith) in absurd (apart s lt lacks c i (q ∙ e))
        ],
        λ r k e. let (c, i, q) = pin_of (p south) n (gs.net r) (ks.each r k).1 in apart s lt lacks c i (q ∙ e),
      )
      | no ge ↦ absurd (omega (arith, later_to s h (omega arith)))
    ]
      where
        apart : (s : ℕ) → s < gn.count → held_on (p south) n (gn.net s) ≡ false → (c : ℕ) → In c n → p south c ≢ down.net s
        apart s lt lacks c i e = false≢true (sym lacks ∙ holds_of (p south) n (gn.net s) c i (e ∙ first_net s lt))

    pub planned : Several n (p north) (p south) → Several n (p south) (p north) → Consistent n p (followed gn om) gs
    planned norths souths = record {
      norths = runs_followed gn om (p north) n (gathered_runs kn)
          (runs_same km (gathered_cut kn norths (ch.numbered north)) made.runs);
      souths = gathered_runs ks;
      meet = λ c i.
          cut_then gn om (p north) om.count down.count c refl
          ∙ cut_same _ (leads (p north) (p south) n) km om.count c (omega arith) (gathered_cut kn norths (ch.numbered north) c i)
          ∙ ap (λ s. cut_of shifts (leads (p north) (p south) n) s c) km.many
          ∙ made.done c i
          ∙ sym (gathered_cut ks souths (ch.numbered south) c i);
      ended = ended;
      straight = λ m a b nz none none' i j e f. by_cases (ℕ_discrete a b) (λ q. q) (λ ne.
          let (s, h, q) = kn.all m (omega (arith, ch.numbered north a)) (twice (p north) n m a b i j e f ne) in
          absurd (none s (omega arith) (first_net s h ∙ q)));
    }
