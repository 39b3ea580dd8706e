-- Tests over 1 to top: what passes everywhere, what passes once, one test inside another; and the pigeonhole for two rows of numbers.
use Prim.Native.Nat.{ℕ, zero, suc, ◌+◌, ◌≤◌}
use mathlib.Core.Path.{◌≡◌, refl, sym, ap, ◌∙◌}
use mathlib.Core.Logic.{◌≢◌, by_cases}
use mathlib.Core.Bool.{Bool, true, false, not, ◌&&◌, ◌||◌, and-eq-true_iff, false≢true}
use native.Mathlib.Decide.{ℕ_discrete}
use native.Mathlib.Omega.{arith}
use native.Mathlib.Numerals.{add-one}
use lib.Dec.{eqb, leb}
use borrow.Author.Tests.{eq-eqb, ne_eqb, le-leb, not-true}
use Rattle.counting.specs.Counting.{In, bit, sum, count, some, every, least}
use Rattle.counting.proofs.Sums.{split, bit_one, bit_zero, bit_le, sum_le, sum_add, sum_part, sum_zero, sum_change}
use Rattle.counting.proofs.Counts.{some_of, some_none, pigeonhole}
use Rattle.counting.proofs.Leasts.{least_first}

-- ---- some pass

pub some_least : (t : ℕ → Bool) (top : ℕ) → some t top ≡ leb 1 (least t top)
unfolding least some
some_least t zero = refl
some_least t (suc top) =
    by_cases (ℕ_discrete (least t top) 0)
    (λ z. rw (some_least t top, z) (split (t (suc top)) (λ e. rw e (sym (le-leb 1 (suc top) (omega arith)))) (λ e. rw e)))
    (λ nz. rw (some_least t top, ne_eqb (least t top) 0 nz, le-leb 1 (least t top) (omega (arith, nz))))

pub some_same : (t t' : ℕ → Bool) (top : ℕ) → ((a : ℕ) → In a top → t a ≡ t' a) → some t top ≡ some t' top
unfolding some
some_same t t' zero e = refl
some_same t t' (suc top) e = rw (e (suc top) (omega arith), some_same t t' top (λ a i. e a (omega arith)))

-- one more, as code joins the tests
pub some_none_yet : (t : ℕ → Bool) → some t 0 ≡ false
unfolding some
some_none_yet t = refl

pub some_more : (t : ℕ → Bool) (c : ℕ) (x b r : Bool) → x ≡ some t c → b ≡ t (c + 1) → r ≡ (x || b) → r ≡ some t (c + 1)
unfolding some
some_more t c x b r e f g = rw (g, e, f, add-one)

-- ---- all pass

every_in : (t : ℕ → Bool) (top : ℕ) → every t top ≡ true → (a : ℕ) → In a top → t a ≡ true
every_in t top e a i =
    split (t a) (λ f. f) (λ f. absurd (false≢true (sym (not-true _ e) ∙ some_of (λ b. not (t b)) top a i (ap not f))))

pub every_both : (s t : ℕ → Bool) (top : ℕ) → every (λ a. s a && t a) top ≡ true → (a : ℕ) → In a top → (s a ≡ true) × (t a ≡ true)
every_both s t top e a i = (and-eq-true_iff (s a) (t a)).0 (every_in (λ a. s a && t a) top e a i)

pub every_of : (t : ℕ → Bool) (top : ℕ) → ((a : ℕ) → In a top → t a ≡ true) → every t top ≡ true
every_of t top h = ap not (some_none (λ a. not (t a)) top (λ a i. ap not (h a i)))

-- ---- counts

pub count_once : (t : ℕ → Bool) (top a : ℕ) → In a top → t a ≡ true → ((b : ℕ) → t b ≡ true → b ≡ a) → count t top ≡ 1
count_once t top a i e only =
    omega (
      arith,
      bit_one e,
      sum_zero (λ b. 0) top (λ b j. refl),
      sum_change (λ b. bit (t b)) (λ b. 0) a top i (λ b ne. split (t b) (λ q. absurd (ne (only b q))) bit_zero),
    )

pub count_all : (t : ℕ → Bool) (top : ℕ) → ((a : ℕ) → In a top → t a ≡ true) → count t top ≡ top
unfolding sum
count_all t zero all = refl
count_all t (suc top) all = omega (arith, count_all t top (λ a i. all a (omega arith)), bit_one (all (suc top) (omega arith)))

both_le : (a b : Bool) → bit (a && b) ≤ bit b
both_le true b = omega arith
both_le false b = omega arith

-- u passes wherever t does; and at c, where t fails, it may pass as well
pub count_within : (t u : ℕ → Bool) (c top : ℕ) → In c top → t c ≡ false → ((a : ℕ) → In a top → t a ≡ true → u a ≡ true)
    → count t top + bit (u c) ≤ count u top
count_within t u c top i f within =
    let at_c : bit (eqb c c && u c) ≡ bit (u c) = rw (eq-eqb c c refl) in
    omega (
      arith,
      sum_le (λ a. bit (t a) + bit (eqb c a && u a)) (λ a. bit (u a)) top each,
      sum_add (λ a. bit (t a)) (λ a. bit (eqb c a && u a)) top,
      sum_part (λ a. bit (eqb c a && u a)) c top i,
    )
  where
    each : (a : ℕ) → In a top → bit (t a) + bit (eqb c a && u a) ≤ bit (u a)
    each a j = by_cases (ℕ_discrete c a)
        (λ q. omega (arith, both_le (eqb c a) (u a), bit_zero (ap t (sym q) ∙ f)))
        (λ ne. let z : bit (eqb c a && u a) ≡ 0 = rw (ne_eqb c a ne) in
        split (t a) (λ h. omega (arith, bit_le (t a), bit_one (within a j h))) (λ h. omega (arith, bit_zero h)))

-- ---- the pigeonhole

-- a holds n numbers in n places, each once, and f holds them all in n places: so f holds no number twice
pub no_second : (a f : ℕ → ℕ) (n : ℕ) → ((i j : ℕ) → In i n → In j n → a i ≡ a j → i ≡ j)
    → ((i : ℕ) → In i n → (c : ℕ) × In c n × (f c ≡ a i)) → (c d : ℕ) → In c n → In d n → f c ≡ f d → c ≡ d
no_second a f n single all c d ic id same =
    by_cases (ℕ_discrete c d) (λ q. q) (λ ne.
    absurd (omega (
      arith,
      bit_zero (ap not (eq-eqb d d refl)),
      pigeonhole (λ i. true) n (λ l. not (eqb l d)) (λ j l. least (λ i. eqb (a i) (f l)) n) 1 n (λ i ii h. found ne i ii (all i ii)),
      sum_change (λ l. bit (not (eqb l d))) (λ l. 1) d n id (λ l nl. bit_one (ap not (ne_eqb l d nl))),
    )))
  where
    -- the place of a's number i among a's
    back : (i l : ℕ) → In i n → f l ≡ a i → least (λ i. eqb (a i) (f l)) n ≡ i
    back i l ii e =
        least_first (λ i. eqb (a i) (f l)) n i ii (eq-eqb _ _ (sym e))
        (λ b ib lt. ne_eqb (a b) (f l) (λ q. omega (arith, single b i ib ii (q ∙ e))))

    found : c ≢ d → (i : ℕ) → In i n → (l : ℕ) × In l n × (f l ≡ a i)
        → (j : ℕ) × (l : ℕ) × In j 1 × In l n × (not (eqb l d) ≡ true) × (least (λ i. eqb (a i) (f l)) n ≡ i)
    found ne i ii (l, il, e) =
        by_cases (ℕ_discrete l d)
        (λ q. (1, c, omega arith, ic, ap not (ne_eqb c d ne), back i c ii (same ∙ ap f (sym q) ∙ e)))
        (λ nl. (1, l, omega arith, il, ap not (ne_eqb l d nl), back i l ii e))
