-- An array that a loop fills from the front: f at the places passed, and 0 past them; a side's list is such an array.
use Prim.Native.Nat.{ℕ, zero, suc, ◌+◌, ◌≤◌, ◌<◌}
use mathlib.Core.Bool.{cond}
use mathlib.Core.List.{List, [], ◌∷◌, ◌++◌}
use mathlib.Core.Logic.{⊎_elim}
use mathlib.Core.Path.{◌≡◌, refl, sym, ap, ap₂, ◌∙◌}
use native.Mathlib.Nat.{add-zero, add-suc, suc-add, not-suc-le-zero, le_of_suc-le-suc}
use native.Mathlib.Numerals.{add-one}
use native.Mathlib.Omega.{arith}
use lib.Dec.{leb}
use lib.ListN.{length, get_or, set, replicate, length-set, length-replicate, get_or-eq_default}
use lib.Seq.{ext_get_or, get_or-set_same, get_or-set_other}
use borrow.Author.Count.{below_more}
use borrow.Author.Tests.{le-leb, lt-leb}
use Rattle.counting.specs.Counting.{In}
use Rattle.terms.specs.Limits.{longest_side}
use Rattle.grid.specs.Legal.{entry}
use Rattle.ticket_sides.proofs.Flags.{le_or_lt}
use Rattle.ticket_sides.specs.Format.{values_from, side_list}
use Rattle.counting.proofs.Lists.{zeros_at}

pub length_values : (f : ℕ → ℕ) (i n : ℕ) → length (values_from f i n) ≡ n
unfolding values_from
length_values f i zero = refl
length_values f i (suc n) = ap suc (length_values f (suc i) n)

pub get_d_values : (f : ℕ → ℕ) (i n k : ℕ) → k < n → get_or (values_from f i n) k 0 ≡ f (i + k)
unfolding values_from
get_d_values f i zero k h = absurd (not-suc-le-zero h)
get_d_values f i (suc n) zero h = ap f (sym (add-zero i))
get_d_values f i (suc n) (suc k) h = get_d_values f (suc i) n k (le_of_suc-le-suc h) ∙ ap f (suc-add i k ∙ sym (add-suc i k))

pub values_none : (f : ℕ → ℕ) (i : ℕ) → values_from f i 0 ≡ []
unfolding values_from
values_none f i = refl

values_snoc : (f : ℕ → ℕ) (i k : ℕ) → values_from f i (suc k) ≡ values_from f i k ++ (f (i + k) ∷ [])
unfolding values_from
values_snoc f i zero = ap (λ (x : ℕ). f x ∷ []) (sym (add-zero i))
values_snoc f i (suc k) =
    ap (λ (l : List ℕ). f i ∷ l)
    (values_snoc f (suc i) k ∙ ap (λ (x : ℕ). values_from f (suc i) k ++ (f x ∷ [])) (suc-add i k ∙ sym (add-suc i k)))

-- one value more
pub values_more : (f : ℕ → ℕ) (i k : ℕ) {v : ℕ} → v ≡ f (i + k) → values_from f i (k + 1) ≡ values_from f i k ++ (v ∷ [])
values_more f i k e = rw (add-one k) (values_snoc f i k ∙ ap (λ (x : ℕ). values_from f i k ++ (x ∷ [])) (sym e))

module _ (f : ℕ → ℕ) (n : ℕ) where
  pub entry_values : (a : ℕ) → In a n → entry (values_from f 1 n) a ≡ f a
  entry_values zero i = absurd (omega arith)
  entry_values (suc k) i = let one : 1 + k ≡ suc k = omega arith in get_d_values f 1 n k (omega arith) ∙ ap f one

  pub entry_past : (a : ℕ) → n < a → entry (values_from f 1 n) a ≡ 0
  entry_past zero i = absurd (omega arith)
  entry_past (suc k) i = get_or-eq_default (values_from f 1 n) 0 (rw length_values (omega arith))

pub record Filled (f : ℕ → ℕ) (n i : ℕ) (l : List ℕ) : Type 0 where
  pub size : length l ≡ n
  pub done : (k : ℕ) → k < i → get_or l k 0 ≡ f (k + 1)
  pub rest : (k : ℕ) → i ≤ k → get_or l k 0 ≡ 0

module _ (f : ℕ → ℕ) (n : ℕ) where
  pub filled_none : Filled f n 0 (replicate n 0)
  filled_none = record { size = length-replicate n 0; done = λ k h. absurd (not-suc-le-zero h); rest = λ k h. zeros_at n k }

  -- a store of f (i + 1) at i
  pub filled_set : (i v : ℕ) (l : List ℕ) → i < n → v ≡ f (i + 1) → Filled f n i l → Filled f n (i + 1) (set l i v)
  filled_set i v l h e w =
      record {
        size = length-set l i v ∙ w.size;
        done = below_more (λ k. get_or (set l i v) k 0 ≡ f (k + 1)) i
            (λ k less. get_or-set_other l i k v 0 (λ q. omega arith) ∙ w.done k less)
            (get_or-set_same l i v 0 (rw w.size h) ∙ e);
        rest = λ k le. get_or-set_other l i k v 0 (λ q. omega arith) ∙ w.rest k (omega arith);
      }

  -- f is 0 past i: the array lists f
  pub filled_end : (i : ℕ) (l : List ℕ) → ((a : ℕ) → i < a → f a ≡ 0) → Filled f n i l → l ≡ values_from f 1 n
  filled_end i l z w =
      ext_get_or 0 l (values_from f 1 n) (w.size ∙ sym (length_values f 1 n))
      (λ k lt.
      let one : 1 + k ≡ k + 1 = omega arith in
      ⊎_elim (λ le. w.rest k le ∙ sym (z (k + 1) (omega arith))) (λ less. w.done k less) (le_or_lt i k)
      ∙ sym (get_d_values f 1 n k (rw w.size at lt) ∙ ap f one))

-- ---- a side's list

-- f at the places 1 to p, and 0 past them
abbrev pub up_to : (ℕ → ℕ) → ℕ → ℕ → ℕ
up_to f p a = cond (leb a p) (f a) 0

module _ (f : ℕ → ℕ) (p : ℕ) where
  pub length_side : length (side_list f p) ≡ longest_side
  unfolding side_list
  length_side = length_values (up_to f p) 1 longest_side

  pub side_at_lem : (a : ℕ) → p ≤ longest_side → In a p → entry (side_list f p) a ≡ f a
  unfolding side_list
  side_at_lem a few i = entry_values (up_to f p) longest_side a (omega arith) ∙ rw (le-leb a p i.1)

  pub side_past : (a : ℕ) → p < a → entry (side_list f p) a ≡ 0
  unfolding side_list
  side_past a past = ⊎_elim
      (λ le. entry_values (up_to f p) longest_side a (omega arith) ∙ rw (lt-leb a p past))
      (λ lt. entry_past (up_to f p) longest_side a lt)
      (le_or_lt a longest_side)

  module _ (i : ℕ) (l : List ℕ) where
    pub fill_more : {v : ℕ} → p ≤ longest_side → i < p → v ≡ f (i + 1) → Filled (up_to f p) longest_side i l
        → Filled (up_to f p) longest_side (i + 1) (set l i v)
    fill_more {v} few less e w = filled_set (up_to f p) longest_side i v l (omega arith) (e ∙ rw (le-leb (i + 1) p (omega arith))) w

    pub fill_end : i ≡ p → Filled (up_to f p) longest_side i l → l ≡ side_list f p
    unfolding side_list
    fill_end e w = filled_end (up_to f p) longest_side i l (λ a past. rw (lt-leb a p (omega arith))) w

pub values_same : (f g : ℕ → ℕ) (n i : ℕ) → ((a : ℕ) → i ≤ a → a < i + n → f a ≡ g a) → values_from f i n ≡ values_from g i n
unfolding values_from
values_same f g zero i e = refl
values_same f g (suc n) i e =
    ap₂ (λ x l. x ∷ l) (e i (omega arith) (omega arith)) (values_same f g n (suc i) (λ a h lt. e a (omega arith) (omega arith)))
