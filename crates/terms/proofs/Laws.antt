-- What a test of a limit, a list of checks and a kind's number say once they are passed.
use Prim.Native.Nat.{ℕ, ◌≤◌}
use mathlib.Core.Path.{◌≡◌, refl, sym, ◌∙◌, subst}
use mathlib.Core.Bool.{Bool, true, false, cond, false≢true, true≢false, and-eq-true_iff}
use mathlib.Core.Logic.{◌≢◌}
use native.Mathlib.Omega.{arith}
use native.Mathlib.Decide.{ℕ_discrete}
use lib.Dec.{leb, eqb}
use borrow.Author.Tests.{leb-true, le-leb, ne_eqb}
use native.Mathlib.Nat.{mul-le-mul_right}
use Rattle.counting.specs.Counting.{In, ceil}
use Rattle.counting.proofs.Counts.{ceil_le}
use Rattle.terms.specs.declared.Refusal.{Refusal}
use Rattle.terms.specs.Limits.{within}
use Rattle.terms.specs.Kinds.{row, channel, box, two_layer, west, east, by_kind, is_kind, has_side, tracks_bound, layers_bound}
use Rattle.terms.specs.Refusals.{unless}

pub within_in : (a top : ℕ) → within a top ≡ true → In a top
within_in a top e = let (l, h) = (and-eq-true_iff (leb 1 a) (leb a top)).0 e in (leb-true 1 a l, leb-true a top h)

pub within_of : (a top : ℕ) → In a top → within a top ≡ true
within_of a top i = rw (le-leb 1 a i.0, le-leb a top i.1)

pub passed : (t : Bool) (r s : Refusal) → (r.number ≡ 0 → ⊥) → (unless t r s).number ≡ 0 → (t ≡ true) × (s.number ≡ 0)
passed true r s h e = (refl, e)
passed false r s h e = absurd (h e)

-- by cases on it a definition by kind computes
pub data Known : ℕ → Type 0 where
  is_row : Known row
  is_channel : Known channel
  is_box : Known box
  is_two_layer : Known two_layer

pub known : (kind : ℕ) → is_kind kind ≡ true → Known kind
known kind e =
    elim (ℕ_discrete kind row) [
      | yes r ↦ subst Known (sym r) is_row
      | no r ↦ elim (ℕ_discrete kind channel) [
        | yes c ↦ subst Known (sym c) is_channel
        | no c ↦ elim (ℕ_discrete kind box) [
          | yes b ↦ subst Known (sym b) is_box
          | no b ↦ elim (ℕ_discrete kind two_layer) [
            | yes t ↦ subst Known (sym t) is_two_layer
            | no t ↦ absurd (false≢true (rw (ne_eqb kind row r, ne_eqb kind channel c, ne_eqb kind box b, ne_eqb kind two_layer t) at e))
          ]
        ]
      ]
    ]

pub ceil_small : (a b : ℕ) → 1 ≤ b → ceil a b ≤ a
ceil_small a b h = ceil_le a b a (omega (arith, mul-le-mul_right a h))

-- ---- what no kind has, and what only boxes have

-- a number that is no kind's has the first value in every column of the kind table
pub no_kind : {A : Type 0} (kind : ℕ) (none r c b t : A) → is_kind kind ≡ false → by_kind kind none r c b t ≡ none
no_kind {A} kind none r c b t e = go (eqb kind row) (eqb kind channel) (eqb kind box) (eqb kind two_layer) e
  where
    go : (w x y z : Bool) → cond w true (cond x true (cond y true (cond z true false))) ≡ false
        → cond w r (cond x c (cond y b (cond z t none))) ≡ none
    go true x y z e = absurd (true≢false e)
    go false true y z e = absurd (true≢false e)
    go false false true z e = absurd (true≢false e)
    go false false false true e = absurd (true≢false e)
    go false false false false e = refl

pub of_box : {A : Type 0} (kind : ℕ) (none r c b t : A) → kind ≡ box → by_kind kind none r c b t ≡ b
of_box kind none r c b t e = subst (λ (k : ℕ). by_kind k none r c b t ≡ b) (sym e) refl

pub boxes_only : {A : Type 0} (kind : ℕ) (none b : A) → kind ≢ box → by_kind kind none none none b none ≡ none
boxes_only kind none b ne = rw (ne_eqb kind box ne) (same (eqb kind row) (eqb kind channel) (eqb kind two_layer))
  where
    same : (s t u : Bool) → cond s none (cond t none (cond u none none)) ≡ none
    same true t u = refl
    same false true u = refl
    same false false true = refl
    same false false false = refl

-- ---- what only two-layer channels have

pub of_two_layer : {A : Type 0} (kind : ℕ) (none r c b t : A) → kind ≡ two_layer → by_kind kind none r c b t ≡ t
of_two_layer kind none r c b t e = subst (λ (k : ℕ). by_kind k none r c b t ≡ t) (sym e) refl

pub two_layers_only : {A : Type 0} (kind : ℕ) (none t : A) → kind ≢ two_layer → by_kind kind none none none none t ≡ none
two_layers_only kind none t ne = rw (ne_eqb kind two_layer ne) (same (eqb kind row) (eqb kind channel) (eqb kind box))
  where
    same : (r c b : Bool) → cond r none (cond c none (cond b none none)) ≡ none
    same true c b = refl
    same false true b = refl
    same false false true = refl
    same false false false = refl

-- no kind is left
pub other_kind : (kind : ℕ) → is_kind kind ≡ true → kind ≢ row → kind ≢ channel → kind ≢ box → kind ≢ two_layer → ⊥
other_kind kind e r c b t = false≢true (rw (ne_eqb kind row r, ne_eqb kind channel c, ne_eqb kind box b, ne_eqb kind two_layer t) at e)

-- ---- rows and channels

pub data Thin : ℕ → Type 0 where
  thin_row : Thin row
  thin_channel : Thin channel

pub thin : (kind : ℕ) → tracks_bound kind ≡ true → Thin kind
thin kind e =
    elim (ℕ_discrete kind row) [
      | yes r ↦ subst Thin (sym r) thin_row
      | no r ↦ elim (ℕ_discrete kind channel) [
        | yes c ↦ subst Thin (sym c) thin_channel
        | no c ↦ absurd (false≢true (rw (ne_eqb kind row r, ne_eqb kind channel c, none (eqb kind box) (eqb kind two_layer)) at e))
      ]
    ]
  where
    none : (t u : Bool) → cond t false (cond u false false) ≡ false
    none true u = refl
    none false true = refl
    none false false = refl

pub of_thin : {A : Type 0} {kind : ℕ} → Thin kind → (none a b t : A) → by_kind kind none a a b t ≡ a
of_thin thin_row none a b t = refl
of_thin thin_channel none a b t = refl

pub no_west : {kind : ℕ} → Thin kind → has_side kind west ≡ false
no_west thin_row = refl
no_west thin_channel = refl

pub no_east : {kind : ℕ} → Thin kind → has_side kind east ≡ false
no_east thin_row = refl
no_east thin_channel = refl

pub is_of_box : (kind : ℕ) → layers_bound kind ≡ true → kind ≡ box
is_of_box kind e = elim (ℕ_discrete kind box) [ yes b ↦ b | no b ↦ absurd (false≢true (sym (boxes_only kind false true b) ∙ e)) ]
