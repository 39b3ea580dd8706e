-- Where two sides across from each other have a net, as a loop over their padded lists finds it, place by place.
use Prim.Native.Nat.{ℕ, zero, suc, ◌+◌, ◌≤◌, ◌<◌, min, max}
use mathlib.Core.Path.{◌≡◌, refl, sym, ap, ◌∙◌}
use mathlib.Core.Logic.{◌≢◌, by_cases}
use mathlib.Core.Bool.{Bool, true, false, cond, ◌||◌}
use native.Mathlib.Decide.{ℕ_discrete}
use native.Mathlib.Omega.{arith}
use native.Mathlib.Numerals.{add-one}
use lib.Dec.{eqb}
use borrow.Author.Tests.{ne_eqb}
use Rattle.counting.specs.Counting.{In, some, least}
use Rattle.counting.proofs.Leasts.{least_le, least_same, least_zero}
use Rattle.counting.proofs.Tests.{some_more}
use Rattle.terms.specs.Limits.{longest_side}
use Rattle.nets.specs.Tables.{holds_at, first_held, last_held}
use Rattle.board_law.specs.Runs.{no_place, or_no_place, Ends}
use Rattle.board_law.proofs.Ends.{least_past, last_past, last_same}
use Rattle.board_sides.specs.Limits.{padded_side}
use Rattle.board_sides.proofs.Padding.{Padded, net_here_lem, net_past, some_padded}

-- what the places 1 to top tell
pub record Seen (a b : ℕ → ℕ) (m top low high : ℕ) (one two : Bool) : Type 0 where
  pub on_one : one ≡ some (λ c. eqb (a c) m) top
  pub on_two : two ≡ some (λ c. eqb (b c) m) top
  pub first : low ≡ or_no_place (first_held a b top m)
  pub last : high ≡ last_held a b top m

-- ---- one place more

-- a place past all before it is the first only if there is none before it
first_next : (x i : ℕ) (hit : Bool) → x ≤ i → i + 1 < no_place
    → min (or_no_place x) (cond hit (i + 1) no_place) ≡ or_no_place (cond (eqb x 0) (cond hit (i + 1) 0) x)
first_next x i hit le less = by_cases (ℕ_discrete x 0) (λ z. rw z (none hit)) (λ nz. rw (ne_eqb x 0 nz, ne_eqb x 0 nz) (kept hit))
  where
    none : (hit : Bool) → min no_place (cond hit (i + 1) no_place) ≡ or_no_place (cond hit (i + 1) 0)
    none true = rw (ne_eqb (i + 1) 0 (λ z. omega arith)) (omega arith)
    none false = refl

    kept : (hit : Bool) → min x (cond hit (i + 1) no_place) ≡ x
    kept true = omega arith
    kept false = omega arith

-- and it is the last
last_next : (x i : ℕ) (hit : Bool) → x ≤ i → max x (cond hit (i + 1) 0) ≡ cond hit (i + 1) x
last_next x i true le = omega arith
last_next x i false le = omega arith

module _ (a b : ℕ → ℕ) (m : ℕ) where
  last_le : (top : ℕ) → last_held a b top m ≤ top
  unfolding last_held
  last_le zero = omega arith
  last_le (suc top) = here_or_before (holds_at a b m (suc top)) (last_le top)
    where
      here_or_before : {x : ℕ} (hit : Bool) → x ≤ top → cond hit (suc top) x ≤ suc top
      here_or_before true le = omega arith
      here_or_before false le = omega arith

  first_more : (i : ℕ)
      → first_held a b (i + 1) m ≡ cond (eqb (first_held a b i m) 0) (cond (holds_at a b m (i + 1)) (i + 1) 0) (first_held a b i m)
  unfolding least
  first_more i = rw add-one

  last_more : (i : ℕ) → last_held a b (i + 1) m ≡ cond (holds_at a b m (i + 1)) (i + 1) (last_held a b i m)
  unfolding last_held
  last_more i = rw add-one

  pub seen_none : Seen a b m 0 no_place 0 false false
  unfolding some least last_held
  seen_none = record { on_one = refl; on_two = refl; first = refl; last = refl }

  pub seen_more : (i x y : ℕ) {low high low' high' least_here greatest_here : ℕ} {one two : Bool} → i + 1 < no_place
      → x ≡ a (i + 1) → y ≡ b (i + 1)
      → least_here ≡ cond (eqb x m || eqb y m) (i + 1) no_place → greatest_here ≡ cond (eqb x m || eqb y m) (i + 1) 0
      → low' ≡ min low least_here → high' ≡ max high greatest_here
      → Seen a b m i low high one two → Seen a b m (i + 1) low' high' (one || eqb x m) (two || eqb y m)
  seen_more i x y {low} {high} less ex ey least_is greatest_is el eg s =
      let hits : (eqb x m || eqb y m) ≡ holds_at a b m (i + 1) = λ j. eqb (ex j) m || eqb (ey j) m in
      record {
        on_one = some_more (λ c. eqb (a c) m) i _ _ _ s.on_one (ap (λ (v : ℕ). eqb v m) ex) refl;
        on_two = some_more (λ c. eqb (b c) m) i _ _ _ s.on_two (ap (λ (v : ℕ). eqb v m) ey) refl;
        first = el ∙ ap (min low) least_is ∙ (λ j. min (s.first j) (cond (hits j) (i + 1) no_place))
            ∙ first_next (first_held a b i m) i (holds_at a b m (i + 1)) (least_le (holds_at a b m) i) less
            ∙ ap or_no_place (sym (first_more i));
        last = eg ∙ ap (max high) greatest_is ∙ (λ j. max (s.last j) (cond (hits j) (i + 1) 0))
            ∙ last_next (last_held a b i m) i (holds_at a b m (i + 1)) (last_le i) ∙ sym (last_more i);
      }

-- ---- the padded lists and the sides

module _ (a b a' b' : ℕ → ℕ) (m low high : ℕ) (one two : Bool) where
  pub seen_all : 1 ≤ m → Padded a a' → Padded b b' → Seen a' b' m padded_side low high one two → Ends a b m low high one two
  seen_all net p q s = record {
    on_one = s.on_one ∙ some_padded m net p;
    on_two = s.on_two ∙ some_padded m net q;
    first = s.first ∙ ap or_no_place (sym (least_past (holds_at a' b' m) longest_side padded_side (omega arith) out)
        ∙ least_same (holds_at a' b' m) (holds_at a b m) longest_side same);
    last = s.last ∙ sym (last_past a' b' longest_side padded_side m (omega arith) out) ∙ last_same a' b' a b m longest_side same;
  }
    where
      out : (c : ℕ) → longest_side < c → holds_at a' b' m c ≡ false
      out c l = rw (net_past m net p c l, net_past m net q c l)

      same : (c : ℕ) → In c longest_side → holds_at a' b' m c ≡ holds_at a b m c
      same c i j = net_here_lem m net p c i j || net_here_lem m net q c i j

-- ---- whether there is a place

last_none : (a b : ℕ → ℕ) (m top : ℕ) → ((c : ℕ) → In c top → holds_at a b m c ≡ false) → last_held a b top m ≡ 0
unfolding last_held
last_none a b m zero out = refl
last_none a b m (suc top) out = rw (out (suc top) (omega arith)) (last_none a b m top (λ c i. out c (omega arith)))

module _ {a b : ℕ → ℕ} {m low high : ℕ} {one two : Bool} (e : Ends a b m low high one two) where
  abbrev first : ℕ
  first = first_held a b longest_side m

  first_le : first ≤ longest_side
  first_le = least_le (holds_at a b m) longest_side

  pub a_place : low ≢ no_place → low < no_place
  a_place ne = by_cases (ℕ_discrete first 0)
      (λ z. absurd (ne (e.first ∙ ap or_no_place z)))
      (λ nz. let is : or_no_place first ≡ first = rw (ne_eqb first 0 nz) in omega (arith, e.first, is, first_le))

  pub without_place : low ≡ no_place → Ends a b m no_place 0 one two
  without_place out = by_cases (ℕ_discrete first 0)
      (λ z. record {
        on_one = e.on_one;
        on_two = e.on_two;
        first = sym out ∙ e.first;
        last = sym (last_none a b m longest_side (λ c i. least_zero (holds_at a b m) longest_side c z i));
      })
      (λ nz. let is : or_no_place first ≡ first = rw (ne_eqb first 0 nz) in absurd (omega (arith, out, e.first, is, first_le)))
