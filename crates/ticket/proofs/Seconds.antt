-- A net whose pins are not one has a second pin beside each of its pins: taking that pin out of the count leaves at least one.
use Prim.Native.Nat.{ℕ, ◌+◌, ◌≤◌}
use mathlib.Core.Path.{◌≡◌, refl, sym, ap, ◌∙◌}
use mathlib.Core.Logic.{◌≢◌}
use mathlib.Core.Bool.{Bool, true, false, not, ◌&&◌, and-true, and-false, and-eq-true_iff, false≢true}
use native.Mathlib.Decide.{dec_le}
use native.Mathlib.Omega.{arith}
use lib.Dec.{eqb}
use borrow.Author.Tests.{eqb-true, eq-eqb, ne_eqb, not-true}
use Rattle.counting.specs.Counting.{In, bit, count}
use Rattle.counting.proofs.Sums.{bit_one, bit_zero, sum_some, sum_change}
use Rattle.counting.proofs.Counts.{count_same}
use Rattle.terms.specs.Kinds.{Side, north, south, west, east}
use Rattle.grid.specs.Grid.{Node, pin, point}
use Rattle.terms.specs.Limits.{longest_side}
use Rattle.grid.specs.Legal.{Pins}
use Rattle.problem.specs.Problem.{pin_count, pin_count_on}

abbrev side_number : Side → ℕ
side_number north = 0
side_number south = 1
side_number west = 2
side_number east = 3

-- u is the pin at place a of side s
abbrev is_pin : Side → ℕ → Node → Bool
is_pin s a (pin s' b) = eqb (side_number s') (side_number s) && eqb b a
is_pin s a (point i j l) = false

clear : (x t : Bool) → (x && not (t && false)) ≡ x
clear x t = rw (and-false t) (and-true x)

-- a net's pins but the one at place a of side s
module _ (p : Pins) (m : ℕ) (s : Side) (a : ℕ) where
  abbrev other : Side → ℕ → Bool
  other s' b = eqb (p s' b) m && not (is_pin s a (pin s' b))

  others : Side → ℕ
  others s' = count (other s') longest_side

  elsewhere : (s' : Side) → eqb (side_number s') (side_number s) ≡ false → others s' ≡ pin_count_on p m s'
  unfolding others
  elsewhere s' e = count_same (other s') (λ b. eqb (p s' b) m) longest_side (λ b i. rw e (and-true (eqb (p s' b) m)))

  here : In a longest_side → p s a ≡ m → others s + 1 ≡ pin_count_on p m s
  unfolding others
  here i e =
      let same : eqb (side_number s) (side_number s) ≡ true = eq-eqb (side_number s) (side_number s) refl in
      let no : other s a ≡ false = rw (same, eq-eqb a a refl) (and-false (eqb (p s a) m)) in
      let yes : eqb (p s a) m ≡ true = eq-eqb (p s a) m e in
      let rest : (b : ℕ) → b ≢ a → bit (eqb (p s b) m) ≡ bit (other s b) = λ b n. rw (ne_eqb b a n)
      (ap bit (sym (clear (eqb (p s b) m) (eqb (side_number s) (side_number s))))) in
      omega (arith, bit_one yes, bit_zero no, sum_change (λ b. bit (eqb (p s b) m)) (λ b. bit (other s b)) a longest_side i rest)

  -- a pin of the net that is another one
  pub record Second : Type 0 where
    pub side : Side
    pub place : ℕ
    pub on : In place longest_side
    pub net : p side place ≡ m
    pub different : pin side place ≢ pin s a

  second_on : (s' : Side) → 1 ≤ others s' → Second
  unfolding others
  second_on s' h =
      let (b, i, e) = sum_some (λ b. bit (other s' b)) longest_side h in
      let both = (and-eq-true_iff (eqb (p s' b) m) (not (is_pin s a (pin s' b)))).0 (one (other s' b) e) in
      record {
        side = s';
        place = b;
        on = i;
        net = eqb-true _ _ both.0;
        different = λ q. false≢true
            (sym (not-true _ both.1) ∙ ap (is_pin s a) q ∙ itself);
      }
    where
      one : (t : Bool) → 1 ≤ bit t → t ≡ true
      one true h = refl
      one false h = absurd (omega arith)

      itself : is_pin s a (pin s a) ≡ true
      itself = rw (eq-eqb (side_number s) (side_number s) refl) (eq-eqb a a refl)

all : (p : Pins) (m : ℕ) (s : Side) (a : ℕ) → In a longest_side → p s a ≡ m
    → others p m s a north + others p m s a south + others p m s a west + others p m s a east + 1 ≡ pin_count p m
unfolding pin_count
all p m north a i e =
    omega (arith, here p m north a i e, elsewhere p m north a south refl, elsewhere p m north a west refl, elsewhere p m north a east refl)
all p m south a i e =
    omega (arith, here p m south a i e, elsewhere p m south a north refl, elsewhere p m south a west refl, elsewhere p m south a east refl)
all p m west a i e =
    omega (arith, here p m west a i e, elsewhere p m west a north refl, elsewhere p m west a south refl, elsewhere p m west a east refl)
all p m east a i e =
    omega (arith, here p m east a i e, elsewhere p m east a north refl, elsewhere p m east a south refl, elsewhere p m east a west refl)

pub second : (p : Pins) (m : ℕ) (s : Side) (a : ℕ) → In a longest_side → p s a ≡ m → pin_count p m ≢ 1 → Second p m s a
second p m s a i e n =
    let t = all p m s a i e in
    on north (λ h₁. on south (λ h₂. on west (λ h₃. on east (λ h₄. absurd (n (omega arith))))))
  where
    on : (s' : Side) → (others p m s a s' ≡ 0 → Second p m s a) → Second p m s a
    on s' f = elim (dec_le 1 (others p m s a s')) [ yes h ↦ second_on p m s a s' h | no h ↦ f (omega arith) ]
