-- What a column or a track must pass is a sum over the nets, and a net's term depends on its own pins alone: so pins with one net more give
-- that net's term more.
use Prim.Native.Nat.{ℕ, ◌+◌}
use mathlib.Core.Path.{◌≡◌, refl, ap, ap₂, ◌∙◌}
use mathlib.Core.Bool.{Bool, false, ◌&&◌, ◌||◌, and-false}
use lib.Dec.{eqb}
use borrow.Author.Tests.{ne_eqb}
use Rattle.counting.specs.Counting.{In, bit}
use Rattle.counting.proofs.Counts.{some_none}
use Rattle.counting.proofs.Tests.{some_same}
use Rattle.terms.specs.Kinds.{Side, north, south, west, east}
use Rattle.terms.specs.Limits.{largest_net}
use Rattle.grid.specs.Grid.{Grid, Node, pin, places}
use Rattle.grid.specs.Legal.{Pins, nets}
use Rattle.density.specs.Density.{pin_on, has_pin, passes_at, has_pin_on, all_on, box_passes_at}
use Rattle.board_law.proofs.Gains.{Gains, one_more, not_without, place_stays}

-- a test of a net that depends on the net's own pins alone, and fails where it has none
pub record Own (g : Grid) (t : Pins → ℕ → Bool) : Type 0 where
  pub same : (p p' : Pins) (k : ℕ) → ((s : Side) (a : ℕ) → In a (places g s) → eqb (p s a) k ≡ eqb (p' s a) k) → t p k ≡ t p' k
  pub none : (p : Pins) (k : ℕ) → ((s : Side) (a : ℕ) → In a (places g s) → eqb (p s a) k ≡ false) → t p k ≡ false

module _ {g : Grid} {t u : Pins → ℕ → Bool} (x : Own g t) (y : Own g u) where
  own_and : Own g (λ p k. t p k && u p k)
  own_and = record { same = λ p p' k e. ap₂ ◌&&◌ (x.same p p' k e) (y.same p p' k e); none = λ p k e. rw (x.none p k e) }

  own_or : Own g (λ p k. t p k || u p k)
  own_or = record { same = λ p p' k e. ap₂ ◌||◌ (x.same p p' k e) (y.same p p' k e); none = λ p k e. rw (x.none p k e) (y.none p k e) }

own_if : {g : Grid} {t : Pins → ℕ → Bool} (b : Bool) → Own g t → Own g (λ p k. b && t p k)
own_if b x =
    record { same = λ p p' k e. ap (λ v. b && v) (x.same p p' k e); none = λ p k e. ap (λ v. b && v) (x.none p k e) ∙ and-false b }

module _ (g : Grid) (along : Node → ℕ) where
  own_pin_on : (t : ℕ → Bool) (s : Side) → Own g (λ p k. pin_on g p along k t s)
  unfolding pin_on
  own_pin_on t s =
      record {
        same = λ p p' k e. some_same _ _ (places g s) (λ a i. ap (λ v. v && t (along (pin s a))) (e s a i));
        none = λ p k e. some_none _ (places g s) (λ a i. ap (λ v. v && t (along (pin s a))) (e s a i));
      }

  own_has_pin : (t : ℕ → Bool) → Own g (λ p k. has_pin g p along k t)
  unfolding has_pin
  own_has_pin t = own_or (own_or (own_or (own_pin_on t north) (own_pin_on t south)) (own_pin_on t west)) (own_pin_on t east)

  pub own_passes : (c : ℕ) → Own g (λ p k. passes_at g p along c k)
  unfolding passes_at
  own_passes c = own_and (own_and (own_has_pin _) (own_has_pin _)) (own_has_pin _)

  own_all_on : (s : Side) → Own g (λ p k. all_on g p k s)
  unfolding all_on
  own_all_on s =
      record {
        same = λ p p' k e.
            let on : (x : Side) → has_pin_on g p k x ≡ has_pin_on g p' k x = λ x. some_same _ _ (places g x) (e x) in
            rw (on north, on south, on west, on east, on s) refl;
        none = λ p k e. rw (some_none (λ a. eqb (p s a) k) (places g s) (e s)) refl;
      }

  pub own_box_passes : (near far : Side) (last c : ℕ) → Own g (λ p k. box_passes_at g p along near far last c k)
  unfolding box_passes_at
  own_box_passes near far last c =
      own_or (own_or (own_passes c) (own_if (eqb c 1) (own_all_on near))) (own_if (eqb c last) (own_all_on far))

pub one_term_more : {m : ℕ} {p p' : Pins} {g : Grid} {t : Pins → ℕ → Bool} → In m largest_net
    → ((s : Side) (a : ℕ) → Gains m (p s a) (p' s a)) → Own g t → nets (t p') ≡ nets (t p) + bit (t p' m)
one_term_more {m} {p} {p'} {t = t} i gains own =
    one_more (t p) (t p') m largest_net i
    (own.none p m (λ s a j. ne_eqb (p s a) m (not_without i gains s a)))
    (λ k j ne. own.same p p' k (λ s a _. place_stays i gains k j.0 ne s a))
