-- A net's count of pins and the pins themselves: a pin makes it 1 or more, what is counted is there, and a good problem's nets have two or
-- more.
use Prim.Native.Nat.{ℕ, ◌+◌, ◌≤◌}
use mathlib.Core.Path.{◌≡◌, sym, ap, ap₂, ◌∙◌}
use mathlib.Core.Logic.{◌≢◌}
use mathlib.Core.Bool.{cond}
use native.Mathlib.Decide.{dec_le}
use native.Mathlib.Omega.{arith}
use lib.Dec.{eqb, leb}
use borrow.Author.Tests.{eqb-true, eq-eqb, ne_eqb, le-leb, lt-leb}
use Rattle.counting.specs.Counting.{In, bit}
use Rattle.counting.proofs.Sums.{split, bit_one, bit_zero, sum_part, sum_two, sum_some}
use Rattle.counting.proofs.Leasts.{least_none}
use Rattle.terms.specs.Kinds.{Side, north, south, west, east}
use Rattle.terms.specs.Limits.{longest_side, largest_net}
use Rattle.grid.specs.Grid.{pin}
use Rattle.grid.specs.Legal.{Pins}
use Rattle.problem.specs.declared.Problem.{Problem}
use Rattle.problem.specs.Problem.{pins_in, pin_count_on, pin_count, lone_net, shape_of, Another, Good}
use Rattle.problem.proofs.Sizes.{side_fits}

-- ---- numbers on four sides

abbrev total : (Side → ℕ) → ℕ
total f = f north + f south + f west + f east

total_part : (f : Side → ℕ) (s : Side) → f s ≤ total f
total_part f north = omega arith
total_part f south = omega arith
total_part f west = omega arith
total_part f east = omega arith

total_some : (f : Side → ℕ) → 1 ≤ total f → (s : Side) × (1 ≤ f s)
total_some f h = on north (λ h₁. on south (λ h₂. on west (λ h₃. (east, omega arith))))
  where
    on : (s : Side) → (f s ≡ 0 → (s : Side) × (1 ≤ f s)) → (s : Side) × (1 ≤ f s)
    on s g = elim (dec_le 1 (f s)) [ yes one ↦ (s, one) | no none ↦ g (omega arith) ]

-- where there is no more than 1 on all sides, this side has it
abbrev the_side : (Side → ℕ) → Side
the_side f = cond (leb 1 (f north)) north (cond (leb 1 (f south)) south (cond (leb 1 (f west)) west east))

the_side_lem : (f : Side → ℕ) (s : Side) → total f ≤ 1 → 1 ≤ f s → the_side f ≡ s
the_side_lem f north few one = rw (le-leb 1 (f north) one)
the_side_lem f south few one = rw (lt-leb 1 (f north) (omega arith), le-leb 1 (f south) one)
the_side_lem f west few one = rw (lt-leb 1 (f north) (omega arith), lt-leb 1 (f south) (omega arith), le-leb 1 (f west) one)
the_side_lem f east few one = rw (lt-leb 1 (f north) (omega arith), lt-leb 1 (f south) (omega arith), lt-leb 1 (f west) (omega arith))

-- ---- a net and its pins

module _ (p : Pins) (m : ℕ) where
  hit : (s : Side) (a : ℕ) → p s a ≡ m → bit (eqb (p s a) m) ≡ 1
  hit s a e = bit_one (eq-eqb (p s a) m e)

  one_on : (s : Side) (a : ℕ) → In a longest_side → p s a ≡ m → 1 ≤ pin_count_on p m s
  one_on s a i e = omega (arith, sum_part (λ a. bit (eqb (p s a) m)) a longest_side i, hit s a e)

  pub pinned : (s : Side) (a : ℕ) → In a longest_side → p s a ≡ m → 1 ≤ pin_count p m
  unfolding pin_count
  pinned s a i e = omega (arith, one_on s a i e, total_part (pin_count_on p m) s)

  pub a_pin : 1 ≤ pin_count p m → (s : Side) × (a : ℕ) × In a longest_side × (p s a ≡ m)
  unfolding pin_count
  a_pin h =
      let (s, some) = total_some (pin_count_on p m) h in
      let (a, i, one) = sum_some (λ a. bit (eqb (p s a) m)) longest_side some in
      (s, a, i, split (eqb (p s a) m) (eqb-true (p s a) m) (λ e. absurd (omega (arith, bit_zero e))))

  pub no_pin : ((s : Side) (a : ℕ) → p s a ≢ m) → pin_count p m ≡ 0
  no_pin ne = elim (dec_le 1 (pin_count p m)) [
    | yes some ↦ let (s, a, i, e) = a_pin some in absurd (ne s a e)
    | no none ↦ omega arith
  ]

  -- a net with one pin has no second place on a side, and no second pin at all
  same_place : (s : Side) (a b : ℕ) → pin_count_on p m s ≤ 1 → In a longest_side → In b longest_side → p s a ≡ m → p s b ≡ m → b ≤ a
  same_place s a b few i j e f = elim (dec_le b a) [
    | yes le ↦ le
    | no gt ↦ absurd (omega (arith, sum_two (λ a. bit (eqb (p s a) m)) a b longest_side i j (omega arith), hit s a e, hit s b f))
  ]

  same_pin : pin_count p m ≤ 1 → (s s' : Side) (a b : ℕ) → In a longest_side → In b longest_side → p s a ≡ m → p s' b ≡ m → pin s' b ≡ pin s a
  unfolding pin_count
  same_pin few s s' a b i j e f =
      let same : s' ≡ s = sym (the_side_lem (pin_count_on p m) s' few (one_on s' b j f)) ∙ the_side_lem (pin_count_on p m) s few (one_on s a i e) in
      let f' : p s b ≡ m = ap (λ s. p s b) (sym same) ∙ f in
      let few' : pin_count_on p m s ≤ 1 = omega (arith, total_part (pin_count_on p m) s) in
      ap₂ pin same (omega (arith, same_place s a b few' i j e f', same_place s b a few' j i f' e))

-- ---- the nets of a good problem

module _ (q : Problem) (good : Good q) where
  abbrev p : Pins
  p = pins_in q.pins

  pub two_pins : (m : ℕ) → 1 ≤ m → 1 ≤ pin_count p m → 2 ≤ pin_count p m
  two_pins m nz one = go (a_pin p m one)
    where
      go : (s : Side) × (a : ℕ) × In a longest_side × (p s a ≡ m) → 2 ≤ pin_count p m
      go (s, a, i, e) = elim (dec_le 2 (pin_count p m)) [
        | yes h ↦ h
        | no h ↦
            let o : Another (shape_of q) p s a = good.several s a (omega (arith, e)) in
            let j : In o.place longest_side = omega (arith, o.on, side_fits good o.side) in
            absurd (o.different (same_pin p m (omega arith) s o.side a o.place i j e (o.net ∙ e)))
      ]

  pub none_lone : lone_net p ≡ 0
  none_lone =
      least_none (λ m. eqb (pin_count p m) 1) largest_net
      (λ m i. ne_eqb (pin_count p m) 1 (λ e. omega (arith, two_pins m i.0 (omega arith))))
