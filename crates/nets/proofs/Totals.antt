-- The table's counts are those of all pins, and together they count each pin once.
use Prim.Native.Nat.{ℕ, ◌+◌, ◌≤◌, ◌<◌}
use mathlib.Core.Path.{◌≡◌, refl, sym, ◌∙◌}
use mathlib.Core.Logic.{by_cases}
use native.Mathlib.Omega.{arith}
use native.Mathlib.Decide.{ℕ_discrete}
use lib.Dec.{eqb, leb}
use borrow.Author.Tests.{eq-eqb, ne_eqb, eqb-true, le-leb, lt-leb}
use Rattle.counting.specs.Counting.{In, bit, sum, count}
use Rattle.counting.proofs.Sums.{bit_one, bit_zero, sum_same, sum_add, sum_zero, sum_past, sum_swap}
use Rattle.counting.proofs.Tests.{count_once}
use Rattle.terms.specs.Limits.{longest_side, largest_net}
use Rattle.terms.specs.Kinds.{Side, north, south, west, east}
use Rattle.grid.specs.Grid.{Grid, places}
use Rattle.grid.specs.Legal.{Pins}
use Rattle.problem.specs.declared.Problem.{Problem}
use Rattle.problem.specs.Problem.{pins_in, pin_count_on, pin_count, filled_on, filled, width_of, shape_of}
use Rattle.nets.specs.declared.Spans.{Spans}
use Rattle.nets.specs.Tables.{pin_count_to, SpansOf, pin_sum}

-- the places past a side's end are empty
pub count_whole : (g : Grid) (p : Pins) (s : Side) → places g s ≤ longest_side → ((a : ℕ) → places g s < a → p s a ≡ 0)
    → (m : ℕ) → 1 ≤ m → pin_count_to (p s) (places g s) m ≡ pin_count_on p m s
count_whole g p s le ends m one = sum_past (λ a. bit (eqb (p s a) m)) (places g s) longest_side le
    (λ a past. bit_zero (ne_eqb (p s a) m (λ q. omega (arith, ends a past))))

-- ---- each pin is one net's

once : (v : ℕ) → v ≤ largest_net → count (λ m. eqb v m) largest_net ≡ bit (leb 1 v)
once v small = by_cases (ℕ_discrete v 0)
    (λ z. sum_zero (λ m. bit (eqb v m)) largest_net (λ m i. bit_zero (ne_eqb v m (λ q. omega arith))) ∙ sym (bit_zero (lt-leb 1 v (omega arith))))
    (λ nz. count_once (λ m. eqb v m) largest_net v (omega (arith, nz)) (eq-eqb v v refl) (λ b e. sym (eqb-true v b e))
    ∙ sym (bit_one (le-leb 1 v (omega (arith, nz)))))

module _ (p : Pins) (numbered : (s : Side) (a : ℕ) → p s a ≤ largest_net) where
  side_summed : (s : Side) → sum (λ m. pin_count_on p m s) largest_net ≡ filled_on p s
  side_summed s = sum_swap (λ m a. bit (eqb (p s a) m)) largest_net longest_side
      ∙ sum_same (λ a. count (λ m. eqb (p s a) m) largest_net) (λ a. bit (leb 1 (p s a))) longest_side (λ a i. once (p s a) (numbered s a))

  pub pins_summed : sum (pin_count p) largest_net ≡ filled p
  unfolding pin_count filled
  pins_summed = omega (
    arith,
    sum_add (λ m. pin_count_on p m north + pin_count_on p m south + pin_count_on p m west) (λ m. pin_count_on p m east) largest_net,
    sum_add (λ m. pin_count_on p m north + pin_count_on p m south) (λ m. pin_count_on p m west) largest_net,
    sum_add (λ m. pin_count_on p m north) (λ m. pin_count_on p m south) largest_net,
    side_summed north,
    side_summed south,
    side_summed west,
    side_summed east,
  )

-- ---- the table's counts

module _ (q : Problem) (t : Spans) (long : q.n.0 ≤ longest_side) (narrow : width_of q ≤ longest_side)
    (ends : (s : Side) (a : ℕ) → places (shape_of q) s < a → pins_in q.pins s a ≡ 0) (is : SpansOf q t) where
  pub counts_are : (m : ℕ) → In m largest_net
      → pin_sum t.columns.one t.columns.two t.tracks.one t.tracks.two m ≡ pin_count (pins_in q.pins) m
  unfolding pin_count
  counts_are m i = omega (
    arith,
    is.columns.one.is m i,
    is.columns.two.is m i,
    is.tracks.one.is m i,
    is.tracks.two.is m i,
    count_whole (shape_of q) (pins_in q.pins) north long (ends north) m i.0,
    count_whole (shape_of q) (pins_in q.pins) south long (ends south) m i.0,
    count_whole (shape_of q) (pins_in q.pins) west narrow (ends west) m i.0,
    count_whole (shape_of q) (pins_in q.pins) east narrow (ends east) m i.0,
  )

  pub total_filled : ((s : Side) (a : ℕ) → pins_in q.pins s a ≤ largest_net)
      → sum (pin_sum t.columns.one t.columns.two t.tracks.one t.tracks.two) largest_net ≡ filled (pins_in q.pins)
  total_filled numbered = sum_same _ _ largest_net counts_are ∙ pins_summed (pins_in q.pins) numbered
