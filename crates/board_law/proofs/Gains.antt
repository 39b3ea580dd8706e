-- Pins without a net and with it: a place holds the same in both, or it is empty in the one and holds the net in the other. So the other
-- nets have the same pins in both, there is one net more, and either pins make a good problem where the others do.
use Prim.Native.Nat.{ℕ, ◌+◌, ◌-◌, ◌≤◌}
use mathlib.Core.Path.{◌≡◌, refl, sym, ap, ◌∙◌}
use mathlib.Core.Logic.{◌≢◌, by_cases}
use mathlib.Core.Bool.{Bool, true, false, cond, true≢false}
use native.Mathlib.Decide.{ℕ_discrete}
use native.Mathlib.Omega.{arith}
use lib.Dec.{eqb, leb}
use borrow.Author.Tests.{eq-eqb, ne_eqb, le-leb, lt-leb}
use Rattle.counting.specs.Counting.{In, bit, count}
use Rattle.counting.proofs.Sums.{bit_zero, sum_change}
use Rattle.counting.proofs.Counts.{count_same}
use Rattle.terms.specs.Limits.{longest_side, largest_net}
use Rattle.terms.specs.Kinds.{Side, north, south, west, east, has_side}
use Rattle.grid.specs.Grid.{Grid, places}
use Rattle.grid.specs.Legal.{Pins}
use Rattle.problem.specs.declared.Pins.{Pins as PinLists}
use Rattle.problem.specs.declared.Problem.{Problem}
use Rattle.problem.specs.Problem.{pins_in, pin_count_on, pin_count, net_count, shape_of, Another, Good}
use Rattle.problem.proofs.Pinned.{no_pin}

-- what a place holds without net m, and with it
pub data Gains (m without with : ℕ) : Type 0 where
  stays : without ≡ with → without ≢ m → Gains m without with
  fills : without ≡ 0 → with ≡ m → Gains m without with

-- ---- the number of nets

-- two tests that differ at c alone, where the one fails
pub one_more : (t u : ℕ → Bool) (c top : ℕ) → In c top → t c ≡ false → ((a : ℕ) → In a top → a ≢ c → t a ≡ u a)
    → count u top ≡ count t top + bit (u c)
one_more t u c top i fails same =
    let at_c : bit (cond (eqb c c) (u c) (t c)) ≡ bit (u c) = rw (eq-eqb c c refl) in
    omega (
      arith,
      bit_zero fails,
      sum_change (λ a. bit (t a)) (λ a. bit (cond (eqb a c) (u c) (t a))) c top i (λ a ne. rw (ne_eqb a c ne)),
      count_same (λ a. cond (eqb a c) (u c) (t a)) u top each,
    )
  where
    each : (a : ℕ) → In a top → cond (eqb a c) (u c) (t a) ≡ u a
    each a j = by_cases (ℕ_discrete a c) (λ e. rw (eq-eqb a c e) (ap u (sym e))) (λ ne. rw (ne_eqb a c ne) (same a j ne))

module _ {m : ℕ} {p p' : Pins} (i : In m largest_net) (gains : (s : Side) (a : ℕ) → Gains m (p s a) (p' s a)) where
  pub not_without : (s : Side) (a : ℕ) → p s a ≢ m
  not_without s a e = elim (gains s a) [ stays same ne ↦ ne e | fills z new ↦ omega arith ]

  none_without : pin_count p m ≡ 0
  none_without = no_pin p m not_without

  pub place_stays : (k : ℕ) → 1 ≤ k → k ≢ m → (s : Side) (a : ℕ) → eqb (p s a) k ≡ eqb (p' s a) k
  place_stays k one ne s a = elim (gains s a) [
    | stays same other ↦ ap (λ (v : ℕ). eqb v k) same
    | fills z new ↦ ne_eqb (p s a) k (omega arith) ∙ sym (ne_eqb (p' s a) k (omega arith))
  ]

  others_stay : (k : ℕ) → 1 ≤ k → k ≢ m → pin_count p k ≡ pin_count p' k
  unfolding pin_count
  others_stay k one ne = omega (arith, on north, on south, on west, on east)
    where
      on : (s : Side) → pin_count_on p k s ≡ pin_count_on p' k s
      on s = count_same (λ a. eqb (p s a) k) (λ a. eqb (p' s a) k) longest_side (λ a j. place_stays k one ne s a)

  one_net_more : 1 ≤ pin_count p' m → net_count p' ≡ net_count p + 1
  one_net_more some =
      one_more (λ k. leb 1 (pin_count p k)) (λ k. leb 1 (pin_count p' k)) m largest_net i
      (lt-leb 1 (pin_count p m) (omega (arith, none_without))) (λ k j ne. ap (leb 1) (others_stay k j.0 ne))
      ∙ ap (λ b. net_count p + bit b) (le-leb 1 (pin_count p' m) some)

-- ---- good problems

-- a place of the board, on a side that its kind has, and it is empty
pub record Vacant (q : Problem) (s : Side) (a : ℕ) : Type 0 where
  pub side : has_side q.kind s ≡ true
  pub on : In a (places (shape_of q) s)
  pub empty : pins_in q.pins s a ≡ 0

abbrev pub with_pins : Problem → ℕ → PinLists → Problem
with_pins q k ps = record { kind = q.kind; n = q.n; byte2 = q.byte2; nets = k; pins = ps }

-- two pins of a net are two pins of it in other pins that keep its places
still : {g : Grid} {p p' : Pins} {s : Side} {a : ℕ} → p' s a ≡ p s a → ((t : Side) (b : ℕ) → p t b ≡ p s a → p' t b ≡ p t b)
    → Another g p s a → Another g p' s a
still same kept o =
    record {
      side = o.side;
      place = o.place;
      on = o.on;
      net = kept o.side o.place o.net ∙ o.net ∙ sym same;
      different = o.different;
    }

module _ {q : Problem} {m : ℕ} {ps : PinLists} (good : Good q) (i : In m largest_net) where
  -- the net's places were vacant, and it has two
  pub with_good : ((s : Side) (a : ℕ) → Gains m (pins_in q.pins s a) (pins_in ps s a))
      → ((s : Side) (a : ℕ) → pins_in ps s a ≡ m → Vacant q s a)
      → ((s : Side) (a : ℕ) → pins_in ps s a ≡ m → Another (shape_of q) (pins_in ps) s a)
      → 1 ≤ pin_count (pins_in ps) m → Good (with_pins q (q.nets + 1) ps)
  with_good gains vacant second some =
      record {
        kind = good.kind;
        columns = good.columns;
        byte2 = good.byte2;
        numbered = λ s a. elim (gains s a) [ stays e ne ↦ omega (arith, good.numbered s a) | fills z e ↦ omega arith ];
        ends = λ s a h. elim (gains s a) [
          | stays e ne ↦ sym e ∙ good.ends s a h
          | fills z e ↦ absurd (omega (arith, (vacant s a e).on))
        ];
        bare = λ s lacks a. elim (gains s a) [
          | stays e ne ↦ sym e ∙ good.bare s lacks a
          | fills z e ↦ absurd (true≢false (sym (vacant s a e).side ∙ lacks))
        ];
        several = λ s a nz. elim (gains s a) [
          | stays e ne ↦ still (sym e) (λ t b same. elim (gains t b) [ stays e' ne' ↦ sym e' | fills z e' ↦ absurd (nz (omega arith)) ])
              (good.several s a (λ z. nz (omega arith)))
          | fills z e ↦ second s a e
        ];
        nets = omega (arith, good.nets, one_net_more i gains some);
      }

  pub without_good : ((s : Side) (a : ℕ) → Gains m (pins_in ps s a) (pins_in q.pins s a)) → 1 ≤ pin_count (pins_in q.pins) m
      → Good (with_pins q (q.nets - 1) ps)
  without_good gains some =
      record {
        kind = good.kind;
        columns = good.columns;
        byte2 = good.byte2;
        numbered = λ s a. elim (gains s a) [ stays e ne ↦ omega (arith, good.numbered s a) | fills z e ↦ omega arith ];
        ends = λ s a h. elim (gains s a) [ stays e ne ↦ e ∙ good.ends s a h | fills z e ↦ z ];
        bare = λ s lacks a. elim (gains s a) [ stays e ne ↦ e ∙ good.bare s lacks a | fills z e ↦ z ];
        several = λ s a nz. elim (gains s a) [
          | stays e ne ↦ still e (λ t b same. elim (gains t b) [ stays e' ne' ↦ e' | fills z e' ↦ absurd (ne (omega arith)) ])
              (good.several s a (λ z. nz (omega arith)))
          | fills z e ↦ absurd (nz z)
        ];
        nets = omega (arith, good.nets, one_net_more i gains some);
      }
