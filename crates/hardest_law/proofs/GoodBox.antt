-- The written box is a problem as a ticket states one, with every place filled: each of its n + w nets has two pins, since the rotation
-- reaches every place of a side.
use Prim.Native.Nat.{ℕ, zero, suc, ◌+◌, ◌-◌, ◌≤◌}
use mathlib.Core.Path.{◌≡◌, refl, sym, ap, ◌∙◌}
use mathlib.Core.Logic.{◌≢◌, by_cases}
use mathlib.Core.Bool.{false, true≢false}
use native.Mathlib.Omega.{arith}
use native.Mathlib.Decide.{ℕ_discrete, dec_le}
use lib.Dec.{leb}
use borrow.Author.Tests.{ne_eqb, le-leb, lt-leb}
use Rattle.counting.specs.Counting.{In, bit}
use Rattle.counting.proofs.Sums.{bit_zero, sum_past}
use Rattle.counting.proofs.Counts.{count_same}
use Rattle.counting.proofs.Tests.{count_all}
use Rattle.terms.specs.Limits.{longest_side, largest_net}
use Rattle.terms.specs.Kinds.{Side, north, south, west, east, box, has_side}
use Rattle.grid.specs.Grid.{Grid, pin, places, column_of, track_of, upright}
use Rattle.problem.specs.Problem.{pins_in, pin_count, net_count, shape_of, Another, Good}
use Rattle.problem.proofs.Pinned.{pinned, no_pin}
use Rattle.ticket_bytes.specs.Bytes.{Sized}
use Rattle.hardest_law.specs.Box.{net_at, rotated, hardest_box}
use Rattle.ticket.proofs.Filled.{length_side}
use Rattle.hardest_law.proofs.Lists.{box_pins, net_past, net_at_lem}
use Rattle.hardest_law.proofs.Rotation.{rotated_in, opposite}

pub hardest_sized : (n w : ℕ) → Sized (hardest_box n w)
hardest_sized n w = record { north = length_side _ _; south = length_side _ _; west = length_side _ _; east = length_side _ _ }

module _ (n w : ℕ) where
  abbrev g : Grid
  g = upright n w 1

  later_south : (a : ℕ) → a ≢ 1 → net_at n w south a ≡ rotated n a
  later_south a ne = rw (ne_eqb a 1 ne)

  later_west : (a : ℕ) → a ≢ 1 → net_at n w west a ≡ n + a
  later_west a ne = rw (ne_eqb a 1 ne)

  -- a place that holds a pin is one of the side's
  on_side : (s : Side) (a : ℕ) → box_pins n w s a ≢ 0 → In a (places g s)
  on_side s zero nz = absurd (nz (none s))
    where
      none : (s : Side) → box_pins n w s 0 ≡ 0
      none north = refl
      none south = refl
      none west = refl
      none east = refl
  on_side s (suc a) nz = elim (dec_le (suc a) (places g s)) [
    | yes le ↦ (omega arith, le)
    | no gt ↦ absurd (nz (net_past n w s (suc a) (omega arith)))
  ]

  module _ (long : In n longest_side) (broad : In w longest_side) where
    here : (s : Side) (a : ℕ) → In a (places g s) → box_pins n w s a ≡ net_at n w s a
    here = net_at_lem n w long.1 broad.1

    -- ---- each place holds one of the nets 1 to n + w

    net_in : (s : Side) (a : ℕ) → In a (places g s) → In (net_at n w s a) (n + w)
    net_in north a i = omega arith
    net_in south a i = by_cases (ℕ_discrete a 1)
        (λ e. omega (arith, ap (net_at n w south) e))
        (λ ne. omega (arith, later_south a ne, rotated_in n a i))
    net_in west a i = by_cases (ℕ_discrete a 1)
        (λ e. omega (arith, ap (net_at n w west) e, rotated_in n 1 (omega arith)))
        (λ ne. omega (arith, later_west a ne))
    net_in east a i = omega (arith, rotated_in w a i)

    net_most : (s : Side) (a : ℕ) → box_pins n w s a ≤ n + w
    net_most s a = by_cases (ℕ_discrete (box_pins n w s a) 0)
        (λ z. omega arith)
        (λ nz. let i = on_side s a nz in omega (arith, net_in s a i, here s a i))

    pub hardest_full : (s : Side) (a : ℕ) → In a (places (shape_of (hardest_box n w)) s) → pins_in (hardest_box n w).pins s a ≢ 0
    hardest_full s a i z = omega (arith, net_in s a i, here s a i)

    -- ---- each net has two pins

    -- pins of one net on two sides
    pair : (s t : Side) (a b : ℕ) → In a (places g s) → In b (places g t) → net_at n w t b ≡ net_at n w s a
        → (column_of g (pin t b) ≡ column_of g (pin s a) → track_of g (pin t b) ≢ track_of g (pin s a))
        → Another g (box_pins n w) s a
    pair s t a b i j e apart =
        record {
          side = t;
          place = b;
          on = j;
          net = here t b j ∙ e ∙ sym (here s a i);
          different = λ q. apart (ap (column_of g) q) (ap (track_of g) q);
        }

    two : (s : Side) (a : ℕ) → In a (places g s) → Another g (box_pins n w) s a
    two north a i = by_cases (ℕ_discrete (rotated n 1) a)
        (λ e. pair north west a 1 i (omega arith) e (λ c t. omega arith))
        (λ ne. let b = opposite n a i in
        let later = later_south b.place (λ q. ne (ap (rotated n) (sym q) ∙ b.moved)) in
        pair north south a b.place i b.on (later ∙ b.moved) (λ c t. omega arith))
    two south a i = by_cases (ℕ_discrete a 1)
        (λ e. let b = opposite w 1 (omega arith) in
        pair south east a b.place i b.on (omega (arith, b.moved, ap (net_at n w south) e)) (λ c t. omega arith))
        (λ ne. pair south north a (rotated n a) i (rotated_in n a i) (sym (later_south a ne)) (λ c t. omega arith))
    two west a i = by_cases (ℕ_discrete a 1)
        (λ e. let j = rotated_in n 1 (omega arith) in
        pair west north a (rotated n 1) i j (sym (ap (net_at n w west) e)) (λ c t. omega arith))
        (λ ne. let b = opposite w a i in
        pair west east a b.place i b.on (omega (arith, b.moved, later_west a ne)) (λ c t. omega arith))
    two east a i = by_cases (ℕ_discrete (rotated w a) 1)
        (λ e. pair east south a 1 i (omega arith) (omega arith) (λ c t. omega arith))
        (λ ne. pair east west a (rotated w a) i (rotated_in w a i) (later_west (rotated w a) ne) (λ c t. omega arith))

    -- ---- the nets are 1 to n + w

    held : (m : ℕ) → In m (n + w) → 1 ≤ pin_count (box_pins n w) m
    held m i = elim (dec_le m n) [
      | yes le ↦ pinned (box_pins n w) m north m (omega arith) (here north m (omega arith))
      | no gt ↦ by_cases (ℕ_discrete m (n + 1))
          (λ e. pinned (box_pins n w) m south 1 (omega arith) (here south 1 (omega arith) ∙ sym e))
          (λ ne. pinned (box_pins n w) m west (m - n) (omega arith)
          (omega (arith, here west (m - n) (omega arith), later_west (m - n) (λ q. ne (omega arith)))))
    ]

    counted : (m : ℕ) → 1 ≤ m → leb 1 (pin_count (box_pins n w) m) ≡ leb m (n + w)
    counted m one = elim (dec_le m (n + w)) [
      | yes le ↦ le-leb 1 _ (held m (one, le)) ∙ sym (le-leb m (n + w) le)
      | no gt ↦ let none = no_pin (box_pins n w) m (λ s a q. omega (arith, net_most s a)) in rw none (sym (lt-leb m (n + w) (omega arith)))
    ]

    hardest_nets : net_count (pins_in (hardest_box n w).pins) ≡ n + w
    hardest_nets =
        count_same _ _ largest_net (λ m i. counted m i.0)
        ∙ sym (sum_past (λ m. bit (leb m (n + w))) (n + w) largest_net (omega arith) (λ m past. bit_zero (lt-leb m (n + w) past)))
        ∙ count_all (λ m. leb m (n + w)) (n + w) (λ m i. le-leb m (n + w) i.1)

    pub hardest_good : Good (hardest_box n w)
    hardest_good =
        record {
          kind = refl;
          columns = long;
          byte2 = broad;
          numbered = λ s a. omega (arith, net_most s a);
          ends = net_past n w;
          bare = all_sides;
          several = λ s a nz. two s a (on_side s a nz);
          nets = sym hardest_nets;
        }
      where
        all_sides : (s : Side) → has_side box s ≡ false → (a : ℕ) → box_pins n w s a ≡ 0
        all_sides north e = absurd (true≢false e)
        all_sides south e = absurd (true≢false e)
        all_sides west e = absurd (true≢false e)
        all_sides east e = absurd (true≢false e)
