-- A list of the ticket's four sides, one after the other, is a list of the grid's pins: what stands past a side's end is empty.
use Prim.Native.Nat.{ℕ, zero, suc, ◌+◌, ◌-◌, ◌≤◌, ◌<◌}
use mathlib.Core.Bool.{false}
use mathlib.Core.Path.{◌≡◌, refl, sym, ap, ◌∙◌}
use mathlib.Core.Logic.{◌⊎◌, inl, inr, ◌≢◌, ⊎_elim}
use mathlib.Core.List.{List}
use native.Mathlib.Omega.{arith}
use native.Mathlib.Decide.{dec_lt, dec_le}
use lib.ListN.{get_or-eq_default}
use Rattle.counting.specs.Counting.{In}
use Rattle.terms.specs.Kinds.{Side, north, south, west, east, box, has_side}
use Rattle.terms.specs.Limits.{largest_net, longest_side, widest_grid}
use Rattle.terms.proofs.Laws.{Known, is_row, is_channel, is_box, is_two_layer, known, of_box}
use Rattle.grid.specs.Grid.{Grid, places}
use Rattle.grid.specs.Legal.{entry}
use Rattle.problem.specs.Problem.{pins_in, Good, shape_of}
use Rattle.problem.specs.declared.Problem.{Problem}
use Rattle.problem.proofs.Sizes.{width_in}
use Rattle.check_link.specs.Marks.{at}
use Rattle.check_sweep.specs.Pins.{pin_at, pin_places, south_start, west_start, east_start}
use Rattle.check_scan.specs.Scan.{PinList}
use Rattle.checker.specs.Marking.{PinsListed}

entry_at : (l : List ℕ) (a : ℕ) → 1 ≤ a → entry l a ≡ at l (a - 1)
entry_at l zero h = absurd (omega arith)
entry_at l (suc a) h = ap (at l) (omega arith)

-- the places that the list has for a side
abbrev room : Side → ℕ
room north = longest_side
room south = longest_side
room west = widest_grid
room east = widest_grid

-- each place of the list is a place of a side
side_of_lem : (b : ℕ) → b < pin_places → (s : Side) × (a : ℕ) × (1 ≤ a) × (a ≤ room s) × (pin_at s a ≡ b)
side_of_lem b h =
    elim (dec_lt b south_start) [
      | yes l ↦ (north, b + 1, omega arith, omega arith, omega arith)
      | no l ↦ elim (dec_lt b west_start) [
        | yes m ↦ (south, b - south_start + 1, omega arith, omega arith, omega arith)
        | no m ↦ elim (dec_lt b east_start) [
          | yes o ↦ (west, b - west_start + 1, omega arith, omega arith, omega arith)
          | no o ↦ (east, b - east_start + 1, omega arith, omega arith, omega arith)
        ]
      ]
    ]

module _ (q : Problem) (good : Good q) (list : List ℕ) (l : PinList q.pins list) where
  there : (s : Side) (a : ℕ) → 1 ≤ a → a ≤ room s → pins_in q.pins s a ≡ at list (pin_at s a)
  there north a h i = entry_at q.pins.north a h ∙ sym (l.north (a - 1) (omega arith))
  there south a h i = entry_at q.pins.south a h ∙ sym (l.south (a - 1) (omega arith))
  there west a h i = elim (dec_le a longest_side) [
    | yes o ↦ entry_at q.pins.west a h ∙ sym (l.west (a - 1) (omega arith))
    | no o ↦ good.ends west a (omega (arith, width_in good)) ∙ sym (l.west_past (a - 1) (omega arith) (omega arith))
  ]
  there east a h i = elim (dec_le a longest_side) [
    | yes o ↦ entry_at q.pins.east a h ∙ sym (l.east (a - 1) (omega arith))
    | no o ↦ good.ends east a (omega (arith, width_in good)) ∙ sym (l.east_past (a - 1) (omega arith) (omega arith))
  ]

  past : (b : ℕ) → pin_places ≤ b → at list b ≡ 0
  past b h = get_or-eq_default list 0 (omega (arith, l.size))

  small : (b : ℕ) → at list b ≤ largest_net
  small b =
      elim (dec_lt b pin_places) [
        | yes h ↦ let (s, a, i, j, e) = side_of_lem b h in omega (arith, there s a i j, good.numbered s a, ap (at list) e)
        | no h ↦ omega (arith, past b (omega arith))
      ]

  module _ (g : Grid) (n : g.n ≡ q.n.0) (tracks : In g.w widest_grid) (own : q.kind ≡ box → g.w ≡ q.byte2) where
    ends : (s : Side) → places g s ≡ places (shape_of q) s → (a : ℕ) → 1 ≤ a → pins_in q.pins s a ≢ 0 → In a (places g s)
    ends s e a h ne = elim (dec_le a (places g s)) [ yes i ↦ (h, i) | no i ↦ absurd (ne (good.ends s a (omega arith))) ]

    -- west and east have the box's own places, and are bare in a row, a channel and a two-layer channel
    upper : {k : ℕ} (s : Side) → Known k → q.kind ≡ k → (has_side q.kind s ≡ false) ⊎ (places g s ≡ places (shape_of q) s)
    upper north k e = inr n
    upper south k e = inr n
    upper west is_row e = inl (ap (λ (k : ℕ). has_side k west) e)
    upper east is_row e = inl (ap (λ (k : ℕ). has_side k east) e)
    upper west is_channel e = inl (ap (λ (k : ℕ). has_side k west) e)
    upper east is_channel e = inl (ap (λ (k : ℕ). has_side k east) e)
    upper west is_two_layer e = inl (ap (λ (k : ℕ). has_side k west) e)
    upper east is_two_layer e = inl (ap (λ (k : ℕ). has_side k east) e)
    upper west is_box e = inr (own e ∙ sym (of_box q.kind 1 1 1 q.byte2 1 e))
    upper east is_box e = inr (own e ∙ sym (of_box q.kind 1 1 1 q.byte2 1 e))

    in_side : (s : Side) (a : ℕ) → 1 ≤ a → pins_in q.pins s a ≢ 0 → In a (places g s)
    in_side s a h ne = ⊎_elim (λ b. absurd (ne (good.bare s b a))) (λ e. ends s e a h ne) (upper s (known q.kind good.kind) refl)

    bound : (s : Side) → places g s ≤ room s
    bound north = omega (arith, n, good.columns)
    bound south = omega (arith, n, good.columns)
    bound west = tracks.1
    bound east = tracks.1

    pub listed : PinsListed g (pins_in q.pins) list
    listed =
        record {
          long = omega (arith, n, good.columns);
          wide = tracks;
          there = λ s a i. there s a i.0 (omega (arith, i.1, bound s));
          back = back;
          small = small;
        }
      where
        back : (b : ℕ) → at list b ≢ 0 → (s : Side) × (a : ℕ) × In a (places g s) × (pin_at s a ≡ b)
        back b ne =
            elim (dec_lt b pin_places) [
              | yes h ↦ let (s, a, i, j, e) = side_of_lem b h in (s, a, in_side s a i (λ z. ne (sym (ap (at list) e) ∙ sym (there s a i j) ∙ z)), e)
              | no h ↦ absurd (ne (past b (omega arith)))
            ]
