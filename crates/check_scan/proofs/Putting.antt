-- The four sides of a ticket, put one after the other into one list.
use Prim.Native.Nat.{ℕ, ◌+◌, ◌≤◌}
use mathlib.Core.Path.{◌≡◌, ap, ◌∙◌}
use mathlib.Core.Logic.{inl, inr}
use mathlib.Core.List.{List}
use native.Mathlib.Omega.{arith}
use lib.ListN.{length}
use Rattle.terms.specs.Limits.{longest_side}
use Rattle.problem.specs.declared.Pins.{Pins as TicketPins}
use Rattle.check_link.specs.Marks.{at}
use Rattle.check_sweep.specs.Pins.{pin_places, south_start, west_start, east_start}
use Rattle.check_scan.specs.Scan.{PinList, Put}

pub pin_list : (pins : TicketPins) (l₀ l₁ l₂ l₃ r : List ℕ) → length l₀ ≡ pin_places → ((b : ℕ) → at l₀ b ≡ 0)
    → Put l₀ pins.north l₁ 0 → Put l₁ pins.south l₂ south_start
    → Put l₂ pins.west l₃ west_start → Put l₃ pins.east r east_start → PinList pins r
pin_list pins l₀ l₁ l₂ l₃ r e blank a b c d =
    record {
      size = omega (arith, a.size, b.size, c.size, d.size);
      north = λ i h. d.outside i (inl (omega arith)) ∙ c.outside i (inl (omega arith)) ∙ b.outside i (inl (omega arith)) ∙ ap (at l₁) (omega arith)
          ∙ a.inside i h;
      south = λ i h. d.outside (south_start + i) (inl (omega arith)) ∙ c.outside (south_start + i) (inl (omega arith)) ∙ b.inside i h;
      west = λ i h. d.outside (west_start + i) (inl (omega arith)) ∙ c.inside i h;
      east = d.inside;
      west_past = λ i h k. d.outside (west_start + i) (inl (omega arith)) ∙ below (west_start + i) (omega arith);
      east_past = λ i h k. d.outside (east_start + i) (inr (omega arith)) ∙ below (east_start + i) (omega arith);
    }
  where
    -- past the west side's own places nothing was put before the east side
    below : (i : ℕ) → west_start + longest_side ≤ i → at l₃ i ≡ 0
    below i h = c.outside i (inr h) ∙ b.outside i (inr (omega arith)) ∙ a.outside i (inr (omega arith)) ∙ blank i
