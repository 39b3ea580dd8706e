-- Figures of document 01's own tickets, computed from the definitions: they bound the counts from both sides.
use mathlib.Core.Path.{◌≡◌, refl}
use mathlib.Core.List.{[], ◌∷◌}
use Rattle.counting.specs.Counting.{sum, some, most, ceil}
use Rattle.grid.specs.Grid.{upright}
use Rattle.grid.specs.Legal.{Pins, pins_of}
use Rattle.grid.specs.Motion.{turn, moved_pins}
use Rattle.density.specs.Density.{pin_on, has_pin, passes_at, across, all_on, box_passes_at, box_across, up, tracks_for, floor, floor_of}
use Rattle.density.specs.EdgeFloor.{column_need, track_need, edge_floor}

-- C2: "n 3, h 1, north 1 1 empty, south empty 2 2: across 2, through column 2"
c2 : Pins
c2 = pins_of (1 ∷ 1 ∷ 0 ∷ []) (0 ∷ 2 ∷ 2 ∷ []) [] []

c2_across : across (upright 3 1 1) c2 ≡ 2
unfolding c2 across passes_at has_pin pin_on most sum some
c2_across = refl

-- the box that "prints exactly box length 4 width 1 nets 4 across 4 up 4 layers 12 floor 7"
box : Pins
box = pins_of (1 ∷ 2 ∷ 3 ∷ 4 ∷ []) (4 ∷ 3 ∷ 2 ∷ 1 ∷ []) [] []

box_figures : (box_across (upright 4 1 1) box ∷ up (upright 4 1 1) box ∷ floor_of (upright 4 1 1) box ∷ []) ≡ (4 ∷ 4 ∷ 7 ∷ [])
unfolding box box_across up box_passes_at all_on passes_at has_pin pin_on most sum some ceil floor
box_figures = refl

-- B1: "1 by 1, north 1, west 1: across 1, up 1, layers 6, floor 2"
b1 : Pins
b1 = pins_of (1 ∷ []) [] (1 ∷ []) []

b1_figures : (box_across (upright 1 1 1) b1 ∷ up (upright 1 1 1) b1 ∷ floor_of (upright 1 1 1) b1 ∷ []) ≡ (1 ∷ 1 ∷ 2 ∷ [])
unfolding b1 box_across up box_passes_at all_on passes_at has_pin pin_on most sum some ceil floor
b1_figures = refl

-- document 02, job 6: "A box 1 long and 2 wide with both west pins on one net"; "That box now has floor 2"
sided : Pins
sided = pins_of [] [] (1 ∷ 1 ∷ []) []

sided_figures : (box_across (upright 1 2 1) sided ∷ up (upright 1 2 1) sided ∷ floor_of (upright 1 2 1) sided ∷ []) ≡ (1 ∷ 1 ∷ 2 ∷ [])
unfolding sided box_across up box_passes_at all_on passes_at has_pin pin_on most sum some ceil floor
sided_figures = refl

-- the only column is the first and the last: it passes a net all west, one all east, and one that has pins on both sides, which counts once
both_ends : Pins
both_ends = pins_of [] [] (1 ∷ 1 ∷ 0 ∷ 3 ∷ []) (0 ∷ 2 ∷ 2 ∷ 3 ∷ [])

both_ends_across : box_across (upright 1 4 1) both_ends ≡ 3
unfolding both_ends box_across box_passes_at all_on passes_at has_pin pin_on most sum some
both_ends_across = refl

-- there the edge floor counts pins: nets 1 and 2 have two each, net 3 has both of its own at one track
both_ends_need : column_need (upright 1 4 1) both_ends 1 ≡ 5
unfolding both_ends column_need box_passes_at all_on passes_at has_pin pin_on sum some
both_ends_need = refl

-- two long and two wide: both west pins on net 1, and net 2 in column 1 goes on. The edge floor is above the floor, and so it is of the box
-- turned, by its tracks
crossed : Pins
crossed = pins_of (2 ∷ 0 ∷ []) (0 ∷ 2 ∷ []) (1 ∷ 1 ∷ []) []

crossed_floors : (floor_of (upright 2 2 1) crossed ∷ edge_floor (upright 2 2 1) crossed ∷ []) ≡ (2 ∷ 3 ∷ [])
unfolding crossed column_need track_need box_across up box_passes_at all_on passes_at has_pin pin_on most sum some ceil floor
crossed_floors = refl

crossed_turned : (floor_of (upright 2 2 1) (moved_pins turn crossed) ∷ edge_floor (upright 2 2 1) (moved_pins turn crossed) ∷ []) ≡ (2 ∷ 3 ∷ [])
unfolding crossed column_need track_need box_across up box_passes_at all_on passes_at has_pin pin_on most sum some ceil floor
crossed_turned = refl

-- R1 and R2: across 2 on one trunk layer and on two; R3: across 0
tracks : (tracks_for 1 2 ∷ tracks_for 2 2 ∷ tracks_for 1 0 ∷ []) ≡ (2 ∷ 1 ∷ 1 ∷ [])
unfolding tracks_for ceil
tracks = refl
