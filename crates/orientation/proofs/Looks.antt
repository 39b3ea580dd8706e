-- The pin lookup is right in all eight orientations: each of the three motions is its definition read backwards, and they are composed.
use Prim.Native.Nat.{ℕ}
use mathlib.Core.Path.{◌≡◌, refl, ap, ◌∙◌}
use mathlib.Core.List.{List}
use mathlib.Core.Bool.{Bool, true, false, cond}
use native.Mathlib.Omega.{arith}
use Rattle.counting.specs.Counting.{In}
use Rattle.terms.specs.Kinds.{Side, north, south, west, east}
use Rattle.grid.specs.Grid.{Grid, Node, pin, places}
use Rattle.grid.specs.Legal.{Pins, holds, entry, pins_of}
use Rattle.grid.specs.Motion.{turned, west_east, south_north, turn, moved_pins, Orientation, only, image, moved_grid}
use Rattle.orientation.specs.Lookup.{diagonal, mirror_side, mirror_order, own_side, is_reversed, own_place, by_side, on_lines}
use Rattle.orientation.specs.Code.{LooksUp}

-- ---- a place counted from the other end

pub own_place_in : (r : Bool) (n i : ℕ) → In i n → In (own_place r n i) n
own_place_in false n i h = h
own_place_in true n i h = omega arith

pub own_place_again : (r : Bool) (n i : ℕ) → In i n → own_place r n (own_place r n i) ≡ i
own_place_again false n i h = refl
own_place_again true n i h = omega arith

-- the pins of a side
pub side_pins : (a b c d : List ℕ) (s : Side) → pins_of a b c d s ≡ entry (by_side a b c d s)
side_pins a b c d north = refl
side_pins a b c d south = refl
side_pins a b c d west = refl
side_pins a b c d east = refl

-- ---- the three motions

turn_look : (b : Bool) (s : Side) (i : ℕ) → only b turn (pin s i) ≡ pin (cond b (diagonal s) s) i
turn_look false s i = refl
turn_look true north i = refl
turn_look true south i = refl
turn_look true west i = refl
turn_look true east i = refl

module _ (g : Grid) where
  columns_look : (φ : Bool) (s : Side) (i : ℕ)
      → only φ (west_east g) (pin s i) ≡ pin (mirror_side φ false s) (own_place (mirror_order φ false s) (places g s) i)
  columns_look false north i = refl
  columns_look false south i = refl
  columns_look false west i = refl
  columns_look false east i = refl
  columns_look true north i = refl
  columns_look true south i = refl
  columns_look true west i = refl
  columns_look true east i = refl

  tracks_look : (ψ : Bool) (s : Side) (i : ℕ)
      → only ψ (south_north g) (pin s i) ≡ pin (mirror_side false ψ s) (own_place (mirror_order false ψ s) (places g s) i)
  tracks_look false north i = refl
  tracks_look false south i = refl
  tracks_look false west i = refl
  tracks_look false east i = refl
  tracks_look true north i = refl
  tracks_look true south i = refl
  tracks_look true west i = refl
  tracks_look true east i = refl

  -- the two mirrors, one after the other
  both_mirrors : (φ ψ : Bool) (s : Side) (i : ℕ)
      → pin (mirror_side false ψ (mirror_side φ false s)) (own_place (mirror_order false ψ (mirror_side φ false s))
      (places g (mirror_side φ false s))
      (own_place (mirror_order φ false s) (places g s) i)) ≡ pin (mirror_side φ ψ s)
      (own_place (mirror_order φ ψ s) (places g (mirror_side φ ψ s)) i)
  both_mirrors φ false north i = refl
  both_mirrors φ true north i = refl
  both_mirrors φ false south i = refl
  both_mirrors φ true south i = refl
  both_mirrors false ψ west i = refl
  both_mirrors true ψ west i = refl
  both_mirrors false ψ east i = refl
  both_mirrors true ψ east i = refl

  pin_look : (o : Orientation) (s : Side) (i : ℕ) → image o g (pin s i)
      ≡ pin (own_side o s) (own_place (is_reversed o s) (places g (own_side o s)) i)
  pin_look o s i =
      let t = cond o.turned (diagonal s) s in
      let φ = o.columns_reversed in
      let ψ = o.tracks_reversed in
      ap (λ (u : Node). only ψ (south_north g) (only φ (west_east g) u)) (turn_look o.turned s i)
      ∙ ap (only ψ (south_north g)) (columns_look φ t i) ∙ tracks_look ψ (mirror_side φ false t)
      (own_place (mirror_order φ false t) (places g t) i)
      ∙ both_mirrors φ ψ t i

  mirror_places : (φ ψ : Bool) (s : Side) → places g (mirror_side φ ψ s) ≡ places g s
  mirror_places φ false north = refl
  mirror_places φ true north = refl
  mirror_places φ false south = refl
  mirror_places φ true south = refl
  mirror_places false ψ west = refl
  mirror_places true ψ west = refl
  mirror_places false ψ east = refl
  mirror_places true ψ east = refl

  turn_places : (b : Bool) (s : Side) → places g (cond b (diagonal s) s) ≡ places (cond b (turned g) g) s
  turn_places false s = refl
  turn_places true north = refl
  turn_places true south = refl
  turn_places true west = refl
  turn_places true east = refl

  pub own_places : (o : Orientation) (s : Side) → places g (own_side o s) ≡ places (moved_grid o g) s
  own_places o s = mirror_places o.columns_reversed o.tracks_reversed (cond o.turned (diagonal s) s) ∙ turn_places o.turned s

-- the moved box's pins, on the ticket's lines
pub moved_pin : (o : Orientation) (g : Grid) (p : Pins) (s : Side) (i : ℕ)
    → moved_pins (image o g) p s i ≡ on_lines o p s (own_place (is_reversed o s) (places g (own_side o s)) i)
moved_pin o g p s i = ap (holds p (λ i j l. 0)) (pin_look g o s i)

pub looks_up : {o : Orientation} {s t : Side} {r : Bool} → t ≡ own_side o s → r ≡ is_reversed o s → LooksUp o s t r
looks_up {o} {s} {t} {r} side order = record {
  side = side;
  order = order;
  long = λ g. rw side (own_places g o s);
  net = λ g p i. rw (side, order) (moved_pin o g p s i);
}
