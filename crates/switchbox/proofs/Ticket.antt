-- A box as it came: its sides are the first places of four arrays. Moved it has the longer side as its columns, and what is laid on the
-- ticket's lines is a legal wiring of it.
use Prim.Native.Nat.{ℕ, zero, suc, ◌+◌, ◌*◌, ◌≤◌, ◌<◌, min, max}
use mathlib.Core.Path.{◌≡◌, refl, sym, ap, subst, subst₂, ◌∙◌}
use mathlib.Core.List.{List}
use mathlib.Core.Bool.{Bool, true, false, cond}
use native.Mathlib.Omega.{arith}
use native.Mathlib.Nat.{mul_comm}
use native.Mathlib.Decide.{dec_le}
use lib.ListN.{length, get_or, take}
use lib.Seq.{get_or-take, length-take-le}
use lib.Dec.{ltb, eqb}
use borrow.Author.Tests.{ltb-true, ltb-false}
use Rattle.counting.specs.Counting.{In, ceil}
use Rattle.counting.proofs.Counts.{count_same, round_up}
use Rattle.terms.specs.Kinds.{Side, north, south, west, east}
use Rattle.terms.specs.Limits.{largest_net, longest_side}
use Rattle.grid.specs.Grid.{Grid, Node, pin, point, places, Inside}
use Rattle.grid.specs.Legal.{Wiring, holds, Legal, entry, nets, wiring_of, pins_of}
use Rattle.grid.specs.Laid.{Laid}
use Rattle.grid.specs.Motion.{Orientation, turned, moved_grid}
use Rattle.grid.proofs.Pins.{Numbered}
use Rattle.grid.proofs.Motions.{legal_same}
use Rattle.orientation.specs.Lookup.{own_side, by_side, on_lines}
use Rattle.orientation.proofs.Looks.{own_places}
use Rattle.paint.specs.Paint.{Drawn}
use Rattle.paint.proofs.Laws.{drawn_wiring}
use Rattle.nets.specs.Tables.{pin_count_to, NetTable}
use Rattle.lanes.specs.Tables.{Nets}
use Rattle.switchbox_law.specs.Drawing.{BoxLaid, Top}
use Rattle.switchbox_law.proofs.Oriented.{most_on_lines, oriented_laid}
use Rattle.switchbox.specs.Box.{corner_at, standing, Canonical}
use Rattle.switchbox.specs.Layers.{DrawnAs, LaidAs}
use Rattle.switchbox.specs.Wired.{box_layers, box_grid, BoxPins}
use Rattle.switchbox.proofs.Counts.{chosen}

entry_take : (n : ℕ) (xs : List ℕ) (i : ℕ) → In i n → entry (take n xs) i ≡ entry xs i
entry_take n xs zero h = absurd (omega arith)
entry_take n xs (suc i) h = get_or-take n xs i 0 (omega arith)

nets_take : (n : ℕ) (xs : List ℕ) → n ≤ longest_side → n ≤ length xs → ((i : ℕ) → i < n → get_or xs i 0 ≤ largest_net) → Nets (take n xs)
nets_take n xs short long small =
    let e : length (take n xs) ≡ n = length-take-le n xs long in
    record { short = omega arith; small = λ i h. omega (arith, get_or-take n xs i 0 (omega arith), small i (omega arith)) }

counts_take : (n : ℕ) (xs counts : List ℕ) → n ≤ length xs → NetTable (pin_count_to (entry xs) n) counts
    → NetTable (pin_count_to (entry (take n xs)) (length (take n xs))) counts
counts_take n xs counts long t = record {
  size = t.size;
  none = t.none;
  is = λ m i. rw (length-take-le n xs long)
      (t.is m i ∙ count_same _ _ n (λ c j. ap (λ (v : ℕ). eqb v m) (sym (entry_take n xs c j))));
}

-- the pins that four lists hold at the places of a grid
pins_take : (g : Grid) (a b c d : List ℕ) (s : Side) (i : ℕ) → In i (places g s)
    → pins_of a b c d s i ≡ pins_of (take g.n a) (take g.n b) (take g.w c) (take g.w d) s i
pins_take g a b c d north i h = sym (entry_take g.n a i h)
pins_take g a b c d south i h = sym (entry_take g.n b i h)
pins_take g a b c d west i h = sym (entry_take g.w c i h)
pins_take g a b c d east i h = sym (entry_take g.w d i h)

-- a drawing whose wiring is legal for the pins of the sides
wired_as : (g : Grid) (a b c d : List ℕ) {before after : List ℕ} {x : Wiring}
    → Legal g (pins_of (take g.n a) (take g.n b) (take g.w c) (take g.w d)) x → Drawn g.n g.w before after g.k x
    → Laid g (pins_of a b c d) before after
wired_as g a b c d {before} {after} {x} legal drawn = record {
  legal = legal_same seen legal;
  long = drawn.long;
  others = λ i h. drawn.others i (omega (arith, mul_comm g.k (g.n * g.w)));
}
  where
    seen : (u : Node) → Inside g u → holds (pins_of a b c d) (wiring_of g after) u
        ≡ holds (pins_of (take g.n a) (take g.n b) (take g.w c) (take g.w d)) x u
    seen (pin s i) h = pins_take g a b c d s i h
    seen (point i j l) h = drawn_wiring g drawn i j l h

-- the longer side is the moved box's columns, and the shorter its tracks
longer : (n w : ℕ) (turned : Bool) → turned ≡ ltb n w → cond turned w n ≡ max n w
longer n w false e = let h = ltb-false n w (sym e) in omega arith
longer n w true e = let h = ltb-true n w (sym e) in omega arith

shorter : (n w : ℕ) (turned : Bool) → turned ≡ ltb n w → cond turned n w ≡ min n w
shorter n w false e = let h = ltb-false n w (sym e) in omega arith
shorter n w true e = let h = ltb-true n w (sym e) in omega arith

-- drawn on the ticket's lines
drawn_lines : (turned : Bool) {n w k : ℕ} {before after : List ℕ} {x : Wiring}
    → DrawnAs turned (cond turned w n) (cond turned n w) before after k x
    → Drawn n w before after k (λ i j l. cond turned (x j i l) (x i j l))
drawn_lines false d = d.is
drawn_lines true d = d.is

module _ (n w : ℕ) (o : Orientation) (e : o.turned ≡ ltb n w) where
  moved_places : (s : Side) → places (moved_grid o (box_grid n w)) s ≡ by_side (max n w) (max n w) (min n w) (min n w) s
  moved_places s = split o.turned e s
    where
      split : (b : Bool) → b ≡ ltb n w → (s : Side)
          → places (cond b (turned (box_grid n w)) (box_grid n w)) s ≡ by_side (max n w) (max n w) (min n w) (min n w) s
      split false e north = longer n w false e
      split false e south = longer n w false e
      split false e west = shorter n w false e
      split false e east = shorter n w false e
      split true e north = longer n w true e
      split true e south = longer n w true e
      split true e west = shorter n w true e
      split true e east = shorter n w true e

  standing_places : (s : Side) → places (standing (max n w) (min n w)) s ≡ places (box_grid n w) (own_side o s)
  standing_places s = go s ∙ sym (own_places (box_grid n w) o s ∙ moved_places s)
    where
      go : (s : Side) → places (standing (max n w) (min n w)) s ≡ by_side (max n w) (max n w) (min n w) (min n w) s
      go north = refl
      go south = refl
      go west = refl
      go east = refl

module _ {ns ss ws es before : List ℕ} {n w : ℕ} (box : BoxPins ns ss ws es n w before)
    (ln : length ns ≡ longest_side) (ls : length ss ≡ longest_side) (lw : length ws ≡ longest_side) (le : length es ≡ longest_side)
    (o : Orientation) (e : o.turned ≡ ltb n w) where
  fits_n : n ≤ longest_side
  fits_n = box.long.1

  fits_w : w ≤ longest_side
  fits_w = box.wide.1

  long : (s : Side) → length (by_side (take n ns) (take n ss) (take w ws) (take w es) s) ≡ places (box_grid n w) s
  long north = length-take-le n ns (omega (arith, fits_n))
  long south = length-take-le n ss (omega (arith, fits_n))
  long west = length-take-le w ws (omega (arith, fits_w))
  long east = length-take-le w es (omega (arith, fits_w))

  nets_by : (s : Side) → Nets (by_side (take n ns) (take n ss) (take w ws) (take w es) s)
  nets_by north = nets_take n ns fits_n (omega (arith, fits_n)) box.norths
  nets_by south = nets_take n ss fits_n (omega (arith, fits_n)) box.souths
  nets_by west = nets_take w ws fits_w (omega (arith, fits_w)) box.wests
  nets_by east = nets_take w es fits_w (omega (arith, fits_w)) box.easts

  numbered : Numbered (box_grid n w) (pins_of (take n ns) (take n ss) (take w ws) (take w es))
  numbered s zero i = absurd (none s i)
    where
      none : (s : Side) → In 0 (places (box_grid n w) s) → ⊥
      none north i = omega arith
      none south i = omega arith
      none west i = omega arith
      none east i = omega arith
  numbered north (suc i) h = (nets_by north).small i (omega (arith, long north))
  numbered south (suc i) h = (nets_by south).small i (omega (arith, long south))
  numbered west (suc j) h = (nets_by west).small j (omega (arith, long west))
  numbered east (suc j) h = (nets_by east).small j (omega (arith, long east))

  pub canonical : {cn cs cw ce : List ℕ} → NetTable (pin_count_to (entry ns) n) cn → NetTable (pin_count_to (entry ss) n) cs
      → NetTable (pin_count_to (entry ws) w) cw → NetTable (pin_count_to (entry es) w) ce
      → Top (nets (corner_at cn ce cs cw)) (nets (corner_at cn cw cs ce)) (nets (corner_at cs ce cn cw)) (nets (corner_at cs cw cn ce)) o
      → Canonical o (take n ns) (take n ss) (take w ws) (take w es) cn cs cw ce (max n w) (min n w) before
  canonical {cn} {cs} {cw} {ce} tn ts tw te top = record {
    sides = record { nets = nets_by; long = λ s. long (own_side o s) ∙ own_places (box_grid n w) o s ∙ moved_places n w o e s };
    counts = counts_by;
    narrow = omega (arith, box.long, box.wide);
    oblong = omega arith;
    room = omega (arith, box.room, area, mul_comm (box_layers n w) (n * w), ap (λ (v : ℕ). box_layers n w * v) area);
    corner = most_on_lines o (box_grid n w) (standing (max n w) (min n w)) (pins_of (take n ns) (take n ss) (take w ws) (take w es))
        (standing_places n w o e) (chosen (box_grid n w) long counts_by o top);
  }
    where
      counts_by : (s : Side) → NetTable (pin_count_to (entry (by_side (take n ns) (take n ss) (take w ws) (take w es) s))
          (length (by_side (take n ns) (take n ss) (take w ws) (take w es) s))) (by_side cn cs cw ce s)
      counts_by north = counts_take n ns cn (omega (arith, fits_n)) tn
      counts_by south = counts_take n ss cs (omega (arith, fits_n)) ts
      counts_by west = counts_take w ws cw (omega (arith, fits_w)) tw
      counts_by east = counts_take w es ce (omega (arith, fits_w)) te

      area : max n w * min n w ≡ n * w
      area = go o.turned e
        where
          go : (b : Bool) → b ≡ ltb n w → max n w * min n w ≡ n * w
          go false h = ap (λ (v : ℕ). v * min n w) (sym (longer n w false h)) ∙ ap (λ (v : ℕ). n * v) (sym (shorter n w false h))
          go true h = ap (λ (v : ℕ). v * min n w) (sym (longer n w true h)) ∙ ap (λ (v : ℕ). w * v) (sym (shorter n w true h))
              ∙ mul_comm w n

  pub wired : {after : List ℕ} → LaidAs o (max n w) (min n w) (pins_of (take n ns) (take n ss) (take w ws) (take w es)) before after
      → Laid (box_grid n w) (pins_of ns ss ws es) before after
  wired {after} l =
      let k = 2 * ceil (max n w) (min n w) + 4 in
      let p = pins_of (take n ns) (take n ss) (take w ws) (take w es) in
      let laid = subst₂ (λ (x y : ℕ). BoxLaid x y (ceil (max n w) (min n w)) (on_lines o p) l.wiring l.tracks l.columns)
      (sym (longer n w o.turned e)) (sym (shorter n w o.turned e)) l.laid in
      let drawn = subst₂ (λ (x y : ℕ). DrawnAs o.turned x y before after k l.wiring)
      (sym (longer n w o.turned e)) (sym (shorter n w o.turned e)) l.drawn in
      let legal = oriented_laid o box.long.0 box.wide.0 some_layer
      (subst (λ (b : Bool). Numbered (record { n = n; w = w; k = k; first = b }) p) (sym e) numbered) laid in
      wired_as (box_grid n w) ns ss ws es
      (subst (λ (b : Bool). Legal (record { n = n; w = w; k = k; first = b }) p
      (λ i j l'. cond o.turned (l.wiring j i l') (l.wiring i j l'))) e legal)
      (drawn_lines o.turned drawn)
    where
      some_layer : 1 ≤ ceil (max n w) (min n w)
      some_layer = elim (dec_le 1 (ceil (max n w) (min n w))) [
        | yes h ↦ h
        | no h ↦ let z : ceil (max n w) (min n w) ≡ 0 = omega arith in
            absurd (omega (
              arith,
              round_up (max n w) (min n w) (omega (arith, box.long, box.wide)),
              ap (λ (v : ℕ). v * min n w) z,
              box.long,
            ))
      ]
