-- A step from a cell to the next is an edge, because the cells stand where the joined nodes do.
use Prim.Native.Nat.{ℕ, suc, ◌+◌, ◌*◌, ◌-◌, ◌≤◌, ◌<◌}
use mathlib.Core.Path.{◌≡◌, refl, sym, ap, ◌∙◌, subst, subst₂}
use mathlib.Core.Logic.{inl, inr}
use mathlib.Core.Bool.{Bool, true, false}
use native.Mathlib.Omega.{arith}
use Rattle.terms.specs.Limits.{longest_side, widest_grid, most_layers}
use Rattle.terms.specs.Kinds.{north, south, west, east}
use Rattle.grid.specs.Grid.{Grid, Node, pin, point, Inside, Edge, along_column, along_track, via, north_pin, south_pin, west_pin, east_pin}
use Rattle.grid.proofs.Sizes.{area_le, points_le}
use Rattle.check_sweep.specs.Reached.{Spot, a_pin, a_point}
use Rattle.check_link.specs.Edges.{horizontal, Shape}
use Rattle.check_sweep.specs.Pins.{Edges}
use Rattle.check_link.proofs.Offsets.{rows_in, next_row}
use Rattle.check_sweep.proofs.Places.{spot, edge_of, index_cell, is_horizontal, is_vertical}
use Rattle.check_step.specs.declared.Cell.{Cell}
use Rattle.check_step.specs.Step.{On, Tip, north_tip, south_tip, west_tip, east_tip, Stepped}

-- ---- sizes

pub record Small (g : Grid) (c : Cell) : Type 0 where
  pub inside : c.q < g.n * g.w * g.k
  pub size : g.n * g.w * g.k ≤ longest_side * widest_grid * most_layers
  pub area : g.n * g.w ≤ longest_side * widest_grid

pub small : {g : Grid} {c : Cell} → Shape g → On g c → Small g c
small {g} {c} s o =
    record {
      inside = omega (arith, o, rows_in c.l g.k (g.n * g.w) o.layer, rows_in c.j g.w g.n o.track);
      size = points_le g.n g.w g.k s.long.1 s.wide.1 s.deep.1;
      area = area_le g.n g.w s.long.1 s.wide.1;
    }

pub in_buffer : {g : Grid} {x m : ℕ} {c : Cell} → Shape g → x ≡ g.n * g.w * g.k → m ≡ x → On g c → (c.q < x) × (c.q < m)
in_buffer shape e a o = let h = small shape o in omega (arith, h.inside)

less : (a b : ℕ) → 0 < a → a * b ≡ (a - 1) * b + b
less a b h = ap (λ (u : ℕ). u * b) (omega arith) ∙ next_row (a - 1) b

-- ---- cells and nodes

module _ (g : Grid) where
  node : Cell → Node
  node c = point (suc c.i) (suc c.j) (suc c.l)

  node_in : (c : Cell) → On g c → Inside g (node c)
  unfolding node
  node_in c o = omega (arith, o)

  node_at : (c : Cell) → On g c → spot g (node c) ≡ a_point c.q
  unfolding node
  node_at c o = ap a_point (index_cell g c.i c.j c.l ∙ sym o.is)

  same_node : {i j l i' j' l' : ℕ} → i ≡ i' → j ≡ j' → l ≡ l' → point i j l ≡ point i' j' l'
  same_node a b c d = point (a d) (b d) (c d)

  -- from cell to cell
  hop : (c r : Cell) → On g c → On g r → {i j l : ℕ} → Edge g (node c) (point i j l) → i ≡ suc r.i → j ≡ suc r.j → l ≡ suc r.l
      → Edges g (a_point c.q) (a_point r.q)
  unfolding node
  hop c r o h d x y z =
      subst₂ (λ (s t : Spot). Edges g s t) (node_at c o) (node_at r h)
      (edge_of g (node c) (node r) (node_in c o) (node_in r h) (subst (Edge g (node c)) (same_node x y z) d))

module _ {g : Grid} {c : Cell} (o : On g c) where
  pub step_right : {tried : ℕ} → horizontal g.first c.l ≡ true → c.i + 1 < g.n
      → Stepped g c (record { q = c.q + 1; i = c.i + 1; j = c.j; l = c.l; tried = tried })
  unfolding node
  step_right {tried} f h =
      let r : Cell = record { q = c.q + 1; i = c.i + 1; j = c.j; l = c.l; tried = tried } in
      let p : On g r = record { column = h; track = o.track; layer = o.layer; is = omega (arith, o.is) } in
      record { cell = p; near = inl (hop g c r o p (along_track (is_horizontal g.first c.l f)) (omega arith) refl refl) }

  pub step_left : {tried : ℕ} → horizontal g.first c.l ≡ true → 0 < c.i
      → Stepped g c (record { q = c.q - 1; i = c.i - 1; j = c.j; l = c.l; tried = tried })
  unfolding node
  step_left {tried} f h =
      let r : Cell = record { q = c.q - 1; i = c.i - 1; j = c.j; l = c.l; tried = tried } in
      let p : On g r = record { column = omega (arith, o.column); track = o.track; layer = o.layer; is = omega (arith, o.is) } in
      record { cell = p; near = inr (hop g r c p o (along_track (is_horizontal g.first c.l f)) (omega arith) refl refl) }

  pub step_on : {tried n : ℕ} → horizontal g.first c.l ≡ false → n ≡ g.n → c.j + 1 < g.w
      → Stepped g c (record { q = c.q + n; i = c.i; j = c.j + 1; l = c.l; tried = tried })
  unfolding node
  step_on {tried} {n} f b h =
      let r : Cell = record { q = c.q + n; i = c.i; j = c.j + 1; l = c.l; tried = tried } in
      let p : On g r = record { column = o.column; track = h; layer = o.layer; is = omega (arith, o.is, next_row c.j g.n) } in
      record { cell = p; near = inl (hop g c r o p (along_column (is_vertical g.first c.l f)) refl (omega arith) refl) }

  pub step_back : {tried n : ℕ} → horizontal g.first c.l ≡ false → n ≡ g.n → 0 < c.j
      → Stepped g c (record { q = c.q - n; i = c.i; j = c.j - 1; l = c.l; tried = tried })
  unfolding node
  step_back {tried} {n} f b h =
      let r : Cell = record { q = c.q - n; i = c.i; j = c.j - 1; l = c.l; tried = tried } in
      let p : On g r = record { column = o.column; track = omega (arith, o.track); layer = o.layer; is = omega (arith, o.is, less c.j g.n h) } in
      record { cell = p; near = inr (hop g r c p o (along_column (is_vertical g.first c.l f)) refl (omega arith) refl) }

  pub step_up : {tried a : ℕ} → a ≡ g.n * g.w → c.l + 1 < g.k → Stepped g c (record { q = c.q + a; i = c.i; j = c.j; l = c.l + 1; tried = tried })
  unfolding node
  step_up {tried} {a} b h =
      let r : Cell = record { q = c.q + a; i = c.i; j = c.j; l = c.l + 1; tried = tried } in
      let p : On g r = record { column = o.column; track = o.track; layer = h; is = omega (arith, o.is, next_row c.l (g.n * g.w)) } in
      record { cell = p; near = inl (hop g c r o p via refl refl (omega arith)) }

  pub step_down : {tried a : ℕ} → a ≡ g.n * g.w → 0 < c.l → Stepped g c (record { q = c.q - a; i = c.i; j = c.j; l = c.l - 1; tried = tried })
  unfolding node
  step_down {tried} {a} b h =
      let r : Cell = record { q = c.q - a; i = c.i; j = c.j; l = c.l - 1; tried = tried } in
      let p : On g r = record {
        column = o.column;
        track = o.track;
        layer = omega (arith, o.layer);
        is = omega
            (arith, o.is, less c.l (g.n * g.w) h);
      } in
      record { cell = p; near = inr (hop g r c p o via refl refl (omega arith)) }

  -- the pins that a cell touches
  pin_edge : (u : Node) {a i j l : ℕ} → Inside g u → spot g u ≡ a_pin a → Edge g u (point i j l)
      → i ≡ suc c.i → j ≡ suc c.j → l ≡ suc c.l → Edges g (a_pin a) (a_point c.q)
  unfolding node
  pin_edge u i p d x y z =
      subst₂ (λ (s t : Spot). Edges g s t) p (node_at g c o)
      (edge_of g u (node g c) i (node_in g c o) (subst (Edge g u) (same_node g x y z) d))

  pub tip_edge : (a : ℕ) (h : Bool) → horizontal g.first c.l ≡ h → Tip g a c.i c.j h → Edges g (a_pin a) (a_point c.q)
  tip_edge a h e (north_tip p q) =
      pin_edge (pin north (suc c.i)) (omega (arith, o)) (ap a_pin (omega arith)) (north_pin (is_vertical g.first c.l e)) refl (omega arith) refl
  tip_edge a h e (south_tip p q) =
      pin_edge (pin south (suc c.i)) (omega (arith, o)) (ap a_pin (omega arith)) (south_pin (is_vertical g.first c.l e)) refl (omega arith) refl
  tip_edge a h e (west_tip p q) =
      pin_edge (pin west (suc c.j)) (omega (arith, o)) (ap a_pin (omega arith)) (west_pin (is_horizontal g.first c.l e)) (omega arith) refl refl
  tip_edge a h e (east_tip p q) =
      pin_edge (pin east (suc c.j)) (omega (arith, o)) (ap a_pin (omega arith)) (east_pin (is_horizontal g.first c.l e)) (omega arith) refl refl
