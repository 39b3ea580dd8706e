-- Where a node stands in the buffers, and that the edges by index are just the joins between nodes of the grid: both follow the grid's rows and layers.
use Prim.Native.Nat.{ℕ, suc, ◌+◌, ◌*◌, ◌-◌, ◌/◌, ◌%◌, ◌≤◌, ◌<◌}
use mathlib.Core.Path.{◌≡◌, refl, sym, ap, ◌∙◌, subst}
use mathlib.Core.Logic.{◌⊎◌, inl, inr, ⊎_map}
use mathlib.Core.Bool.{Bool, true, false}
use native.Mathlib.Omega.{arith}
use native.Mathlib.Nat.{mul_comm, mul-one, zero-mul, div-add-mod', mod-lt, div-lt_iff_lt-mul}
use borrow.Author.Tests.{ltb-true, lt-ltb, eq-eqb, ne_eqb, eqb-true, eqb-false}
use lib.Dec.{ltb}
use Rattle.counting.specs.Counting.{In, bit}
use Rattle.terms.specs.Kinds.{Side, north, south, west, east}
use Rattle.terms.specs.Limits.{longest_side, widest_grid}
use Rattle.grid.specs.Grid.{Grid, Node, pin, point, places, Inside, Edge, along_column, along_track, via, north_pin, south_pin, west_pin, east_pin, Joined}
use Rattle.grid.specs.Legal.{index}
use Rattle.grid.proofs.Buffer.{index_is, index_once}
use Rattle.check_sweep.specs.Reached.{Spot, a_pin, a_point}
use Rattle.check_sweep.specs.Pins.{pin_at, Ends, Edges}
use Rattle.check_link.specs.Edges.{horizontal, Run, Along}
use Rattle.check_link.proofs.Offsets.{rows_in, next_row}

abbrev pub spot : Grid → Node → Spot
spot g (pin s a) = a_pin (pin_at s a)
spot g (point i j l) = a_point (index g i j l)

-- ---- directions

pub horizontal_yes : (f : Bool) (l : ℕ) → 1 ≤ l → (l + bit f) % 2 ≡ 0 → horizontal f (l - 1) ≡ true
horizontal_yes true l h e = eq-eqb ((l - 1) % 2) 0 (omega arith)
horizontal_yes false l h e = eq-eqb ((l - 1) % 2) 1 (omega arith)

pub horizontal_no : (f : Bool) (l : ℕ) → 1 ≤ l → (l + bit f) % 2 ≡ 1 → horizontal f (l - 1) ≡ false
horizontal_no true l h e = ne_eqb ((l - 1) % 2) 0 (λ (z : (l - 1) % 2 ≡ 0). omega arith)
horizontal_no false l h e = ne_eqb ((l - 1) % 2) 1 (λ (z : (l - 1) % 2 ≡ 1). omega arith)

pub is_horizontal : (f : Bool) (l : ℕ) → horizontal f l ≡ true → (suc l + bit f) % 2 ≡ 0
is_horizontal true l e = let z = eqb-true (l % 2) 0 e in omega arith
is_horizontal false l e = let z = eqb-true (l % 2) 1 e in omega arith

pub is_vertical : (f : Bool) (l : ℕ) → horizontal f l ≡ false → (suc l + bit f) % 2 ≡ 1
is_vertical true l e = let z : l % 2 ≡ 0 → ⊥ = eqb-false (l % 2) 0 e in omega arith
is_vertical false l e = let z : l % 2 ≡ 1 → ⊥ = eqb-false (l % 2) 1 e in omega arith

-- ---- from join to edge

last_row : (n w : ℕ) → 1 ≤ w → n * w ≡ (w - 1) * n + n
last_row n w h = mul_comm n w ∙ ap (λ (u : ℕ). u * n) (omega arith) ∙ next_row (w - 1) n

module _ (g : Grid) where
  index_next : (i j l : ℕ) → 1 ≤ i → index g (suc i) j l ≡ index g i j l + 1
  index_next i j l a = omega arith

  index_across : (i j l : ℕ) → 1 ≤ i → 1 ≤ j → index g i (suc j) l ≡ index g i j l + g.n
  index_across i j l a b =
      let e : (suc j - 1) * g.n ≡ (j - 1) * g.n + g.n = ap (λ (u : ℕ). u * g.n) (omega arith) ∙ next_row (j - 1) g.n in
      omega (arith, index_is g i j l a, index_is g i (suc j) l a)

  index_up : (i j l : ℕ) → 1 ≤ i → 1 ≤ l → index g i j (suc l) ≡ index g i j l + g.n * g.w
  index_up i j l a b =
      let e : (suc l - 1) * (g.n * g.w) ≡ (l - 1) * (g.n * g.w) + g.n * g.w = ap (λ (u : ℕ). u * (g.n * g.w)) (omega arith) ∙ next_row (l - 1)
      (g.n * g.w) in
      omega (arith, index_is g i j l a, index_is g i j (suc l) a)

  flat_row : (l : ℕ) {a b : ℕ} → horizontal g.first (l - 1) ≡ true → In l g.k
      → Along ((l - 1) * (g.n * g.w)) g.n g.w true a b → Edges g (a_point a) (a_point b)
  flat_row l {a} {b} e h r = inl (l - 1, omega arith, inr (subst (λ (z : Bool). Along ((l - 1) * (g.n * g.w)) g.n g.w z a b) (sym e) r))

  steep_row : (l : ℕ) {a b : ℕ} → horizontal g.first (l - 1) ≡ false → In l g.k
      → Along ((l - 1) * (g.n * g.w)) g.n g.w false a b → Edges g (a_point a) (a_point b)
  steep_row l {a} {b} e h r = inl (l - 1, omega arith, inr (subst (λ (z : Bool). Along ((l - 1) * (g.n * g.w)) g.n g.w z a b) (sym e) r))

  ends_at : (l : ℕ) (z : Bool) (a b : Spot) → horizontal g.first (l - 1) ≡ z → In l g.k → Ends ((l - 1) * (g.n * g.w)) g.n g.w z a b
      → Edges g a b
  ends_at l z a b e h r = inr (l - 1, omega arith, subst (λ (z : Bool). Ends ((l - 1) * (g.n * g.w)) g.n g.w z a b) (sym e) r)

  pub edge_of : (u v : Node) → Inside g u → Inside g v → Edge g u v → Edges g (spot g u) (spot g v)
  edge_of u v a b (along_column {i} {j} {l} d) =
      let r = rows_in j g.w g.n (omega arith) in
      let e = next_row (j - 1) g.n in
      let f : j * g.n ≡ (j - 1) * g.n + g.n = ap (λ (u : ℕ). u * g.n) (omega arith) ∙ e in
      steep_row l (horizontal_no g.first l (omega arith) d) (omega arith) (
        (j - 1) * g.n + (i - 1),
        omega arith,
        (
          omega (arith, index_is g i j l (omega arith)),
          omega (
            arith,
            index_is g i j l (omega arith),
            index_across i j l (omega arith) (omega arith),
          ),
        ),
      )
  edge_of u v a b (along_track {i} {j} {l} d) =
      flat_row l (horizontal_yes g.first l (omega arith) d) (omega arith) (
        j - 1,
        omega arith,
        (
          i - 1,
          omega arith,
          (omega (arith, index_is g i j l (omega arith)), omega (arith, index_is g i j l (omega arith), index_next i j l (omega arith))),
        ),
      )
  edge_of u v a b (via {i} {j} {l}) =
      let r = rows_in (j - 1) g.w g.n (omega arith) in
      inl (
        l - 1,
        omega arith,
        inl (
          lt-ltb (l - 1 + 1) g.k (omega arith),
          (
            (j - 1) * g.n + (i - 1),
            omega arith,
            (omega (arith, index_is g i j l (omega arith)), omega (arith, index_is g i j l (omega arith), index_up i j l (omega arith) (omega arith))),
          ),
        ),
      )
  edge_of u v a b (north_pin {i} {l} d) =
      ends_at l false _ _ (horizontal_no g.first l (omega arith) d) (omega arith)
      (inr (
        i - 1,
        omega arith,
        (
          ap a_pin (omega arith),
          ap a_point (omega (
            arith,
            index_is g i g.w l (omega arith),
            last_row g.n g.w
                (omega arith),
            mul-one (i - 1),
          )),
        ),
      ))
  edge_of u v a b (south_pin {i} {l} d) =
      ends_at l false _ _ (horizontal_no g.first l (omega arith) d) (omega arith)
      (inl (i - 1, omega arith, (refl, ap a_point (omega (arith, index_is g i 1 l (omega arith), zero-mul g.n, mul-one (i - 1))))))
  edge_of u v a b (west_pin {j} {l} d) =
      ends_at l true _ _ (horizontal_yes g.first l (omega arith) d) (omega arith)
      (inl (j - 1, omega arith, (refl, ap a_point (omega (arith, index_is g 1 j l (omega arith))))))
  edge_of u v a b (east_pin {j} {l} d) =
      ends_at l true _ _ (horizontal_yes g.first l (omega arith) d) (omega arith)
      (inr (j - 1, omega arith, (refl, ap a_point (omega (arith, index_is g g.n j l (omega arith))))))

  pub join_of : (u v : Node) → Inside g u → Inside g v → Joined g u v → Edges g (spot g u) (spot g v) ⊎ Edges g (spot g v) (spot g u)
  join_of u v a b = ⊎_map (edge_of u v a b) (edge_of v u b a)

-- ---- from edge to join

pub record Found (g : Grid) (a b : Spot) : Type 0 where
  pub u : Node
  pub v : Node
  pub in_u : Inside g u
  pub in_v : Inside g v
  pub at_u : a ≡ spot g u
  pub at_v : b ≡ spot g v
  pub edge : Edge g u v

-- (i, j, l) counted from 0
abbrev cell : ℕ → ℕ → ℕ → Node
cell i j l = point (suc i) (suc j) (suc l)

-- t points into m rows of n
split : (n m t : ℕ) → 1 ≤ n → t < n * m → (i : ℕ) × (j : ℕ) × (i < n) × (j < m) × (t ≡ j * n + i)
split n m t long h =
    let e : t / n * n + t % n ≡ t = div-add-mod' t n in
    (t % n, t / n, mod-lt t long, (div-lt_iff_lt-mul long).1 (omega (arith, mul_comm n m)), omega arith)

pub index_cell : (g : Grid) (i j l : ℕ) → index g (suc i) (suc j) (suc l) ≡ l * (g.n * g.w) + j * g.n + i
index_cell g i j l =
    let a : suc i - 1 ≡ i = omega arith in
    let b : suc j - 1 ≡ j = omega arith in
    let c : suc l - 1 ≡ l = omega arith in
    index_is g (suc i) (suc j) (suc l) (omega arith) ∙ (λ d. c d * (g.n * g.w) + b d * g.n + a d)

module _ (g : Grid) (long : 1 ≤ g.n) (wide : 1 ≤ g.w) where
  module _ (l : ℕ) (c : l < g.k) where
    up_found : (a b : ℕ) → ltb (l + 1) g.k ≡ true → Run (l * (g.n * g.w)) (g.n * g.w) (g.n * g.w) a b → Found g (a_point a) (a_point b)
    up_found a b s (t, h, (p, q)) =
        let (i, j, x, y, e) = split g.n g.w t long h in
        let o = ltb-true (l + 1) g.k s in
        let r = index_up g (suc i) (suc j) (suc l) (omega arith) (omega arith) in
        record {
          u = cell i j l;
          v = cell i j (suc l);
          in_u = omega arith;
          in_v = omega arith;
          at_u = ap a_point (omega (arith, index_cell g i j l));
          at_v = ap a_point (omega (arith, index_cell g i j l));
          edge = via;
        }

    along_found : (a b : ℕ) (f : Bool) → horizontal g.first l ≡ f → Along (l * (g.n * g.w)) g.n g.w f a b → Found g (a_point a) (a_point b)
    along_found a b true e (j, y, (i, x, (p, q))) =
        record {
          u = cell i j l;
          v = cell (suc i) j l;
          in_u = omega arith;
          in_v = omega arith;
          at_u = ap a_point (omega (arith, index_cell g i j l));
          at_v = ap a_point (omega (arith, index_cell g i j l, index_next g (suc i) (suc j) (suc l) (omega arith)));
          edge = along_track (is_horizontal g.first l e);
        }
    along_found a b false e (t, h, (p, q)) =
        let z = last_row g.n g.w wide in
        let (i, j, x, y, r) = split g.n (g.w - 1) t long (omega (arith, mul_comm g.n (g.w - 1))) in
        record {
          u = cell i j l;
          v = cell i (suc j) l;
          in_u = omega arith;
          in_v = omega arith;
          at_u = ap a_point (omega (arith, index_cell g i j l));
          at_v = ap a_point (omega (arith, index_cell g i j l, index_across g (suc i) (suc j) (suc l) (omega arith) (omega arith)));
          edge = along_column (is_vertical g.first l e);
        }

    ends_found : (a b : Spot) (f : Bool) → horizontal g.first l ≡ f → Ends (l * (g.n * g.w)) g.n g.w f a b → Found g a b
    ends_found a b true e (inl (j, y, (p, q))) =
        record {
          u = pin west (suc j);
          v = point 1 (suc j) (suc l);
          in_u = omega arith;
          in_v = omega arith;
          at_u = p ∙ ap a_pin (omega arith);
          at_v = q ∙ ap a_point (omega (arith, index_cell g 0 j l));
          edge = west_pin (is_horizontal g.first l e);
        }
    ends_found a b true e (inr (j, y, (p, q))) =
        record {
          u = pin east (suc j);
          v = point g.n (suc j) (suc l);
          in_u = omega arith;
          in_v = omega arith;
          at_u = p ∙ ap a_pin (omega arith);
          at_v = q ∙ ap a_point (omega (arith, index_cell g (g.n - 1) j l));
          edge = east_pin (is_horizontal g.first l e);
        }
    ends_found a b false e (inl (i, x, (p, q))) =
        record {
          u = pin south (suc i);
          v = point (suc i) 1 (suc l);
          in_u = omega arith;
          in_v = omega arith;
          at_u = p ∙ ap a_pin (omega arith);
          at_v = q ∙ ap a_point (omega (arith, index_cell g i 0 l, zero-mul g.n, mul-one i));
          edge = south_pin (is_vertical g.first l e);
        }
    ends_found a b false e (inr (i, x, (p, q))) =
        let z = last_row g.n g.w wide in
        let s : (suc l - 1) * (g.n * g.w) ≡ l * (g.n * g.w) = ap (λ (u : ℕ). u * (g.n * g.w)) (omega arith) in
        record {
          u = pin north (suc i);
          v = point (suc i) g.w (suc l);
          in_u = omega arith;
          in_v = omega arith;
          at_u = p ∙ ap a_pin (omega arith);
          at_v = q ∙ ap a_point (omega (arith, index_is g (suc i) g.w (suc l) (omega arith), mul-one i));
          edge = north_pin (is_vertical g.first l e);
        }

  pub found : (a b : Spot) → Edges g a b → Found g a b
  found (a_point a) (a_point b) (inl (l, c, inl (s, r))) = up_found l c a b s r
  found (a_point a) (a_point b) (inl (l, c, inr r)) = along_found l c a b (horizontal g.first l) refl r
  found (a_point a) (a_pin b) (inl e) = absurd e
  found (a_pin a) b (inl e) = absurd e
  found a b (inr (l, c, r)) = ends_found l c a b (horizontal g.first l) refl r

-- ---- one spot, one node

module _ (g : Grid) (short : g.n ≤ longest_side) (narrow : g.w ≤ widest_grid) where
  pin_once : (s t : Side) (a b : ℕ) → In a (places g s) → In b (places g t) → pin_at s a ≡ pin_at t b → pin s a ≡ pin t b
  pin_once north north a b x y e = ap (pin north) (omega arith)
  pin_once north south a b x y e = absurd (omega arith)
  pin_once north west a b x y e = absurd (omega arith)
  pin_once north east a b x y e = absurd (omega arith)
  pin_once south north a b x y e = absurd (omega arith)
  pin_once south south a b x y e = ap (pin south) (omega arith)
  pin_once south west a b x y e = absurd (omega arith)
  pin_once south east a b x y e = absurd (omega arith)
  pin_once west north a b x y e = absurd (omega arith)
  pin_once west south a b x y e = absurd (omega arith)
  pin_once west west a b x y e = ap (pin west) (omega arith)
  pin_once west east a b x y e = absurd (omega arith)
  pin_once east north a b x y e = absurd (omega arith)
  pin_once east south a b x y e = absurd (omega arith)
  pin_once east west a b x y e = absurd (omega arith)
  pin_once east east a b x y e = ap (pin east) (omega arith)

  place : Spot → ℕ
  place (a_pin a) = a
  place (a_point q) = q

  pub node_once : (u v : Node) → Inside g u → Inside g v → spot g u ≡ spot g v → u ≡ v
  unfolding place
  node_once (pin s a) (pin t b) x y e = pin_once s t a b x y (ap place e)
  node_once (pin s a) (point i j l) x y e = let z : ◌≡◌ {A = ℕ} 0 1 = cc in absurd (omega arith)
  node_once (point i j l) (pin s a) x y e = let z : ◌≡◌ {A = ℕ} 0 1 = cc in absurd (omega arith)
  node_once (point i j l) (point i' j' l') x y e =
      let (p, q, r) = index_once g i j l i' j' l' x y (ap place e) in λ d. point (p d) (q d) (r d)
