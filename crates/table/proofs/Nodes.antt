-- The tests for a join and for one and the same node decide, and the list of nodes has just the nodes of the grid.
use Prim.Native.Nat.{ℕ, zero, suc}
use mathlib.Core.Path.{◌≡◌, refl, sym, ap, ◌∙◌, subst}
use mathlib.Core.Logic.{⊎_elim, ◌↔◌}
use mathlib.Core.Bool.{Bool, ◌&&◌, false≢true, true}
use mathlib.Core.List.Memᴰ.{eq_of_singleton}
use mathlib.Core.List.Memᴰ.{head}
use mathlib.Core.List.Memᴰ.{not-nil}
use mathlib.Core.List.{List, [], ◌∷◌, Memᴰ as Mem}
use mathlib.Core.List.Memᴰ.{append_cases as mem-either}
use mathlib.Core.List.Memᴰ.{append_left as mem-left}
use mathlib.Core.List.Memᴰ.{append_right as mem-right}
use native.Mathlib.Omega.{arith}
use native.Mathlib.Decide.{ℕ_discrete}
use lib.Dec.{eqb}
use Rattle.counting.specs.Counting.{In}
use Rattle.terms.specs.Kinds.{Side, north, south, west, east}
use Rattle.grid.specs.Grid.{Grid, Node, pin, point, places, Inside, Joined}
use Rattle.grid.proofs.Chains.{Near}
use Rattle.grid.proofs.Neighbours.{Touches, Neighbours, joined_iff}
use Rattle.table.specs.Decide.{is_near, touches, is_joined, side_no, side_at, is_same, over, nodes_on, pin_nodes, on_track, on_layer, nodes}
use Rattle.table.proofs.Tests.{Tests, tests_eq, tests_and, tests_or, tests_as}

-- ---- joins

tests_and3 : (a b c : Bool) {X Y Z : Type 0} → Tests a X → Tests b Y → Tests c Z → Tests (a && (b && c)) (X × Y × Z)
tests_and3 a b c s t u = tests_as (λ h. (h.0, h.1.0, h.1.1)) (λ h. (h.0, (h.1, h.2))) (tests_and a (b && c) s (tests_and b c t u))

tests_and4 : (a b c d : Bool) {X Y Z W : Type 0} → Tests a X → Tests b Y → Tests c Z → Tests d W → Tests (a && (b && (c && d))) (X × Y × Z × W)
tests_and4 a b c d s t u v =
    tests_as (λ h. (h.0, h.1.0, h.1.1, h.1.2)) (λ h. (h.0, (h.1, h.2, h.3))) (tests_and a (b && (c && d)) s (tests_and3 b c d t u v))

tests_eq3 : (a a' b b' c c' : ℕ) → Tests (eqb a a' && (eqb b b' && eqb c c')) ((a ≡ a') × (b ≡ b') × (c ≡ c'))
tests_eq3 a a' b b' c c' = tests_and3 _ _ _ (tests_eq a a') (tests_eq b b') (tests_eq c c')

tests_near : (a b : ℕ) → Tests (is_near a b) (Near a b)
tests_near a b = tests_or (eqb a (suc b)) (eqb b (suc a)) (tests_eq a (suc b)) (tests_eq b (suc a))

tests_touch : (g : Grid) (s : Side) (a i j l : ℕ) → Tests (touches g s a i j l) (Touches g s a i j l)
tests_touch g north a i j l = tests_eq3 _ _ _ _ _ _
tests_touch g south a i j l = tests_eq3 _ _ _ _ _ _
tests_touch g west a i j l = tests_eq3 _ _ _ _ _ _
tests_touch g east a i j l = tests_eq3 _ _ _ _ _ _

tests_neighbours : (g : Grid) (u v : Node) → Tests (is_joined g u v) (Neighbours g u v)
tests_neighbours g (pin s a) (pin t b) = (false≢true, λ h. absurd h)
tests_neighbours g (pin s a) (point i j l) = tests_touch g s a i j l
tests_neighbours g (point i j l) (pin s a) = tests_touch g s a i j l
tests_neighbours g (point i j l) (point i' j' l') =
    tests_or _ _ (tests_and4 _ _ _ _ (tests_eq _ _) (tests_near _ _) (tests_eq _ _) (tests_eq _ _))
    (tests_or _ _ (tests_and4 _ _ _ _ (tests_near _ _) (tests_eq _ _) (tests_eq _ _) (tests_eq _ _))
    (tests_and3 _ _ _ (tests_eq _ _) (tests_eq _ _) (tests_near _ _)))

pub tests_joined : (g : Grid) (u v : Node) → Tests (is_joined g u v) (Joined g u v)
tests_joined g u v = tests_as (joined_iff g u v).1 (joined_iff g u v).0 (tests_neighbours g u v)

-- ---- the same node

side_no_lem : (s : Side) → In (side_no s) 4 × (side_at (side_no s) ≡ s)
side_no_lem north = (omega arith, refl)
side_no_lem south = (omega arith, refl)
side_no_lem west = (omega arith, refl)
side_no_lem east = (omega arith, refl)

pub tests_same : (u v : Node) → Tests (is_same u v) (u ≡ v)
tests_same u v = (same_eq u v, λ e. subst (λ (z : Node). is_same u z ≡ true) e (same_refl u))
  where
    same_eq : (u v : Node) → is_same u v ≡ true → u ≡ v
    same_eq (pin s a) (pin t b) e =
        let h = (tests_and _ _ (tests_eq (side_no s) (side_no t)) (tests_eq a b)).0 e in
        let q : s ≡ t = sym (side_no_lem s).1 ∙ ap side_at h.0 ∙ (side_no_lem t).1 in
        λ d. pin (q d) (h.1 d)
    same_eq (pin s a) (point i j l) e = absurd (false≢true e)
    same_eq (point i j l) (pin s a) e = absurd (false≢true e)
    same_eq (point i j l) (point i' j' l') e =
        let h = (tests_eq3 i i' j j' l l').0 e in
        λ d. point (h.0 d) (h.1 d) (h.2 d)

    same_refl : (u : Node) → is_same u u ≡ true
    same_refl (pin s a) = (tests_and _ _ (tests_eq (side_no s) (side_no s)) (tests_eq a a)).1 (refl, refl)
    same_refl (point i j l) = (tests_eq3 i i j j l l).1 (refl, refl, refl)

-- ---- the list of nodes

module _ {A : Type 0} (f : ℕ → List A) where
  mem_over : (n a : ℕ) {u : A} → In a n → Mem u (f a) → Mem u (over f n)
  mem_over zero a h m = absurd (omega arith)
  mem_over (suc n) a {u} h m =
      elim (ℕ_discrete a (suc n)) [
        | yes e ↦ mem-left (over f n) (subst (λ (b : ℕ). Mem u (f b)) e m)
        | no o ↦ mem-right (f (suc n)) (mem_over n a (omega arith) m)
      ]

  over_mem : (n : ℕ) {u : A} → Mem u (over f n) → (a : ℕ) × In a n × Mem u (f a)
  over_mem zero m = absurd (not-nil m)
  over_mem (suc n) m = ⊎_elim (λ e. (suc n, omega arith, e)) (λ o. let r = over_mem n o in (r.0, omega (arith, r.1), r.2)) (mem-either (f (suc n)) m)

mem_node : (g : Grid) (u : Node) → Inside g u → Mem u (nodes g)
mem_node g (pin s a) h =
    let (i, e) = side_no_lem s in
    let m : Mem (pin s a) (nodes_on g s) = mem_over (λ a. pin s a ∷ []) (places g s) a h (head refl) in
    mem-left _ (mem_over (λ b. nodes_on g (side_at b)) 4 (side_no s) i (subst (λ (t : Side). Mem (pin s a) (nodes_on g t)) (sym e) m))
mem_node g (point i j l) h =
    mem-right (pin_nodes g)
    (mem_over (on_layer g) g.k l h.2 (mem_over (on_track g l) g.w j h.1 (mem_over (λ i. point i j l ∷ []) g.n i h.0 (head refl))))

node_mem : (g : Grid) (u : Node) → Mem u (nodes g) → Inside g u
node_mem g u m = ⊎_elim of_pins of_points (mem-either (pin_nodes g) m)
  where
    of_pins : Mem u (pin_nodes g) → Inside g u
    of_pins m =
        let (s, i, m) = over_mem (λ b. nodes_on g (side_at b)) 4 m in
        let (a, j, m) = over_mem (λ a. pin (side_at s) a ∷ []) (places g (side_at s)) m in
        let e : u ≡ pin (side_at s) a = eq_of_singleton m in
        subst (Inside g) (sym e) j

    of_points : Mem u (over (on_layer g) g.k) → Inside g u
    of_points m =
        let (l, c, m) = over_mem (on_layer g) g.k m in
        let (j, b, m) = over_mem (on_track g l) g.w m in
        let (i, a, m) = over_mem (λ i. point i j l ∷ []) g.n m in
        let e : u ≡ point i j l = eq_of_singleton m in
        subst (Inside g) (sym e) (a, b, c)

pub in_nodes : (g : Grid) (u : Node) → Mem u (nodes g) ↔ Inside g u
in_nodes g u = (node_mem g u, mem_node g u)
