-- A net is broken just where two of the nodes that hold it have no path through them: paths are links, and links are paths, by Warshall's argument.
use Prim.Native.Nat.{ℕ}
use mathlib.Core.Path.{◌≡◌, refl, ap, subst}
use mathlib.Core.Logic.{◌⊎◌, inl, inr, ⊎_elim, ◌↔◌}
use mathlib.Core.Bool.{true, false, not}
use mathlib.Core.List.Memᴰ.{head}
use mathlib.Core.List.Memᴰ.{tail}
use mathlib.Core.List.{List, [], ◌∷◌, Memᴰ as Mem}
use lib.Dec.{eqb}
use borrow.Author.Tests.{not-true}
use Rattle.counting.proofs.Sums.{split}
use Rattle.grid.specs.Grid.{Grid, Node, Joined}
use Rattle.grid.specs.Legal.{Pins, Wiring, holds, Held, Linked, stay, step}
use Rattle.grid.proofs.Chains.{last, join}
use Rattle.checker.specs.Check.{OnePiece, Broken}
use Rattle.table.specs.Decide.{nodes, any, has_path, holding, is_broken}
use Rattle.table.proofs.Tests.{Tests, fails, tests_eq, tests_and, tests_or, tests_any, kept}
use Rattle.table.proofs.Nodes.{tests_joined, tests_same, in_nodes}

-- ---- paths

module _ (g : Grid) where
  abbrev Path : List Node → Node → Node → Type 0
  Path [] u v = Joined g u v ⊎ (u ≡ v)
  Path (z ∷ l) u v = Path l u v ⊎ (Path l u z × Path l z v)

  tests_path : (l : List Node) (u v : Node) → Tests (has_path g l u v) (Path l u v)
  tests_path [] u v = tests_or _ _ (tests_joined g u v) (tests_same u v)
  tests_path (z ∷ l) u v = tests_or _ _ (tests_path l u v) (tests_and _ _ (tests_path l u z) (tests_path l z v))

  path_at_once : (l : List Node) (u v : Node) → Joined g u v ⊎ (u ≡ v) → Path l u v
  path_at_once [] u v h = h
  path_at_once (z ∷ l) u v h = inl (path_at_once l u v h)

  -- two paths that meet at a node of the list
  path_through : {w : Node} {l : List Node} (u v : Node) → Mem w l → Path l u w → Path l w v → Path l u v
  path_through u v (head {x = z} {xs = l} e) a b =
      inr (
        ⊎_elim (λ h. h) (λ h. h.0) (subst (λ (w : Node). Path (z ∷ l) u w) e a),
        ⊎_elim (λ h. h) (λ h. h.1)
            (subst (λ (w : Node). Path (z ∷ l) w v) e b),
      )
  path_through u v (tail m) (inl a) (inl b) = inl (path_through u v m a b)
  path_through u v (tail {x = z} m) (inl a) (inr (b, c)) = inr (path_through u z m a b, c)
  path_through u v (tail {x = z} m) (inr (a, b)) (inl c) = inr (a, path_through z v m b c)
  path_through u v (tail m) (inr (a, b)) (inr (c, d)) = inr (a, d)

-- ---- the nodes of net m

module _ (g : Grid) (p : Pins) (x : Wiring) (m : ℕ) where
  abbrev held : List Node
  held = holding g p x m

  in_held : (u : Node) → Mem u held ↔ Held g p x m u
  in_held u =
      let k = kept (λ u. eqb (holds p x u) m) (nodes g) {a = u} in (
        λ i. record { inside = (in_nodes g u).0 (k.0 i).0; net = (tests_eq (holds p x u) m).0 (k.0 i).1 },
        λ h. k.1 ((in_nodes g u).1 h.inside, (tests_eq (holds p x u) m).1 h.net),
      )

  path_linked : (l : List Node) (u v : Node) → ((z : Node) → Mem z l → Held g p x m z) → Held g p x m u → Held g p x m v → Path g l u v → Linked g p x m u v
  path_linked [] u v all a b (inl j) = step (stay a) j b
  path_linked [] u v all a b (inr e) = subst (λ (z : Node). Linked g p x m u z) e (stay a)
  path_linked (z ∷ l) u v all a b (inl h) = path_linked l u v (λ y i. all y (tail i)) a b h
  path_linked (z ∷ l) u v all a b (inr (h, k)) =
      let c = all z (head refl) in
      join (path_linked l u z (λ y i. all y (tail i)) a c h) (path_linked l z v (λ y i. all y (tail i)) c b k)

  linked_path : {u v : Node} → Linked g p x m u v → Path g held u v
  linked_path (stay {u = u} h) = path_at_once g held u u (inr refl)
  linked_path (step {u = u} {v = v} {z = z} c j h) = path_through g u z ((in_held v).1 (last c)) (linked_path c) (path_at_once g held v z (inl j))

  pub broken : is_broken g p x m ≡ true → Broken g p x m
  broken e =
      let (u, i, f) = (tests_any (λ u. any (λ v. not (has_path g held u v)) held) held).0 e in
      let (v, j, n) = (tests_any (λ v. not (has_path g held u v)) held).0 f in
      record {
        one = u;
        other = v;
        held_one = (in_held u).0 i;
        held_other = (in_held v).0 j;
        apart = λ c. fails (tests_path g held u v) (not-true (has_path g held u v) n) (linked_path c);
      }

  pub whole : is_broken g p x m ≡ false → OnePiece g p x m
  whole e u v a b =
      split (has_path g held u v) (λ t. path_linked held u v (λ z. (in_held z).0) a b ((tests_path g held u v).0 t))
      (λ f. absurd (fails (tests_any (λ u. any (λ v. not (has_path g held u v)) held) held) e
      (u, (in_held u).1 a, (tests_any (λ v. not (has_path g held u v)) held).1 (v, (in_held v).1 b, ap not f))))
