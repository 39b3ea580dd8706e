-- Once the marks have settled, a net is in one piece just where all that holds it is marked: its first pin, the only mark of the net that they began
-- with, is linked to just what is marked.
use Prim.Native.Nat.{ℕ, zero, suc, ◌+◌, ◌<◌}
use mathlib.Core.Path.{◌≡◌, refl, sym, ap, ◌∙◌, subst}
use mathlib.Core.Logic.{◌⊎◌, inl, inr, ◌≢◌}
use mathlib.Core.List.{List}
use native.Mathlib.Omega.{arith}
use native.Mathlib.Decide.{ℕ_discrete, dec_lt}
use Rattle.grid.specs.Grid.{Grid, Node, pin, point, Inside, Edge}
use Rattle.grid.specs.Legal.{Pins, Wiring, holds, Held, Linked, stay, step, wiring_of}
use Rattle.grid.proofs.Chains.{last, join, back}
use Rattle.check_sweep.specs.Reached as mk
use Rattle.check_link.specs.Marks.{at}
use Rattle.check_sweep.specs.Reached.{Spot, a_pin, val, Reach}
use Rattle.check_sweep.specs.Pins.{pin_at, Edges}
use Rattle.check_sweep.proofs.Places.{spot, join_of, found, node_once}
use Rattle.checker.specs.Check.{OnePiece, Broken}
use Rattle.check_scan.specs.Scan.{First}
use Rattle.checker.specs.Marking.{PinsListed, Marking}

-- the first place that holds m, where place b + d holds it and none before b does
first_from : (P : List ℕ) (m : ℕ) → m ≢ 0 → (d b : ℕ) → at P (b + d) ≡ m → ((c : ℕ) → c < b → at P c ≢ m) → (a : ℕ) × (at P a ≡ m) × First P a
first_from P m ne zero b e f =
    let h : at P b ≡ m = ap (at P) (omega arith) ∙ e in
    (b, h, record { some = λ z. ne (sym h ∙ z); none = λ c l q. f c l (q ∙ h) })
first_from P m ne (suc d) b e f =
    elim (ℕ_discrete (at P b) m) [
      | yes h ↦ (b, h, record { some = λ z. ne (sym h ∙ z); none = λ c l q. f c l (q ∙ h) })
      | no o ↦
          first_from P m ne d (suc b) (ap (at P) (omega arith) ∙ e)
          (λ c l. elim (ℕ_discrete c b) [ yes z ↦ λ u. o (sym (ap (at P) z) ∙ u) | no z ↦ f c (omega arith) ])
    ]

first_once : (P : List ℕ) (a b : ℕ) → First P a → First P b → at P a ≡ at P b → a ≡ b
first_once P a b f h e =
    elim (dec_lt a b) [
      | yes l ↦ absurd (h.none a l e)
      | no n ↦ elim (dec_lt b a) [ yes l ↦ absurd (f.none b l (sym e)) | no o ↦ omega arith ]
    ]

module _ {g : Grid} {p : Pins} {P X S M : List ℕ} (listed : PinsListed g p P) (k : Marking g P X S M) where
  abbrev x : Wiring
  x = wiring_of g X

  pub value : (u : Node) → Inside g u → holds p x u ≡ val P X (spot g u)
  value (pin s a) i = listed.there s a i
  value (point i j l) h = refl

  -- f is the only mark of net m that the marks began with
  module _ (m : ℕ) (f : Node) (held : Held g p x m f) (began : val k.s₀ k.m₀ (spot g f) ≢ 0)
      (alone : (u : Node) → Held g p x m u → val k.s₀ k.m₀ (spot g u) ≢ 0 → u ≡ f) where
    seen_linked : {a : Spot} → Reach (val P X) (val k.s₀ k.m₀) (Edges g) a → (u : Node) → Held g p x m u → a ≡ spot g u → Linked g p x m f u
    seen_linked (mk.here h) u o e =
        subst (Linked g p x m f) (sym (alone u o (λ z. h (ap (val k.s₀ k.m₀) e ∙ z)))) (stay held)
    seen_linked {a} (mk.on {a = b} r j q) u o e =
        let d = found g listed.long.0 listed.wide.0 b a j in
        let h : Held g p x m d.u = record {
          inside = d.in_u;
          net = value d.u d.in_u ∙ sym (ap (val P X) d.at_u) ∙ q ∙ ap (val P X) e ∙ sym
              (value u o.inside) ∙ o.net;
        } in
        let i = node_once g listed.long.1 listed.wide.1 d.v u d.in_v o.inside (sym d.at_v ∙ e) in
        step (seen_linked r d.u h d.at_u) (inl (subst (λ (z : Node). Edge g d.u z) i d.edge)) o
    seen_linked {a} (mk.back {b = b} r j q) u o e =
        let d = found g listed.long.0 listed.wide.0 a b j in
        let h : Held g p x m d.v = record {
          inside = d.in_v;
          net = value d.v d.in_v ∙ sym (ap (val P X) d.at_v) ∙ sym q ∙ ap (val P X) e
              ∙ sym (value u o.inside) ∙ o.net;
        } in
        let i = node_once g listed.long.1 listed.wide.1 d.u u d.in_u o.inside (sym d.at_u ∙ e) in
        step (seen_linked r d.v h d.at_v) (inr (subst (λ (z : Node). Edge g z d.v) i d.edge)) o

    across : (v z : Node) → Edges g (spot g v) (spot g z) ⊎ Edges g (spot g z) (spot g v) → val P X (spot g v) ≡ val P X (spot g z)
        → val S M (spot g v) ≢ 0 → val S M (spot g z) ≢ 0
    across v z (inl e) q s = (k.settled.shut (spot g v) (spot g z) e q).0 s
    across v z (inr e) q s = (k.settled.shut (spot g z) (spot g v) e (sym q)).1 s

    linked_seen : {u : Node} → Linked g p x m f u → val S M (spot g u) ≢ 0
    linked_seen (stay h) = k.settled.grown.keep (spot g f) began
    linked_seen (step {v = v} {z = z} l j h) =
        across v z (join_of g v z (last l).inside h.inside j)
        (sym (value v (last l).inside) ∙ (last l).net ∙ sym h.net ∙ value z h.inside) (linked_seen l)

  -- a node of net m from which just what is marked is linked
  pub record Hub (m : ℕ) : Type 0 where
    pub node : Node
    pub held : Held g p x m node
    pub linked : (u : Node) → Held g p x m u → val S M (spot g u) ≢ 0 → Linked g p x m node u
    pub seen : (u : Node) → Linked g p x m node u → val S M (spot g u) ≢ 0

  pub hub : {m : ℕ} → m ≢ 0 → (b : ℕ) → at P b ≡ m → Hub m
  hub {m} ne b e =
      let (a, q, first) = first_from P m ne b 0 (ap (at P) (omega arith) ∙ e) (λ c h. absurd (omega arith)) in
      let (s, c, i, o) = listed.back a first.some in
      let held : Held g p x m (pin s c) = record { inside = i; net = value (pin s c) i ∙ ap (at P) o ∙ q } in
      let began : val k.s₀ k.m₀ (spot g (pin s c)) ≢ 0 = λ z. k.firsts.marked a first (sym (ap (at k.s₀) o) ∙ z) in
      let alone = only a first q (pin s c) held (ap a_pin o) in
      record {
        node = pin s c;
        held = held;
        linked = λ u h z. seen_linked m (pin s c) held began alone (k.settled.grown.sound (spot g u) z) u h refl;
        seen = λ u l. linked_seen m (pin s c) held began alone l;
      }
    where
      only : (a : ℕ) → First P a → at P a ≡ m → (f : Node) → Held g p x m f → spot g f ≡ a_pin a
          → (u : Node) → Held g p x m u → val k.s₀ k.m₀ (spot g u) ≢ 0 → u ≡ f
      only a first q f h o (pin t d) w z =
          node_once g listed.long.1 listed.wide.1 (pin t d) f w.inside h.inside
          (ap a_pin (first_once P (pin_at t d) a (k.firsts.first (pin_at t d) z) first (sym (value (pin t d) w.inside) ∙ w.net ∙ sym q)) ∙ sym o)
      only a first q f h o (point i j l) w z = absurd (z (k.clear _))

  pub one_piece : {m : ℕ} → Hub m → ((u : Node) → Held g p x m u → val S M (spot g u) ≢ 0) → OnePiece g p x m
  one_piece h all u v a b = join (back (h.linked u a (all u a))) (h.linked v b (all v b))

  pub broken : {m : ℕ} → Hub m → (u : Node) → Held g p x m u → val S M (spot g u) ≡ 0 → Broken g p x m
  broken h u a z = record { one = h.node; other = u; held_one = h.held; held_other = a; apart = λ l. h.seen u l z }
