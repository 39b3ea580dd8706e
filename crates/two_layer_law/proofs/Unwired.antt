-- A solid channel has no wiring of two layers: its one vertical layer holds each net once in each track, so a net never leaves its column.
use Prim.Native.Nat.{ℕ, zero, suc, ◌+◌, ◌≤◌}
use mathlib.Core.Path.{◌≡◌, refl, subst, sym, ap, ◌∙◌}
use mathlib.Core.Logic.{◌⊎◌, inl, inr, ⊎_map, by_cases}
use mathlib.Core.Bool.{true, cond}
use native.Mathlib.Decide.{ℕ_discrete, dec_le}
use native.Mathlib.Numerals.{add-one}
use native.Mathlib.Omega.{arith}
use lib.Dec.{eqb, leb, ltb}
use borrow.Author.Tests.{ne_eqb, le-leb, lt-leb, lt-ltb, le-ltb}
use Rattle.counting.specs.Counting.{In, bit}
use Rattle.counting.proofs.Sums.{bit_le}
use Rattle.terms.specs.Kinds.{north, south}
use Rattle.grid.specs.Grid.{Grid, Node, pin, Vertical, track_of}
use Rattle.grid.specs.Grid.{Edge, along_column, along_track, via, north_pin, south_pin, west_pin, east_pin}
use Rattle.grid.specs.Legal.{Pins, Wiring, Held, Legal}
use Rattle.density.proofs.Crossing.{border}
use Rattle.two_layer_law.specs.Solid.{solid}
use Rattle.two_layer_law.specs.Channels.{Channel}
use Rattle.counting.proofs.Tests.{no_second}
use Rattle.two_layer_law.proofs.Solidity.{Solid, solid_in}

module _ (g : Grid) (p : Pins) (x : Wiring) (two : g.k ≡ 2) where
  -- the vertical layer
  abbrev upright : ℕ
  upright = 1 + bit g.first

  upright_only : (l : ℕ) → In l g.k → Vertical g l → l ≡ upright
  upright_only l i v = omega (arith, bit_le g.first)

  -- the net of column c at height t: the south pin at 0, the vertical layer in each track, the north pin past them
  unfoldable rung : ℕ → ℕ → ℕ
  rung c t = cond (eqb t 0) (p south c) (cond (leb t g.w) (x c t upright) (p north c))

  rung_south : (c : ℕ) → rung c 0 ≡ p south c
  unfolding rung
  rung_south c = refl

  rung_point : (c t l m : ℕ) → In t g.w → In l g.k → Vertical g l → x c t l ≡ m → rung c t ≡ m
  unfolding rung
  rung_point c t l m i j v e = rw (ne_eqb t 0 (omega arith), le-leb t g.w i.1) (ap (x c t) (sym (upright_only l j v)) ∙ e)

  rung_north : (c : ℕ) → rung c (suc g.w) ≡ p north c
  unfolding rung
  rung_north c = rw (ne_eqb (suc g.w) 0 (omega arith), lt-leb (suc g.w) g.w (omega arith))

  -- net m passes from height t to the next within a column
  abbrev Climbs : ℕ → ℕ → Type 0
  Climbs m t = (c : ℕ) × In c g.n × (rung c t ≡ m) × (rung c (suc t) ≡ m)

  -- whether a node stands above height t
  abbrev above : ℕ → Node → ℕ
  above t u = bit (ltb t (track_of g u))

  -- an edge stays on one side of height t and the next, or net m passes between them
  abbrev Passed : ℕ → ℕ → ℕ → ℕ → Type 0
  Passed m t a b = (a ≡ b) ⊎ ((b ≤ suc a) × (a ≤ suc b) × Climbs m t × Climbs m t)

  over : (m t c j : ℕ) → In c g.n → rung c j ≡ m → rung c (suc j) ≡ m → Passed m t (bit (ltb t j)) (bit (ltb t (suc j)))
  over m t c j i e f =
      by_cases (ℕ_discrete j t)
      (λ q. let k : Climbs m t = (c, i, rw q at e, rw q at f) in
      inr (omega (arith, bit_le (ltb t (suc j))), omega (arith, bit_le (ltb t j)), k, k))
      (λ ne. inl (elim (dec_le j t) [
        | yes le ↦ rw (le-ltb t j (omega arith), le-ltb t (suc j) (omega arith))
        | no gt ↦ rw (lt-ltb t j (omega arith), lt-ltb t (suc j) (omega arith))
      ]))

  move : (m t : ℕ) (u z : Node) → Edge g u z → Held g p x m u → Held g p x m z → Passed m t (above t u) (above t z)
  move m t u z (along_column {i = i} {j = j} {l = l} v) hu hz =
      over m t i j hu.inside.0 (rung_point i j l m hu.inside.1 hu.inside.2 v hu.net)
      (rung_point i (suc j) l m hz.inside.1 hz.inside.2 v hz.net)
  move m t u z (along_track h) hu hz = inl refl
  move m t u z via hu hz = inl refl
  move m t u z (north_pin {i = i} {l = l} v) hu hz =
      rw add-one (⊎_map sym (λ s. (s.1, s.0, s.3, s.2)) (over m t i g.w hu.inside
      (rung_point i g.w l m hz.inside.1 hz.inside.2 v hz.net) (rung_north i ∙ hu.net)))
  move m t u z (south_pin {i = i} {l = l} v) hu hz =
      over m t i 0 hu.inside (rung_south i ∙ hu.net) (rung_point i 1 l m hz.inside.1 hz.inside.2 v hz.net)
  move m t u z (west_pin h) hu hz = inl refl
  move m t u z (east_pin h) hu hz = inl refl

  -- a net with a pin on each side climbs through all heights
  climbs : Legal g p x → (m a b t : ℕ) → 1 ≤ m → In a g.n → In b g.n → p south a ≡ m → p north b ≡ m → t ≤ g.w → Climbs m t
  climbs legal m a b t h i j e f le =
      (border (above t) (λ s. Climbs m t) (move m t)
      (legal.whole m (pin south a) (pin north b) (omega arith) (record { inside = i; net = e }) (record { inside = j; net = f }))
      0 (rw (le-ltb t 0 (omega arith)) (omega arith)) (rw (lt-ltb t (g.w + 1) (omega arith)) (omega arith))).0

  module _ (legal : Legal g p x) (k : Solid g.n (p north) (p south)) where
    -- so each height holds all nets, as many as it has columns: each in one column
    alone : (t c d : ℕ) → t ≤ g.w → In c g.n → In d g.n → rung c t ≡ rung d t → c ≡ d
    alone t c d le = no_second (p north) (λ c. rung c t) g.n k.matched.single each c d
      where
        each : (b : ℕ) → In b g.n → (c : ℕ) × In c g.n × (rung c t ≡ p north b)
        each b j =
            let (a, i, e) = k.matched.other b j in
            let (c, ic, u, v) = climbs legal (p north b) a b t (k.matched.full b j) i j e refl le in
            (c, ic, u)

    -- which is the same column at each height
    stays : (a b t : ℕ) → In a g.n → In b g.n → p south a ≡ p north b → t ≤ suc g.w → rung a t ≡ p north b
    stays a b zero i j e le = rung_south a ∙ e
    stays a b (suc t) i j e le =
        let (c, ic, u, v) = climbs legal (p north b) a b t (k.matched.full b j) i j e refl (omega arith) in
        let same : a ≡ c = alone t a c (omega arith) i ic (stays a b t i j e (omega arith) ∙ sym u) in
        rw same v

pub unwired : (n : ℕ) (p : Pins) (g : Grid) (x : Wiring) → Channel n p → solid p n ≡ true → g.n ≡ n → 1 ≤ g.w → g.k ≡ 2 → ¬ (Legal g p x)
unwired n p g x ch e same wide two legal =
    let k : Solid g.n (p north) (p south) = subst (λ n. Solid n (p north) (p south)) (sym same) (solid_in n p ch e) in
    let (b, a, ib, ia, q, ne) = k.crooked_net in
    let top = stays g p x two legal k a b (suc g.w) ia ib (sym q) (omega arith) in
    ne (k.matched.single b a ib ia (sym top ∙ rung_north g p x two a))
