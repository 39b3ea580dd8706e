-- A channel whose every track brings the wires of one net together is legal: from the south up, the nodes of a net below a cut are linked
-- to where the net stands in the cut, and, from the net's first track on, to the trunk of that track.
use Prim.Native.Nat.{ℕ, zero, suc, ◌≤◌, ◌<◌}
use mathlib.Core.Path.{◌≡◌, refl, sym, ◌∙◌}
use mathlib.Core.Logic.{◌⊎◌, inl, inr, ◌≢◌, by_cases, ⊎_elim}
use mathlib.Core.Bool.{cond, ◌&&◌, and-eq-true_iff}
use native.Mathlib.Omega.{arith}
use native.Mathlib.Decide.{ℕ_discrete, dec_le}
use borrow.Author.Tests.{leb-true, le-leb}
use lib.Dec.{leb}
use Rattle.counting.specs.Counting.{In}
use Rattle.counting.proofs.Sums.{split}
use Rattle.terms.specs.Kinds.{Side, north, south, west, east}
use Rattle.grid.specs.Grid.{Node, upright, pin, point, track_of, via, along_column, north_pin, south_pin}
use Rattle.grid.specs.Legal.{Pins, Wiring, Held, Linked, stay, Legal}
use Rattle.grid.proofs.Pins.{Bare}
use Rattle.grid.proofs.Chains.{Between, link, join, back, hub, track}

-- a column of a track holds v, and a and b in the cuts at both sides: only the net y of the track ends or begins here
pub record Crossing (y v a b : ℕ) : Type 0 where
  pub near : a ≢ 0 → v ≡ a
  pub far : b ≢ 0 → v ≡ b
  pub passes : v ≢ y → (a ≡ v) × (b ≡ v)

-- track j lies between two cuts; its trunk, of net y from column low to column high, reaches all columns in which the track has y
pub record Track (n : ℕ) (x : Wiring) (j : ℕ) (under over : ℕ → ℕ) (y low high : ℕ) : Type 0 where
  pub column : (c : ℕ) → In c n → Crossing y (x c j 1) (under c) (over c)
  pub trunk : (c : ℕ) → In c n → x c j 2 ≡ cond (leb low c && leb c high) y 0
  pub ends : (1 ≤ low) × (high ≤ n)
  pub reaches : (c : ℕ) → In c n → y ≢ 0 → x c j 1 ≡ y → (low ≤ c) × (c ≤ high)

-- the cuts from the south pins to the north pins, cut r over r tracks, and the net and the trunk's ends of the track over each cut
pub record Tracked (n w : ℕ) (p : Pins) (x : Wiring) : Type 0 where
  pub cut : ℕ → ℕ → ℕ
  pub net : ℕ → ℕ
  pub low : ℕ → ℕ
  pub high : ℕ → ℕ
  pub wide : 1 ≤ w
  pub first : (c : ℕ) → In c n → cut 0 c ≡ p south c
  pub last : (c : ℕ) → In c n → cut w c ≡ p north c
  pub rows : (r : ℕ) → r < w → Track n x (suc r) (cut r) (cut (suc r)) (net r) (low r) (high r)
  pub again : (s r : ℕ) → s < r → r < w → net r ≢ 0 → net s ≡ net r → (c : ℕ) × In c n × (cut r c ≡ net r)
  pub pinned : (r : ℕ) → r < w → net r ≢ 0 → (s : Side) × (a : ℕ) × Held (upright n w 2) p x (net r) (pin s a)
  pub straight : (m a b : ℕ) → m ≢ 0 → ((r : ℕ) → r < w → net r ≢ m) → In a n → In b n → p north a ≡ m → p north b ≡ m → a ≡ b

-- the node under cut r in column c
abbrev foot : ℕ → ℕ → Node
foot zero c = pin south c
foot (suc r) c = point c (suc r) 1

-- below cut r no track is of net m, and its nodes there lead to the cut; or one is, and they are linked to one node
record Untied {n w : ℕ} {p : Pins} {x : Wiring} (f : Tracked n w p x) (m r : ℕ) : Type 0 where
  none : (s : ℕ) → s < r → f.net s ≢ m
  leads : (u : Node) → Held (upright n w 2) p x m u → track_of (upright n w 2) u ≤ r
      → (c : ℕ) × In c n × (f.cut r c ≡ m) × Linked (upright n w 2) p x m u (foot r c)

record Tied {n w : ℕ} {p : Pins} {x : Wiring} (f : Tracked n w p x) (m r : ℕ) : Type 0 where
  before : ℕ
  lower : before < r
  same : f.net before ≡ m
  anchor : Node
  leads : (u : Node) → Held (upright n w 2) p x m u → track_of (upright n w 2) u ≤ r → Linked (upright n w 2) p x m u anchor

module _ {n w : ℕ} {p : Pins} {x : Wiring} (f : Tracked n w p x) (bw : Bare p west) (be : Bare p east) (m : ℕ) (nz : m ≢ 0) where
  -- where net m stands in a cut, the nodes under and over the cut hold it and are joined
  under : (r c : ℕ) → r ≤ w → In c n → f.cut r c ≡ m → Held (upright n w 2) p x m (foot r c)
  under zero c h i e = record { inside = i; net = sym (f.first c i) ∙ e }
  under (suc r) c h i e = record {
    inside = (i, omega arith, omega arith);
    net = ((f.rows r (omega arith)).column c i).far (λ z. nz (sym e ∙ z)) ∙ e;
  }

  over : (r c : ℕ) → r < w → In c n → f.cut r c ≡ m → Held (upright n w 2) p x m (point c (suc r) 1)
  over r c h i e = record {
    inside = (i, omega arith, omega arith);
    net = ((f.rows r h).column c i).near (λ z. nz (sym e ∙ z)) ∙ e;
  }

  rung : (r c : ℕ) → r < w → In c n → f.cut r c ≡ m → Linked (upright n w 2) p x m (foot r c) (point c (suc r) 1)
  rung zero c h i e = link (pin south c) (point c 1 1) (under 0 c (omega arith) i e) (inl (south_pin refl)) (over 0 c h i e)
  rung (suc r) c h i e =
      let k = under (suc r) c (omega arith) i e in
      link (point c (suc r) 1) (point c (suc (suc r)) 1) k (inl (along_column refl)) (over (suc r) c h i e)

  crown : (r c : ℕ) → w ≡ r → In c n → f.cut r c ≡ m → p north c ≡ m → Linked (upright n w 2) p x m (pin north c) (foot r c)
  crown zero c h i e t = absurd (omega (arith, f.wide))
  crown (suc r) c h i e t =
      let k = under (suc r) c (omega arith) i e in
      link (pin north c) (point c (suc r) 1) (record { inside = i; net = t }) (inl (rw (← h) (north_pin refl))) k

  -- a track of net m: its points of net m are linked to the trunk's first point
  trunk_holds : (r c : ℕ) → r < w → f.net r ≡ m → Between (f.low r) (f.high r) c → Held (upright n w 2) p x m (point c (suc r) 2)
  trunk_holds r c h e b = let q = (f.rows r h).ends in let i : In c n = omega arith in record {
    inside = (i, omega arith, omega arith);
    net = (f.rows r h).trunk c i ∙ rw (le-leb (f.low r) c b.0, le-leb c (f.high r) b.1) e;
  }

  along : (r c : ℕ) → r < w → f.net r ≡ m → Between (f.low r) (f.high r) c
      → Linked (upright n w 2) p x m (point c (suc r) 2) (point (f.low r) (suc r) 2)
  along r c h e b = track (suc r) 2 (f.low r) (f.high r) refl (λ t. trunk_holds r t h e) c (f.low r) b (omega arith)

  from_row : (r c : ℕ) → r < w → f.net r ≡ m → Held (upright n w 2) p x m (point c (suc r) 1)
      → Linked (upright n w 2) p x m (point c (suc r) 1) (point (f.low r) (suc r) 2)
  from_row r c h e k =
      let b = (f.rows r h).reaches c k.inside.0 (λ z. nz (sym e ∙ z)) (k.net ∙ sym e) in
      join (link (point c (suc r) 1) (point c (suc r) 2) k (inl via) (trunk_holds r c h e b)) (along r c h e b)

  onto : (r c : ℕ) → r < w → In c n → f.cut r c ≡ m → f.net r ≡ m
      → Linked (upright n w 2) p x m (foot r c) (point (f.low r) (suc r) 2)
  onto r c h i s e = join (rung r c h i s) (from_row r c h e (over r c h i s))

  in_trunk : (r c : ℕ) → r < w → Held (upright n w 2) p x m (point c (suc r) 2) → (f.net r ≡ m) × Between (f.low r) (f.high r) c
  in_trunk r c h k =
      let e = sym ((f.rows r h).trunk c k.inside.0) ∙ k.net in
      split (leb (f.low r) c && leb c (f.high r))
      (λ q. let (a, b) = (and-eq-true_iff (leb (f.low r) c) (leb c (f.high r))).0 q in
      ((rw q at e), (leb-true (f.low r) c a, leb-true c (f.high r) b)))
      (λ q. absurd (nz (sym (rw q at e))))

  -- a node below cut r + 1 is below cut r, or in the track between
  arrive : {C : Node → Type 0} (r : ℕ) → r < w → ((u : Node) → Held (upright n w 2) p x m u → track_of (upright n w 2) u ≤ r → C u)
      → ((c : ℕ) → Held (upright n w 2) p x m (point c (suc r) 1) → C (point c (suc r) 1))
      → ((c : ℕ) → Held (upright n w 2) p x m (point c (suc r) 2) → C (point c (suc r) 2))
      → (u : Node) → Held (upright n w 2) p x m u → track_of (upright n w 2) u ≤ suc r → C u
  arrive r h old row trunk (pin north a) k t = absurd (omega arith)
  arrive r h old row trunk (pin south a) k t = old (pin south a) k (omega arith)
  arrive r h old row trunk (pin west a) k t = absurd (nz (sym k.net ∙ bw a))
  arrive r h old row trunk (pin east a) k t = absurd (nz (sym k.net ∙ be a))
  arrive r h old row trunk (point c j l) k t = elim (dec_le j r) [
    | yes b ↦ old (point c j l) k b
    | no b ↦ let ej : j ≡ suc r = omega arith in elim (dec_le l 1) [
      | yes d ↦ let el : l ≡ 1 = omega arith in rw (ej, el) (row c (rw (ej, el) at k))
      | no d ↦ let el : l ≡ 2 = omega arith in rw (ej, el) (trunk c (rw (ej, el) at k))
    ]
  ]

  -- past a track of net m its nodes are tied; past a track of another net they stay as they are
  gathered : (r : ℕ) → r < w → f.net r ≡ m
      → ((u : Node) → Held (upright n w 2) p x m u → track_of (upright n w 2) u ≤ r
      → Linked (upright n w 2) p x m u (point (f.low r) (suc r) 2)) → Tied f m (suc r)
  gathered r h e old = record {
    before = r;
    lower = omega arith;
    same = e;
    anchor = point (f.low r) (suc r) 2;
    leads = arrive r h old (λ c. from_row r c h e) (λ c k. along r c h e (in_trunk r c h k).1);
  }

  passed : (r c : ℕ) → r < w → f.net r ≢ m → Held (upright n w 2) p x m (point c (suc r) 1)
      → (f.cut r c ≡ m) × (f.cut (suc r) c ≡ m)
  passed r c h ne k =
      let (a, b) = ((f.rows r h).column c k.inside.0).passes (λ z. ne (sym z ∙ k.net)) in
      (a ∙ k.net, b ∙ k.net)

  untied_past : (r : ℕ) → r < w → Untied f m r → Untied f m (suc r) ⊎ Tied f m (suc r)
  untied_past r h q = by_cases (ℕ_discrete (f.net r) m)
      (λ e. inr (gathered r h e (λ u k t. let (c, i, s, d) = q.leads u k t in
      join d (onto r c h i s e))))
      (λ ne. inl (record {
        none = λ s b. by_cases (ℕ_discrete s r) (λ e. rw e ne) (λ z. q.none s (omega arith));
        leads = arrive r h
            (λ u k t. let (c, i, s, d) = q.leads u k t in (c, i, (passed r c h ne (over r c h i s)).1, join d (rung r c h i s)))
            (λ c k. (c, k.inside.0, (passed r c h ne k).1, stay k)) (λ c k. absurd (ne (in_trunk r c h k).0));
      }))

  foot_track : (r c : ℕ) → track_of (upright n w 2) (foot r c) ≤ r
  foot_track zero c = omega arith
  foot_track (suc r) c = omega arith

  tied_past : (r : ℕ) → r < w → Tied f m r → Tied f m (suc r)
  tied_past r h q = by_cases (ℕ_discrete (f.net r) m)
      (λ e. let (c, i, s) = f.again q.before r q.lower h (λ z. nz (sym e ∙ z)) (q.same ∙ sym e) in
      gathered r h e (λ u k t. join (hub (q.leads u k t) (low c i (s ∙ e))) (onto r c h i (s ∙ e) e)))
      (λ ne. record {
        before = q.before;
        lower = omega (arith, q.lower);
        same = q.same;
        anchor = q.anchor;
        leads = arrive r h q.leads
            (λ c k. let s = (passed r c h ne k).0 in join (back (rung r c h k.inside.0 s)) (low c k.inside.0 s))
            (λ c k. absurd (ne (in_trunk r c h k).0));
      })
    where
      low : (c : ℕ) → In c n → f.cut r c ≡ m → Linked (upright n w 2) p x m (foot r c) q.anchor
      low c i s = q.leads (foot r c) (under r c (omega arith) i s) (foot_track r c)

  state : (r : ℕ) → r ≤ w → Untied f m r ⊎ Tied f m r
  state zero h = inl (record { none = λ s b. absurd (omega arith); leads = pins })
    where
      pins : (u : Node) → Held (upright n w 2) p x m u → track_of (upright n w 2) u ≤ 0
          → (c : ℕ) × In c n × (f.cut 0 c ≡ m) × Linked (upright n w 2) p x m u (foot 0 c)
      pins (pin north a) k t = absurd (omega arith)
      pins (pin south a) k t = (a, k.inside, f.first a k.inside ∙ k.net, stay k)
      pins (pin west a) k t = absurd (nz (sym k.net ∙ bw a))
      pins (pin east a) k t = absurd (nz (sym k.net ∙ be a))
      pins (point c j l) k t = absurd (omega arith)
  state (suc r) h = ⊎_elim (untied_past r h) (λ q. inr (tied_past r h q)) (state r (omega arith))

  -- a north pin stands over the last cut, every other node below it
  ascend : {C : Node → Type 0} → ((u : Node) → Held (upright n w 2) p x m u → track_of (upright n w 2) u ≤ w → C u)
      → ((a : ℕ) → Held (upright n w 2) p x m (pin north a) → C (pin north a)) → (u : Node) → Held (upright n w 2) p x m u → C u
  ascend low top (pin north a) k = top a k
  ascend low top (pin south a) k = low (pin south a) k (omega arith)
  ascend low top (pin west a) k = absurd (nz (sym k.net ∙ bw a))
  ascend low top (pin east a) k = absurd (nz (sym k.net ∙ be a))
  ascend low top (point c j l) k = low (point c j l) k (omega arith)

  top_cut : (a : ℕ) → Held (upright n w 2) p x m (pin north a) → f.cut w a ≡ m
  top_cut a k = f.last a k.inside ∙ k.net

  all_linked : (u v : Node) → Held (upright n w 2) p x m u → Held (upright n w 2) p x m v → Linked (upright n w 2) p x m u v
  all_linked u v h k = ⊎_elim untied tied (state w (omega arith))
    where
      to_cut : Untied f m w → (u : Node) → Held (upright n w 2) p x m u
          → (c : ℕ) × In c n × (f.cut w c ≡ m) × Linked (upright n w 2) p x m u (foot w c)
      to_cut q = ascend q.leads (λ a t. (a, t.inside, top_cut a t, crown w a refl t.inside (top_cut a t) t.net))

      untied : Untied f m w → Linked (upright n w 2) p x m u v
      untied q =
          let (a, i, s, d) = to_cut q u h in
          let (b, j, t, e) = to_cut q v k in
          let same : b ≡ a = f.straight m b a nz q.none j i (sym (f.last b j) ∙ t) (sym (f.last a i) ∙ s) in
          hub d (rw same at e)

      to_anchor : (q : Tied f m w) (u : Node) → Held (upright n w 2) p x m u → Linked (upright n w 2) p x m u q.anchor
      to_anchor q = ascend q.leads (λ a t. join (crown w a refl t.inside (top_cut a t) t.net)
          (q.leads (foot w a) (under w a (omega arith) t.inside (top_cut a t)) (foot_track w a)))

      tied : Tied f m w → Linked (upright n w 2) p x m u v
      tied q = hub (to_anchor q u h) (to_anchor q v k)

  -- a net of a track has a pin, and every other net stands over a south pin
  owned : (r : ℕ) → r < w → f.net r ≡ m → (s : Side) × (a : ℕ) × Held (upright n w 2) p x m (pin s a)
  owned r h e = let (s, a, k) = f.pinned r h (λ z. nz (sym e ∙ z)) in (s, a, record { inside = k.inside; net = k.net ∙ e })

  rooted : (r c : ℕ) → r < w → Held (upright n w 2) p x m (point c (suc r) 1)
      → (s : Side) × (a : ℕ) × Held (upright n w 2) p x m (pin s a)
  rooted zero c h k = by_cases (ℕ_discrete (f.net 0) m) (owned 0 h)
      (λ ne. (south, c, under 0 c (omega arith) k.inside.0 (passed 0 c h ne k).0))
  rooted (suc r) c h k = by_cases (ℕ_discrete (f.net (suc r)) m) (owned (suc r) h)
      (λ ne. rooted r c (omega arith) (under (suc r) c (omega arith) k.inside.0 (passed (suc r) c h ne k).0))

  known : (c j l : ℕ) → Held (upright n w 2) p x m (point c j l) → (s : Side) × (a : ℕ) × Held (upright n w 2) p x m (pin s a)
  known c zero l k = absurd (omega arith)
  known c (suc r) l k = elim (dec_le l 1) [
    | yes d ↦ let el : l ≡ 1 = omega arith in rooted r c (omega arith) (rw el at k)
    | no d ↦ let el : l ≡ 2 = omega arith in owned r (omega arith) (in_trunk r c (omega arith) (rw el at k)).0
  ]

pub tracked_legal : {n w : ℕ} {p : Pins} {x : Wiring} → Bare p west → Bare p east → Tracked n w p x → Legal (upright n w 2) p x
tracked_legal bw be f = record {
  known = λ m c j l nz. known f bw be m nz c j l;
  whole = λ m u v nz. all_linked f bw be m nz u v;
}
