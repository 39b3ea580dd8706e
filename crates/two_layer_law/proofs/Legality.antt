-- Operations that lead from both sides to one cut are drawn as a legal wiring: of their cuts, those from the south and then those from the
-- north, each is one track from the next, as proofs/Tracks asks.
use Prim.Native.Nat.{ℕ, zero, suc, ◌+◌, ◌-◌, ◌≤◌, ◌<◌}
use mathlib.Core.Path.{◌≡◌, refl, sym, ap, ◌∙◌}
use mathlib.Core.Logic.{◌⊎◌, ◌≢◌, by_cases, ⊎_elim}
use mathlib.Core.Bool.{Bool, true, false, cond}
use native.Mathlib.Omega.{arith}
use native.Mathlib.Decide.{ℕ_discrete, dec_le}
use borrow.Author.Tests.{eqb-true, eq-eqb, lt-ltb, le-ltb, le-leb, lt-leb}
use lib.Dec.{eqb, leb, ltb}
use Rattle.counting.specs.Counting.{In}
use Rattle.terms.specs.Kinds.{Side, north, south, west, east}
use Rattle.grid.specs.Grid.{upright, pin}
use Rattle.grid.specs.Legal.{Pins, Wiring, Held, Legal}
use Rattle.grid.proofs.Pins.{Bare}
use Rattle.two_layer_law.specs.Cuts.{Ops, cut_of, row_of, trunk_of, Runs, Consistent, op_tracks, OpsDrawn}
use Rattle.two_layer_law.proofs.Tracks.{Crossing, Track, Tracked, tracked_legal}

-- one column of an operation of net y: whether it is the column that y is brought to, and whether the cut has y there
crossing : (hit same : Bool) {y a : ℕ} → (hit ≡ true → (a ≡ 0) ⊎ (a ≡ y)) → (same ≡ true → a ≡ y)
    → Crossing y (cond hit y a) a (cond hit y (cond same 0 a))
crossing true same free is = record {
  near = λ nz. ⊎_elim (λ z. absurd (nz z)) sym (free refl);
  far = λ nz. refl;
  passes = λ ne. absurd (ne refl);
}
crossing false true free is = record { near = λ nz. refl; far = λ nz. absurd (nz refl); passes = λ ne. absurd (ne (is refl)) }
crossing false false free is = record { near = λ nz. refl; far = λ nz. refl; passes = λ ne. (refl, refl) }

module _ {n : ℕ} {start : ℕ → ℕ} {o : Ops} (runs : Runs n start o) where
  crossed : (s c : ℕ) → s < o.count → In c n → Crossing (o.net s) (row_of o start s c) (cut_of o start s c) (cut_of o start (suc s) c)
  unfolding cut_of
  crossed s c h i = crossing (eqb c (o.to s)) (eqb (cut_of o start s c) (o.net s)) free (eqb-true (cut_of o start s c) (o.net s))
    where
      free : eqb c (o.to s) ≡ true → (cut_of o start s c ≡ 0) ⊎ (cut_of o start s c ≡ o.net s)
      free e = let q : c ≡ o.to s = eqb-true c (o.to s) e in rw q (runs.free s h (omega arith))

  -- a net of a cut has a pin
  begun : (s c m : ℕ) → s ≤ o.count → In c n → m ≢ 0 → cut_of o start s c ≡ m → (a : ℕ) × In a n × (start a ≡ m)
  unfolding cut_of
  begun zero c m h i nz e = (c, i, e)
  begun (suc s) c m h i nz e =
      let k = crossed s c (omega arith) i in
      let v = k.far (λ z. nz (sym e ∙ z)) ∙ e in
      by_cases (ℕ_discrete (o.net s) m)
      (λ q. let (a, j, t) = runs.there s (omega arith) in begun s a m (omega arith) j nz (t ∙ q))
      (λ ne. begun s c m (omega arith) i nz ((k.passes (λ z. ne (sym z ∙ v))).0 ∙ v))

  own_pin : (s : ℕ) → s < o.count → (a : ℕ) × In a n × (start a ≡ o.net s)
  own_pin s h = let (c, i, e) = runs.there s h in begun s c (o.net s) (omega arith) i (runs.named s h) e

  -- the column that an operation brings its net to
  brought : (s : ℕ) → cut_of o start (suc s) (o.to s) ≡ o.net s
  unfolding cut_of
  brought s = rw (eq-eqb (o.to s) (o.to s) refl)

  laid : {x : Wiring} (s j : ℕ) (before past : ℕ → ℕ) → s < o.count → ((c : ℕ) → In c n → before c ≡ cut_of o start s c)
      → ((c : ℕ) → In c n → past c ≡ cut_of o start (suc s) c) → ((c : ℕ) → In c n → x c j 1 ≡ row_of o start s c)
      → ((c : ℕ) → In c n → x c j 2 ≡ trunk_of o s c) → Track n x j before past (o.net s) (o.low s) (o.high s)
  laid s j before past h hb hp hr ht = record {
    column = λ c i. rw (hr c i, hb c i, hp c i) (crossed s c h i);
    trunk = ht;
    ends = runs.ends s h;
    reaches = λ c i nz e. runs.reaches s c h i (sym (hr c i) ∙ e);
  }

turned : {n j y low high : ℕ} {x : Wiring} {under over : ℕ → ℕ} → Track n x j under over y low high → Track n x j over under y low high
turned t = record {
  column = λ c i. let k = t.column c i in record { near = k.far; far = k.near; passes = λ ne. let (a, b) = k.passes ne in (b, a) };
  trunk = t.trunk;
  ends = t.ends;
  reaches = t.reaches;
}

-- without an operation the one track holds the pins
idle_tracked : {n : ℕ} {p : Pins} {down up : Ops} {x : Wiring} → down.count + up.count ≡ 0 → Consistent n p down up → OpsDrawn n p down up x
    → Tracked n 1 p x
unfolding cut_of
idle_tracked {n} {p} {down} {up} {x} none q d = record {
  cut = λ r. cond (eqb r 0) (p south) (p north);
  net = λ r. 0;
  low = λ r. 1;
  high = λ r. 0;
  wide = omega arith;
  first = λ c i. refl;
  last = λ c i. refl;
  rows = rows;
  again = λ s r h k nz. absurd (nz refl);
  pinned = λ r h nz. absurd (nz refl);
  straight = λ m a b nz no. q.straight m a b nz (λ s h. absurd (omega arith)) (λ s h. absurd (omega arith));
}
  where
    same : (c : ℕ) → In c n → p south c ≡ p north c
    same c i =
        let a : down.count ≡ 0 = omega arith in
        let b : up.count ≡ 0 = omega arith in
        ap (λ t. cut_of up (p south) t c) (sym b) ∙ sym (q.meet c i) ∙ ap (λ t. cut_of down (p north) t c) a

    rows : (r : ℕ) → r < 1 → Track n x (suc r) (cond (eqb r 0) (p south) (p north)) (cond (eqb (suc r) 0) (p south) (p north)) 0 1 0
    rows zero h = record {
      column = λ c i. rw (d.idle c none i, same c i) (record { near = λ nz. refl; far = λ nz. refl; passes = λ ne. (refl, refl) });
      trunk = λ c i. rw (le-leb 1 c i.0, lt-leb c 0 i.0) (d.idle_trunk c none i);
      ends = omega arith;
      reaches = λ c i nz. absurd (nz refl);
    }
    rows (suc r) h = absurd (omega arith)

module _ {n : ℕ} {p : Pins} {down up : Ops} {x : Wiring} (some : 1 ≤ down.count + up.count) (q : Consistent n p down up)
    (d : OpsDrawn n p down up x) where
  -- the cut over r tracks: the one after r operations from the south, or the one that operations from the north lead to
  cut : ℕ → ℕ → ℕ
  cut r c = cond (leb r up.count) (cut_of up (p south) r c) (cut_of down (p north) (op_tracks down up - r) c)

  low_cut : (r c : ℕ) → r ≤ up.count → cut r c ≡ cut_of up (p south) r c
  unfolding cut
  low_cut r c h = rw (le-leb r up.count h)

  high_cut : (r s c : ℕ) → r + s ≡ op_tracks down up → up.count ≤ r → In c n → cut r c ≡ cut_of down (p north) s c
  unfolding cut
  high_cut r s c e h i = elim (dec_le r up.count) [
    | yes k ↦ low_cut r c k ∙ ap (λ t. cut_of up (p south) t c) {x = r} {y = up.count} (omega arith) ∙ sym (q.meet c i)
        ∙ ap (λ t. cut_of down (p north) t c) {x = down.count} {y = s} (omega arith)
    | no k ↦ rw (lt-leb r up.count (omega arith)) (ap (λ t. cut_of down (p north) t c) {x = op_tracks down up - r} {y = s} (omega arith))
  ]

  -- what the track over cut r has: of its operation from the south, or of that from the north
  pick : (ℕ → ℕ) → (ℕ → ℕ) → ℕ → ℕ
  pick f g r = cond (ltb r up.count) (f r) (g (op_tracks down up - suc r))

  low_pick : (f g : ℕ → ℕ) (r : ℕ) → r < up.count → pick f g r ≡ f r
  unfolding pick
  low_pick f g r h = rw (lt-ltb r up.count h)

  high_pick : (f g : ℕ → ℕ) (r s : ℕ) → suc (r + s) ≡ op_tracks down up → up.count ≤ r → pick f g r ≡ g s
  unfolding pick
  high_pick f g r s e h = rw (le-ltb r up.count h) (ap g {x = op_tracks down up - suc r} {y = s} (omega arith))

  -- track r + 1 is operation r from the south, or operation s from the north
  data At (r : ℕ) : Type 0 where
    lower : r < up.count → At r
    upper : (s : ℕ) → suc (r + s) ≡ op_tracks down up → up.count ≤ r → At r

  at : (r : ℕ) → r < op_tracks down up → At r
  at r h = elim (dec_le up.count r) [ yes k ↦ upper (op_tracks down up - suc r) (omega arith) k | no k ↦ lower (omega arith) ]

  net : ℕ → ℕ
  net = pick up.net down.net

  low_net : (r : ℕ) → r < up.count → net r ≡ up.net r
  unfolding net
  low_net = low_pick up.net down.net

  high_net : (r s : ℕ) → suc (r + s) ≡ op_tracks down up → up.count ≤ r → net r ≡ down.net s
  unfolding net
  high_net = high_pick up.net down.net

  rows : (r : ℕ) → At r
      → Track n x (suc r) (cut r) (cut (suc r)) (net r) (pick up.low down.low r) (pick up.high down.high r)
  rows r (lower h) = rw (low_net r h, low_pick up.low down.low r h, low_pick up.high down.high r h)
      (laid q.souths r (suc r) (cut r) (cut (suc r)) h (λ c i. low_cut r c (omega arith)) (λ c i. low_cut (suc r) c h)
      (λ c. d.lower r c h) (λ c. d.lower_trunk r c h))
  rows r (upper s e h) =
      let track : op_tracks down up - s ≡ suc r = omega arith in
      let k : s < down.count = omega arith in
      rw (high_net r s e h, high_pick up.low down.low r s e h, high_pick up.high down.high r s e h)
      (turned (laid q.norths s (suc r) (cut (suc r)) (cut r) k (λ c. high_cut (suc r) s c (omega arith) (omega arith))
      (λ c. high_cut r (suc s) c (omega arith) h)
      (λ c i. ap (λ t. x c t 1) (sym track) ∙ d.upper s c k i) (λ c i. ap (λ t. x c t 2) (sym track) ∙ d.upper_trunk s c k i)))

  -- an operation from the north that ends its net is its only one
  once : (r s t : ℕ) → suc (r + s) ≡ op_tracks down up → up.count ≤ r → At t → t < r → net t ≡ net r → 1 ≤ down.to s
  once r s t e h (lower k) lt same = elim (dec_le 1 (down.to s)) [
    | yes a ↦ a
    | no a ↦ absurd ((q.ended s (omega arith) (omega arith)).1 t k
        (sym (low_net t k) ∙ same ∙ high_net r s e h))
  ]
  once r s t e h (upper s' e' k) lt same = elim (dec_le 1 (down.to s)) [
    | yes a ↦ a
    | no a ↦ absurd (omega (
      arith,
      (q.ended s (omega arith) (omega arith)).0 s' (omega arith)
          (sym (high_net t s' e' k) ∙ same ∙ high_net r s e h),
    ))
  ]

  again : (t r : ℕ) → t < r → At t → At r → net t ≡ net r → (c : ℕ) × In c n × (cut r c ≡ net r)
  again t r lt k (lower h) same =
      let (c, i, e) = q.souths.there r h in
      (c, i, low_cut r c (omega arith) ∙ e ∙ sym (low_net r h))
  again t r lt k (upper s e h) same =
      let i : In (down.to s) n = omega (arith, once r s t e h k lt same, q.norths.column s (omega arith)) in
      (down.to s, i, high_cut r (suc s) (down.to s) (omega arith) h i ∙ brought q.norths s ∙ sym (high_net r s e h))

  pinned : (r : ℕ) → At r → (s : Side) × (a : ℕ) × Held (upright n (op_tracks down up) 2) p x (net r) (pin s a)
  pinned r (lower h) =
      let (a, i, e) = own_pin q.souths r h in
      (south, a, record { inside = i; net = e ∙ sym (low_net r h) })
  pinned r (upper s e h) =
      let (a, i, t) = own_pin q.norths s (omega arith) in
      (north, a, record { inside = i; net = t ∙ sym (high_net r s e h) })

  consistent_tracked : Tracked n (op_tracks down up) p x
  unfolding cut_of
  consistent_tracked = record {
    cut = cut;
    net = net;
    low = pick up.low down.low;
    high = pick up.high down.high;
    wide = omega arith;
    first = λ c i. low_cut 0 c (omega arith);
    last = λ c. high_cut (op_tracks down up) 0 c (omega arith) (omega arith);
    rows = λ r h. rows r (at r h);
    again = λ s r h k nz. again s r h (at s (omega arith)) (at r k);
    pinned = λ r h nz. pinned r (at r h);
    straight = λ m a b nz no. q.straight m a b nz
        (λ s h e. no (op_tracks down up - suc s) (omega arith) (high_net (op_tracks down up - suc s) s (omega arith) (omega arith) ∙ e))
        (λ s h e. no s (omega arith) (low_net s h ∙ e));
  }

pub consistent_legal : {n : ℕ} {p : Pins} {down up : Ops} {x : Wiring} → Bare p west → Bare p east → Consistent n p down up → OpsDrawn n p down up x
    → Legal (upright n (op_tracks down up) 2) p x
consistent_legal {n} {p} {down} {up} {x} bw be q d = elim (dec_le 1 (down.count + up.count)) [
  | yes h ↦ tracked_legal bw be (consistent_tracked h q d)
  | no h ↦ let one : op_tracks down up ≡ 1 = omega arith in rw one (tracked_legal bw be (idle_tracked (omega arith) q d))
]
