-- From what the inner functions find to Check's outcome: the first point of an unknown number is the first foreign one, and the smallest net with an
-- unmarked spot is the smallest that is not in one piece.
use Prim.Native.Nat.{ℕ, ◌*◌, ◌≤◌, ◌<◌}
use mathlib.Core.Path.{◌≡◌, refl, sym, ap, ◌∙◌, subst}
use mathlib.Core.Logic.{◌⊎◌, inl, inr, ◌≢◌, ⊎_elim}
use mathlib.Core.List.{List}
use native.Mathlib.Omega.{arith}
use native.Mathlib.Decide.{dec_lt}
use lib.ListN.{length, get_or-eq_default}
use Rattle.counting.specs.Counting.{In}
use Rattle.terms.specs.Kinds.{Side, north, south, west, east}
use Rattle.terms.specs.declared.Refusal.{Refusal}
use Rattle.terms.specs.Refusals.{refusal}
use Rattle.terms.specs.Limits.{longest_side, widest_grid, byte_values}
use Rattle.grid.specs.Grid.{Grid, Node, pin, point, places}
use Rattle.grid.specs.Legal.{Pins, Wiring, Held, Legal, wiring_of, index}
use Rattle.grid.proofs.Buffer.{point_at}
use Rattle.check_link.specs.Marks.{at}
use Rattle.check_sweep.specs.Reached.{Spot, a_pin, a_point, val}
use Rattle.check_sweep.specs.Pins.{pin_at, pin_places}
use Rattle.check_sweep.proofs.Places.{spot}
use Rattle.checker.specs.Check.{Foreign, FirstForeign, OnePiece, Broken, Judged}
use Rattle.check_scan.specs.Scan.{Opened, FirstUnknown, no_net}
use Rattle.checker.specs.Marking.{PinsListed, Firsts, Torn}
use Rattle.checker.proofs.Verdict.{Hub, hub, one_piece, broken}

pub all_firsts : (p s k : List ℕ) → length p ≡ pin_places → length s ≡ pin_places → Opened p s k pin_places → Firsts p s
all_firsts p s k e f o =
    record {
      first = λ a ne. o.first a (within s f a ne) ne;
      marked = λ a h. o.marked a (within p e a h.some) h;
    }
  where
    within : (l : List ℕ) → length l ≡ pin_places → (a : ℕ) → at l a ≢ 0 → a < pin_places
    within l g a ne = elim (dec_lt a pin_places) [ yes h ↦ h | no n ↦ absurd (ne (get_or-eq_default l 0 (omega arith))) ]

pin_in : (g : Grid) → g.n ≤ longest_side → g.w ≤ widest_grid → (s : Side) (a : ℕ) → In a (places g s) → pin_at s a < pin_places
pin_in g n w north a i = omega arith
pin_in g n w south a i = omega arith
pin_in g n w west a i = omega arith
pin_in g n w east a i = omega arith

inside_list : (x : List ℕ) (q : ℕ) → at x q ≢ 0 → q < length x
inside_list x q ne = elim (dec_lt q (length x)) [ yes h ↦ h | no n ↦ absurd (ne (get_or-eq_default x 0 (omega arith))) ]

module _ {g : Grid} {p : Pins} {P : List ℕ} (X : List ℕ) (listed : PinsListed g p P) (size : length X ≡ g.n * g.w * g.k) where
  abbrev x : Wiring
  x = wiring_of g X

  -- a pin's net at a place of the list
  pin_of : (b m : ℕ) → m ≢ 0 → at P b ≡ m → (s : Side) × (a : ℕ) × Held g p x m (pin s a) × (pin_at s a ≡ b)
  pin_of b m ne e =
      let (s, a, i, o) = listed.back b (λ z. ne (sym e ∙ z)) in
      (s, a, record { inside = i; net = listed.there s a i ∙ ap (at P) o ∙ e }, o)

  point_of : (q : ℕ) → q < length X → (u : Node) × Held g p x (at X q) u × (spot g u ≡ a_point q)
  point_of q h =
      let (i, j, l, o, e) = point_at g listed.long.0 listed.wide.0 q (omega arith) in
      (point i j l, record { inside = o; net = ap (at X) e }, ap a_point e)

  -- ---- foreign points

  module _ {s k : List ℕ} (opened : Opened P s k pin_places) (bytes : (q : ℕ) → at X q < byte_values) where
    holder : (q : ℕ) → at k (at X q) ≢ 0 → at X q ≢ 0 → (b : ℕ) × (at P b ≡ at X q)
    holder q h ne = ⊎_elim (λ z. absurd (ne z)) (λ o. (o.0, o.2)) (opened.known (at X q) (bytes q) h)

    not_foreign : (q : ℕ) → at k (at X q) ≢ 0 → Foreign g p X q → ⊥
    not_foreign q h f =
        let (b, e) = holder q h f.metal in
        let (s, a, o, z) = pin_of b (at X q) f.metal e in
        f.no_pin s a o.inside o.net

    is_foreign_lem : (q : ℕ) → at k (at X q) ≡ 0 → Foreign g p X q
    is_foreign_lem q z =
        let u = opened.unknown (at X q) (bytes q) z in
        record { metal = u.0; no_pin = λ s a i e. u.1 (pin_at s a, pin_in g listed.long.1 listed.wide.1 s a i, sym (listed.there s a i) ∙ e) }

    pub judged_foreign : {q : ℕ} {a : Refusal} → a ≡ refusal 14 q → FirstUnknown k X q → q < length X → Judged g p X a
    judged_foreign {q} is f h =
        subst (Judged g p X) (sym is)
        (let first : FirstForeign g p X q = record { point = h; foreign = is_foreign_lem q (f.found h); first = λ r l. not_foreign r (f.before r l) } in
        record {
          accepts = (λ e. absurd (omega arith), λ legal. absurd (spoilt legal first));
          number = inr (inl refl);
          place = λ e. absurd (omega arith);
          foreign = λ e. first;
          broken = λ e. absurd (omega arith);
        })
      where
        spoilt : Legal g p x → FirstForeign g p X q → ⊥
        spoilt legal first =
            let (i, j, l, o, e) = point_at g listed.long.0 listed.wide.0 q (omega (arith, first.point)) in
            let (s, a, t) = legal.known (at X q) i j l first.foreign.metal (record { inside = o; net = ap (at X) e }) in
            first.foreign.no_pin s a t.inside t.net

    -- ---- nets

    module _ {r : ℕ} (all : FirstUnknown k X r) (end : r ≡ length X) where
      known : (q : ℕ) → q < length X → at k (at X q) ≢ 0
      known q h = all.before q (omega arith)

      held_value : (m : ℕ) (u : Node) → Held g p x m u → val P X (spot g u) ≡ m
      held_value m (pin s a) h = sym (listed.there s a h.inside) ∙ h.net
      held_value m (point i j l) h = h.net

      net_pin : (m : ℕ) → m ≢ 0 → (a : Spot) → val P X a ≡ m → (b : ℕ) × (at P b ≡ m)
      net_pin m ne (a_pin a) e = (a, e)
      net_pin m ne (a_point q) e =
          let i = inside_list X q (λ z. ne (sym e ∙ z)) in
          let (b, o) = holder q (known q i) (λ z. ne (sym e ∙ z)) in
          (b, o ∙ e)

      net_small : (m : ℕ) → m ≢ 0 → (a : Spot) → val P X a ≡ m → m < no_net
      net_small m ne a e = let (b, o) = net_pin m ne a e in omega (arith, listed.small b)

      module _ {t : ℕ} (torn : Torn g P X t) where
        at_hub : (m : ℕ) → m ≢ 0 → (a : Spot) → val P X a ≡ m → Hub listed torn.marking m
        at_hub m ne a e = let (b, o) = net_pin m ne a e in hub listed torn.marking ne b o

        pieces : (m : ℕ) → m ≢ 0 → (t ≡ 0) ⊎ (m < t) → OnePiece g p x m
        pieces m ne o u v a b =
            one_piece listed torn.marking (at_hub m ne (spot g u) (held_value m u a))
            (λ z c. marked z (held_value m z c)) u v a b
          where
            marked : (z : Node) → val P X (spot g z) ≡ m → val torn.s torn.m (spot g z) ≢ 0
            marked z e =
                torn.lowest.under (spot g z) (λ y. ne (sym e ∙ y)) (let h = net_small m ne (spot g z) e in omega arith)
                (⊎_elim inl (λ h. inr (omega arith)) o)

        node_of : (m : ℕ) → m ≢ 0 → (a : Spot) → val P X a ≡ m → (u : Node) × Held g p x m u × (spot g u ≡ a)
        node_of m ne (a_pin b) e = let (s, a, h, o) = pin_of b m ne e in (pin s a, h, ap a_pin o)
        node_of m ne (a_point q) e =
            let (u, h, o) = point_of q (inside_list X q (λ z. ne (sym e ∙ z))) in
            (u, subst (λ (z : ℕ). Held g p x z u) e h, o)

        pub judged_legal : {a : Refusal} → a ≡ refusal 0 0 → t ≡ 0 → Judged g p X a
        judged_legal is z =
            subst (Judged g p X) (sym is)
            (record {
              accepts = (λ e. legal, λ l. refl);
              number = inl refl;
              place = λ e. refl;
              foreign = λ e. absurd (omega arith);
              broken = λ e. absurd (omega arith);
            })
          where
            legal : Legal g p x
            legal =
                record {
                  known = λ m i j l ne h.
                      (let (b, o) = net_pin m ne (a_point (index g i j l)) h.net in
                      let (s, a, c, d) = pin_of b m ne o in
                      (s, a, c));
                  whole = λ m u v ne. pieces m ne (inl z) u v;
                }

        pub judged_broken : {a : Refusal} → a ≡ refusal 15 t → t ≢ 0 → Judged g p X a
        judged_broken is ne =
            subst (Judged g p X) (sym is)
            (record {
              accepts = (λ e. absurd (omega arith), λ l. absurd (b.apart (l.whole t b.one b.other ne b.held_one b.held_other)));
              number = inr (inr refl);
              place = λ e. absurd (omega arith);
              foreign = λ e. absurd (omega arith);
              broken = λ e. record { known = λ q h. not_foreign q (known q h); net = ne; broken = b; first = λ o nz h. pieces o nz (inr h) };
            })
          where
            b : Broken g p x t
            b =
                let (a, e, z) = torn.lowest.has ne in
                let (u, h, o) = node_of t ne a e in
                broken listed torn.marking (at_hub t ne a e) u h (ap (val torn.s torn.m) o ∙ z)
