-- Operations are drawn one after the other, in tracks of their own: what a list of them leaves, and all lists together.
use Prim.Native.Nat.{ℕ, zero, suc, ◌+◌, ◌-◌, ◌≤◌, ◌<◌}
use mathlib.Core.Path.{◌≡◌, refl, sym, ap, ◌∙◌}
use mathlib.Core.Logic.{◌≢◌, by_cases}
use mathlib.Core.Bool.{Bool, true, false, cond, ◌&&◌}
use mathlib.Core.List.{List}
use native.Mathlib.Omega.{arith}
use native.Mathlib.Numerals.{add-one}
use native.Mathlib.Decide.{ℕ_discrete, dec_lt}
use lib.Dec.{eqb, leb}
use lib.ListN.{length}
use borrow.Author.Tests.{lt-ltb, le-ltb, ne_eqb}
use Rattle.counting.specs.Counting.{In}
use Rattle.terms.specs.Limits.{longest_side}
use Rattle.grid.specs.Grid.{Grid, upright}
use Rattle.grid.specs.Legal.{entry, wiring_of}
use Rattle.two_layer_law.specs.Cuts.{Ops, followed, cut_with, cut_after, cut_of, row_of, trunk_of, op_tracks}
use Rattle.two_layer_cuts.specs.Rows.{column_entries, item, Row}
use Rattle.two_layer.specs.Drawing.{trunk, track_from, OwnTracks, TrackDrawn, ListDrawn, ChannelDrawn}

-- ---- the cuts of a list that follows another

-- a column's entry depends on that entry of the start alone
pub same_start : (o : Ops) (f g : ℕ → ℕ) (s c : ℕ) → f c ≡ g c → cut_of o f s c ≡ cut_of o g s c
unfolding cut_of
same_start o f g zero c e = e
same_start o f g (suc s) c e = ap (λ (v : ℕ). cond (eqb c (o.to s)) (o.net s) (cond (eqb v (o.net s)) 0 v)) (same_start o f g s c e)

pub same_row : (o : Ops) (f g : ℕ → ℕ) (s c : ℕ) → f c ≡ g c → row_of o f s c ≡ row_of o g s c
same_row o f g s c e = ap (λ (v : ℕ). cond (eqb c (o.to s)) (o.net s) v) (same_start o f g s c e)

module _ (o o' : Ops) (start : ℕ → ℕ) where
  pub first_cut : (s c : ℕ) → s ≤ o.count → cut_of (followed o o') start s c ≡ cut_of o start s c
  unfolding cut_of
  first_cut zero c h = refl
  first_cut (suc s) c h = rw (lt-ltb s o.count (omega arith), first_cut s c (omega arith))

  pub next_cut : (s c : ℕ) → cut_of (followed o o') start (o.count + s) c ≡ cut_of o' (cut_of o start o.count) s c
  unfolding cut_of
  next_cut zero c =
      let e : o.count + 0 ≡ o.count = omega arith in
      ap (λ (u : ℕ). cut_of (followed o o') start u c) e ∙ first_cut o.count c (omega arith)
  next_cut (suc s) c =
      let e : o.count + suc s ≡ suc (o.count + s) = omega arith in
      let q : o.count + s - o.count ≡ s = omega arith in
      ap (λ (u : ℕ). cut_of (followed o o') start u c) e ∙ rw (le-ltb (o.count + s) o.count (omega arith), q, next_cut s c)

  pub first_row : (s c : ℕ) → s < o.count → row_of (followed o o') start s c ≡ row_of o start s c
  first_row s c h = rw (lt-ltb s o.count h, first_cut s c (omega arith))

  pub next_row : (s c : ℕ) → row_of (followed o o') start (o.count + s) c ≡ row_of o' (cut_of o start o.count) s c
  next_row s c =
      let q : o.count + s - o.count ≡ s = omega arith in
      rw (le-ltb (o.count + s) o.count (omega arith), q, next_cut s c)

pub first_trunk : (o o' : Ops) (s c : ℕ) → s < o.count → trunk_of (followed o o') s c ≡ trunk_of o s c
first_trunk o o' s c h = rw (lt-ltb s o.count h)

pub next_trunk : (o o' : Ops) (s c : ℕ) → trunk_of (followed o o') (o.count + s) c ≡ trunk_of o' s c
next_trunk o o' s c =
    let q : o.count + s - o.count ≡ s = omega arith in
    rw (le-ltb (o.count + s) o.count (omega arith), q)

-- all lists together fit the tracks
pub all_fit : (w : ℕ) (o m u : Ops) → w ≡ op_tracks (followed o m) u → o.count + m.count + u.count ≤ w
all_fit w o m u e = omega arith

module _ {g : Grid} {o : Ops} {start track : ℕ → ℕ} where
  pub drawn_none : (l : List ℕ) → ListDrawn g o start track 0 l l
  drawn_none l = record {
    rows = λ s c h i. absurd (omega arith);
    trunks = λ s c h i. absurd (omega arith);
    kept = λ c j k i h. refl;
    long = refl;
    others = λ b h. refl;
  }

  module _ {before now cut_after cut : List ℕ} {s j : ℕ} (few : g.n ≤ longest_side) (more : s < o.count)
      (own : OwnTracks g.w o.count track) (two : 2 ≤ g.k) (r : Row longest_side (cut_of o start s) cut)
      (d : ListDrawn g o start track s before now) (e : j ≡ track s)
      (t : TrackDrawn g j (cut_with (o.net s) (o.to s) (item cut)) (trunk (o.net s) (o.low s) (o.high s)) now cut_after) where
    old : (q c l : ℕ) → q < s → In c g.n → In l 2 → wiring_of g cut_after c (track q) l ≡ wiring_of g now c (track q) l
    old q c l h i k =
        t.kept c (track q) l (i, own.inside q (omega arith), (omega arith, omega arith)) (λ z. own.apart q s h more (z ∙ e))

    pub drawn_next : ListDrawn g o start track (s + 1) before cut_after
    drawn_next = record {
      rows = λ q c h i. by_cases (ℕ_discrete q s)
          (λ z. rw (z, ← e) (t.vertical c i ∙ ap (λ (v : ℕ). cond (eqb c (o.to s)) (o.net s) v) (r.is c (omega arith))))
          (λ ne. old q c 1 (omega (arith, ne)) i (omega arith, omega arith) ∙ d.rows q c (omega (arith, ne)) i);
      trunks = λ q c h i. by_cases (ℕ_discrete q s)
          (λ z. rw (z, ← e) (t.horizontal c i))
          (λ ne. old q c 2 (omega (arith, ne)) i (omega arith, omega arith) ∙ d.trunks q c (omega (arith, ne)) i);
      kept = λ c i l h ne. t.kept c i l h (λ z. ne s (omega arith) (z ∙ e)) ∙ d.kept c i l h (λ q k. ne q (omega arith));
      long = t.long ∙ d.long;
      others = λ b h. t.others b h ∙ d.others b h;
    }

pub cut_none : (o : Ops) (start : List ℕ) → length start ≡ column_entries → Row longest_side (cut_of o (item start) 0) start
unfolding cut_of
cut_none o start size = record { size = size; is = λ c h. refl }

pub cut_next : (o : Ops) (start : ℕ → ℕ) (s : ℕ) {cut next : List ℕ} → Row longest_side (cut_of o start s) cut
    → Row longest_side (cut_after (o.net s) (o.to s) (item cut)) next → Row longest_side (cut_of o start (s + 1)) next
unfolding cut_of
cut_next o start s r q = record {
  size = q.size;
  is = λ c h. q.is c h ∙ ap (λ (v : ℕ). cond (eqb c (o.to s)) (o.net s) (cond (eqb v (o.net s)) 0 v)) (r.is c h)
      ∙ ap (λ (u : ℕ). cut_of o start u c) (sym (add-one s));
}

-- ---- all lists: the idle track, then those of the north pins, the moves and those of the south pins

module _ (north south : List ℕ) {blank idle gathered moved cut_after first second third : List ℕ} {n w : ℕ} (o m u : Ops)
    (wide : w ≡ op_tracks (followed o m) u) (few : n ≤ longest_side) (start : Row longest_side (entry north) first)
    (end : Row longest_side (entry south) third)
    (z : TrackDrawn (upright n w 2) 1 (cut_with 0 0 (item first)) (trunk 0 1 0) blank idle)
    (a : ListDrawn (upright n w 2) o (item first) (track_from true w) o.count idle gathered)
    (led : Row longest_side (cut_of o (item first) o.count) second)
    (b : ListDrawn (upright n w 2) m (item second) (track_from true (w - o.count)) m.count gathered moved)
    (d : ListDrawn (upright n w 2) u (item third) (track_from false 1) u.count moved cut_after) where
  abbrev x : ℕ → ℕ → ℕ → ℕ
  x = wiring_of (upright n w 2) cut_after

  room : o.count + m.count + u.count ≤ w
  room = all_fit w o m u wide

  -- a track over those of the south pins is as the moves left it, and over those of the moves as the list before left it
  over_souths : (s c l : ℕ) → s < o.count + m.count → In c n → In l 2 → x c (w - s) l ≡ wiring_of (upright n w 2) moved c (w - s) l
  over_souths s c l h i k = d.kept c (w - s) l (i, (omega arith, omega arith), k) (λ r q e. absurd (omega arith))

  over_moves : (s c l : ℕ) → s < o.count → In c n → In l 2 → x c (w - s) l ≡ wiring_of (upright n w 2) gathered c (w - s) l
  over_moves s c l h i k =
      over_souths s c l (omega arith) i k ∙ b.kept c (w - s) l (i, (omega arith, omega arith), k) (λ r q e. absurd (omega arith))

  -- the track of a move, counted among the moves
  of_move : (s c l : ℕ) → o.count ≤ s → s < o.count + m.count → In c n → In l 2
      → x c (w - s) l ≡ wiring_of (upright n w 2) moved c (w - o.count - (s - o.count)) l
  of_move s c l more h i k = over_souths s c l h i k ∙ ap (λ (j : ℕ). wiring_of (upright n w 2) moved c j l) (omega arith)

  upper : (s c : ℕ) → s < o.count + m.count → In c n → x c (w - s) 1 ≡ row_of (followed o m) (entry north) s c
  upper s c h i = elim (dec_lt s o.count) [
    | yes l ↦
        over_moves s c 1 l i (omega arith, omega arith) ∙ a.rows s c l i
        ∙ same_row o (item first) (entry north) s c (start.is c (omega arith)) ∙ sym (first_row o m (entry north) s c l)
    | no l ↦
        let e : o.count + (s - o.count) ≡ s = omega arith in
        let q = led.is c (omega arith) ∙ same_start o (item first) (entry north) o.count c (start.is c (omega arith)) in
        of_move s c 1 (omega arith) h i (omega arith, omega arith) ∙ b.rows (s - o.count) c (omega arith) i
        ∙ same_row m (item second) (cut_of o (entry north) o.count) (s - o.count) c q
        ∙ sym (next_row o m (entry north) (s - o.count) c) ∙ ap (λ (r : ℕ). row_of (followed o m) (entry north) r c) e
  ]

  upper_trunk : (s c : ℕ) → s < o.count + m.count → In c n → x c (w - s) 2 ≡ trunk_of (followed o m) s c
  upper_trunk s c h i = elim (dec_lt s o.count) [
    | yes l ↦ over_moves s c 2 l i (omega arith, omega arith) ∙ a.trunks s c l i ∙ sym (first_trunk o m s c l)
    | no l ↦
        let e : o.count + (s - o.count) ≡ s = omega arith in
        of_move s c 2 (omega arith) h i (omega arith, omega arith) ∙ b.trunks (s - o.count) c (omega arith) i
        ∙ sym (next_trunk o m (s - o.count) c) ∙ ap (λ (r : ℕ). trunk_of (followed o m) r c) e
  ]

  -- with no operation nothing is drawn after the idle track
  idle_kept : (c l : ℕ) → o.count + m.count + u.count ≡ 0 → In c n → In l 2 → x c 1 l ≡ wiring_of (upright n w 2) idle c 1 l
  idle_kept c l h i k =
      let p : In 1 w = (omega arith, omega (arith, wide)) in
      d.kept c 1 l (i, p, k) (λ s q e. absurd (omega arith)) ∙ b.kept c 1 l (i, p, k) (λ s q e. absurd (omega arith))
      ∙ a.kept c 1 l (i, p, k) (λ s q e. absurd (omega arith))

  idle_none : (c : ℕ) → trunk 0 1 0 c ≡ 0
  idle_none c = nothing (leb 1 c && leb c 0)
    where
      nothing : (t : Bool) → ◌≡◌ {A = ℕ} (cond t 0 0) 0
      nothing true = refl
      nothing false = refl

  idle_row : (c : ℕ) → In c n → cut_with 0 0 (item first) c ≡ entry north c
  idle_row c i = let ne : c ≢ 0 = (λ e. absurd (omega arith)) in rw (ne_eqb c 0 ne) (start.is c (omega arith))

  pub all_drawn : ChannelDrawn north south n w (followed o m) u blank cut_after
  all_drawn = record {
    drawn = record {
      upper = λ s c h i. rw (← wide) (upper s c h i);
      upper_trunk = λ s c h i. rw (← wide) (upper_trunk s c h i);
      lower = λ s c h i. ap (λ (j : ℕ). x c j 1) (omega arith) ∙ d.rows s c h i
          ∙ same_row u (item third) (entry south) s c (end.is c (omega arith));
      lower_trunk = λ s c h i. ap (λ (j : ℕ). x c j 2) (omega arith) ∙ d.trunks s c h i;
      idle = λ c h i. idle_kept c 1 h i (omega arith, omega arith) ∙ z.vertical c i ∙ idle_row c i;
      idle_trunk = λ c h i. idle_kept c 2 h i (omega arith, omega arith) ∙ z.horizontal c i ∙ idle_none c;
    };
    long = d.long ∙ b.long ∙ a.long ∙ z.long;
    others = λ b' h. d.others b' h ∙ b.others b' h ∙ a.others b' h ∙ z.others b' h;
  }
