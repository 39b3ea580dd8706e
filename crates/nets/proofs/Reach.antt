-- From the tables to a net's reach: the first and the last place between the ends, and the pins at the ends, tell the least and the greatest place.
use Prim.Native.Nat.{ℕ, zero, suc, ◌+◌, ◌≤◌}
use mathlib.Core.Path.{◌≡◌, refl, sym, ap, ◌∙◌, subst}
use mathlib.Core.Logic.{◌≢◌, ◌⊎◌, inl, inr, ⊎_elim, by_cases}
use mathlib.Core.Bool.{true, or-true, false≢true}
use mathlib.Core.List.{List}
use native.Mathlib.Decide.{ℕ_discrete}
use native.Mathlib.Omega.{arith}
use lib.Dec.{eqb}
use borrow.Author.Tests.{eqb-true, eq-eqb, ne_eqb}
use Rattle.counting.specs.Counting.{In, bit}
use Rattle.counting.proofs.Sums.{split, bit_one, bit_zero, sum_part, sum_some}
use Rattle.counting.proofs.Leasts.{least_in, least_before}
use Rattle.terms.specs.Kinds.{Side, north, south, west, east}
use Rattle.terms.specs.Limits.{largest_net}
use Rattle.grid.specs.Grid.{Grid, Node, pin, places, column_of, track_of}
use Rattle.grid.specs.Legal.{Pins}
use Rattle.problem.specs.declared.Problem.{Problem}
use Rattle.problem.specs.Problem.{pins_in, pin_count_on, shape_of, Good}
use Rattle.problem.proofs.Sizes.{side_fits}
use Rattle.nets.proofs.Totals.{count_whole}
use Rattle.nets.specs.Spans.{PinAt, Reach, SpanOf}
use Rattle.nets.specs.Tables.{pin_count_to, holds_at, first_held, last_held, Spanned, low_of, high_of, span_from}

-- ---- the last place that one of two sides holds

module _ (a b : ℕ → ℕ) (m : ℕ) where
  pub last_in : (n : ℕ) → last_held a b n m ≢ 0 → In (last_held a b n m) n × (holds_at a b m (last_held a b n m) ≡ true)
  unfolding last_held
  last_in zero ne = absurd (ne refl)
  last_in (suc n) ne =
      split (holds_at a b m (suc n))
      (λ e. rw e (omega arith, e))
      (λ e. rw e (let (i, h) = last_in n (rw e at ne) in (omega arith, h)))

  pub last_after : (n x : ℕ) → In x n → holds_at a b m x ≡ true → x ≤ last_held a b n m
  unfolding last_held
  last_after zero x i h = absurd (omega arith)
  last_after (suc n) x i h =
      split (holds_at a b m (suc n))
      (λ e. rw e i.1)
      (λ e. rw e (last_after n x (by_cases (ℕ_discrete x (suc n)) (λ q. absurd (false≢true (sym e ∙ ap (holds_at a b m) (sym q) ∙ h))) (λ ne. omega arith)) h))

  pub holds_one : (x : ℕ) → holds_at a b m x ≡ true → (a x ≡ m) ⊎ (b x ≡ m)
  holds_one x e = split (eqb (a x) m) (λ h. inl (eqb-true (a x) m h)) (λ h. inr (eqb-true (b x) m (rw h at e)))

-- a side that has no pin of the net, and one that has some
count_zero : (c : ℕ → ℕ) (w m j : ℕ) → pin_count_to c w m ≡ 0 → In j w → c j ≢ m
count_zero c w m j z i e = omega (arith, sum_part (λ x. bit (eqb (c x) m)) j w i, bit_one (eq-eqb (c j) m e))

count_some : (c : ℕ → ℕ) (w m : ℕ) → pin_count_to c w m ≢ 0 → (j : ℕ) × In j w × (c j ≡ m)
count_some c w m ne =
    let (j, i, h) = sum_some (λ x. bit (eqb (c x) m)) w (omega arith) in
    (j, i, split (eqb (c j) m) (eqb-true (c j) m) (λ q. absurd (omega (arith, bit_zero q))))

-- ---- four sides: a and b along the grid, with n places, c at its near end and d at its far end, with w places

-- a pin of net m at a place along the grid
data Held (a b c d : ℕ → ℕ) (n w m : ℕ) : ℕ → Type 0 where
  along : (x : ℕ) → In x n → holds_at a b m x ≡ true → Held a b c d n w m x
  near : (j : ℕ) → In j w → c j ≡ m → Held a b c d n w m 0
  far : (j : ℕ) → In j w → d j ≡ m → Held a b c d n w m (n + 1)

module _ (a b c d : ℕ → ℕ) (n w m : ℕ) where
  abbrev At : ℕ → Type 0
  At = Held a b c d n w m

  every : (P : ℕ → Type 0) → ((x : ℕ) → In x n → holds_at a b m x ≡ true → P x) → ((j : ℕ) → In j w → c j ≡ m → P 0)
      → ((j : ℕ) → In j w → d j ≡ m → P (n + 1)) → (y : ℕ) → At y → P y
  every P f g h _ (along x i e) = f x i e
  every P f g h _ (near j i e) = g j i e
  every P f g h _ (far j i e) = h j i e

  -- an end of these places: all lie on its one side, and it is one of them, or 0 where there is none
  record End (x : ℕ) (Beside : ℕ → Type 0) : Type 0 where
    all : (y : ℕ) → At y → Beside y
    one : (y : ℕ) → At y → At x
    none : ((y : ℕ) → At y → ⊥) → x ≡ 0

  reached : (x : ℕ) {P : ℕ → Type 0} → At x → ((y : ℕ) → At y → P y) → End x P
  reached x h le = record { all = le; one = λ y k. h; none = λ k. absurd (k x h) }

  abbrev Low : ℕ → Type 0
  Low x = End x (λ y. x ≤ y)

  abbrev High : ℕ → Type 0
  High x = End x (λ y. y ≤ x)

  abbrev first : ℕ
  first = first_held a b n m

  abbrev last : ℕ
  last = last_held a b n m

  abbrev nears : ℕ
  nears = pin_count_to c w m

  abbrev fars : ℕ
  fars = pin_count_to d w m

  before : (x : ℕ) → In x n → holds_at a b m x ≡ true → (1 ≤ first) × (first ≤ x)
  before = least_before (holds_at a b m) n

  -- no pin at the near end
  low_inner : nears ≡ 0 → Low (low_of first 0 fars (n + 1))
  low_inner z = by_cases (ℕ_discrete first 0)
      (λ q. rw q (by_cases (ℕ_discrete fars 0)
      (λ e. rw e record {
        all = λ y h. omega arith;
        one = every (λ y. At 0) (λ x i h. absurd (omega (arith, before x i h))) near (λ j i h. absurd (count_zero d w m j e i h));
        none = λ h. refl;
      })
      (λ ne. let (k, o, e) = count_some d w m ne in
      rw (ne_eqb fars 0 ne) (reached (n + 1) (far k o e) (every (λ y. n + 1 ≤ y) (λ x i h. absurd (omega (arith, before x i h)))
      (λ j i h. absurd (count_zero c w m j z i h)) (λ j i h. omega arith))))))
      (λ ne. let (o, e) = least_in (holds_at a b m) n first refl ne in
      rw (ne_eqb first 0 ne) (reached first (along first o e) (every (λ y. first ≤ y) (λ x i h. (before x i h).1)
      (λ j i h. absurd (count_zero c w m j z i h)) (λ j i h. omega arith))))

  low_is : Low (low_of first nears fars (n + 1))
  low_is = by_cases (ℕ_discrete nears 0) (λ z. rw z (low_inner z))
      (λ ne. let (j, i, h) = count_some c w m ne in rw (ne_eqb nears 0 ne) (reached 0 (near j i h) (λ y k. omega arith)))

  high_is : High (high_of last fars (n + 1))
  high_is = by_cases (ℕ_discrete fars 0)
      (λ z. rw z (by_cases (ℕ_discrete last 0)
      (λ q. let out : (x : ℕ) → In x n → holds_at a b m x ≡ true → ⊥ = λ x i h. omega (arith, last_after a b m n x i h) in
      rw q record {
        all = every (λ y. y ≤ 0) (λ x i h. absurd (out x i h)) (λ j i h. omega arith) (λ j i h. absurd (count_zero d w m j z i h));
        one = every (λ y. At 0) (λ x i h. absurd (out x i h)) near (λ j i h. absurd (count_zero d w m j z i h));
        none = λ h. refl;
      })
      (λ ne. let (o, e) = last_in a b m n ne in
      reached last (along last o e) (every (λ y. y ≤ last) (last_after a b m n) (λ j i h. omega arith) (λ j i h. absurd (count_zero d w m j z i h))))))
      (λ ne. let (j, i, h) = count_some d w m ne in
      rw (ne_eqb fars 0 ne) (reached (n + 1) (far j i h) (every (λ y. y ≤ n + 1) (λ x i h. omega arith) (λ j i h. omega arith) (λ j i h. omega arith))))

  -- ---- a grid's sides in these places

  module _ (g : Grid) (p : Pins) (at : Node → ℕ) (there : (s : Side) (x : ℕ) → In x (places g s) → p s x ≡ m → At (at (pin s x)))
      (back : (y : ℕ) → At y → PinAt g p at m y) where
    reach : Reach g p at m (low_of first nears fars (n + 1)) (high_of last fars (n + 1))
    reach =
        let bare : ((s : Side) (x : ℕ) → In x (places g s) → p s x ≢ m) → (y : ℕ) → At y → ⊥ = λ none y h. let u = back y h in
        none u.side u.place u.on u.net in
        record {
          least = λ s x i e. low_is.all _ (there s x i e);
          greatest = λ s x i e. high_is.all _ (there s x i e);
          lowest = λ s x i e. back _ (low_is.one _ (there s x i e));
          highest = λ s x i e. back _ (high_is.one _ (there s x i e));
          none = λ none. (low_is.none (bare none), high_is.none (bare none));
        }

on_one : (a b : ℕ → ℕ) (m x : ℕ) → a x ≡ m → holds_at a b m x ≡ true
on_one a b m x e = rw (eq-eqb (a x) m e)

on_two : (a b : ℕ → ℕ) (m x : ℕ) → b x ≡ m → holds_at a b m x ≡ true
on_two a b m x e = rw (eq-eqb (b x) m e, or-true)

module _ (g : Grid) (p : Pins) (m : ℕ) where
  on : (at : Node → ℕ) (s : Side) (x : ℕ) → In x (places g s) → p s x ≡ m → PinAt g p at m (at (pin s x))
  on at s x i e = record { side = s; place = x; on = i; net = e; there = refl }

  -- columns: north and south along the grid, west and east at its ends
  pub reach_columns : {first last wests easts : ℕ} → first ≡ first_held (p north) (p south) g.n m → last ≡ last_held (p north) (p south) g.n m
      → wests ≡ pin_count_to (p west) g.w m → easts ≡ pin_count_to (p east) g.w m
      → Reach g p (column_of g) m (low_of first wests easts (g.n + 1)) (high_of last easts (g.n + 1))
  reach_columns ef el ew ee = rw (ef, el, ew, ee) (reach (p north) (p south) (p west) (p east) g.n g.w m g p (column_of g) there back)
    where
      there : (s : Side) (x : ℕ) → In x (places g s) → p s x ≡ m → Held (p north) (p south) (p west) (p east) g.n g.w m (column_of g (pin s x))
      there north x i e = along x i (on_one (p north) (p south) m x e)
      there south x i e = along x i (on_two (p north) (p south) m x e)
      there west x i e = near x i e
      there east x i e = far x i e

      back : (y : ℕ) → Held (p north) (p south) (p west) (p east) g.n g.w m y → PinAt g p (column_of g) m y
      back _ (along x i h) = ⊎_elim (on (column_of g) north x i) (on (column_of g) south x i) (holds_one (p north) (p south) m x h)
      back _ (near j i e) = on (column_of g) west j i e
      back _ (far j i e) = on (column_of g) east j i e

  -- tracks: west and east along the grid, south and north at its ends
  pub reach_tracks : {first last souths norths : ℕ} → first ≡ first_held (p west) (p east) g.w m → last ≡ last_held (p west) (p east) g.w m
      → souths ≡ pin_count_to (p south) g.n m → norths ≡ pin_count_to (p north) g.n m
      → Reach g p (track_of g) m (low_of first souths norths (g.w + 1)) (high_of last norths (g.w + 1))
  reach_tracks ef el es en = rw (ef, el, es, en) (reach (p west) (p east) (p south) (p north) g.w g.n m g p (track_of g) there back)
    where
      there : (s : Side) (x : ℕ) → In x (places g s) → p s x ≡ m → Held (p west) (p east) (p south) (p north) g.w g.n m (track_of g (pin s x))
      there north x i e = far x i e
      there south x i e = near x i e
      there west x i e = along x i (on_one (p west) (p east) m x e)
      there east x i e = along x i (on_two (p west) (p east) m x e)

      back : (y : ℕ) → Held (p west) (p east) (p south) (p north) g.w g.n m y → PinAt g p (track_of g) m y
      back _ (along x i h) = ⊎_elim (on (track_of g) west x i) (on (track_of g) east x i) (holds_one (p west) (p east) m x h)
      back _ (near j i e) = on (track_of g) south j i e
      back _ (far j i e) = on (track_of g) north j i e

-- ---- a net's span, read from the lists that tell it

pub span_exact : {q : Problem} {first last norths souths wests easts : List ℕ} {n : ℕ} → Good q → n ≡ q.n.0
    → Spanned q first last norths souths wests easts → (m : ℕ) → In m largest_net
    → SpanOf (shape_of q) (pins_in q.pins) m (span_from first last norths souths wests easts m n)
span_exact {q} {first} {last} {norths} {souths} {wests} {easts} good e t m i =
    subst (λ (k : ℕ). SpanOf (shape_of q) (pins_in q.pins) m (span_from first last norths souths wests easts m k)) (sym e) (record {
      net = refl;
      columns = reach_columns (shape_of q) (pins_in q.pins) m (t.firsts.is m i) (t.lasts.is m i) (t.on_west.is m i) (t.on_east.is m i);
      norths = t.on_north.is m i ∙ whole north;
      souths = t.on_south.is m i ∙ whole south;
      wests = t.on_west.is m i ∙ whole west;
      easts = t.on_east.is m i ∙ whole east;
    })
  where
    whole : (s : Side) → pin_count_to (pins_in q.pins s) (places (shape_of q) s) m ≡ pin_count_on (pins_in q.pins) m s
    whole s = count_whole (shape_of q) (pins_in q.pins) s (side_fits good s) (good.ends s) m i.0
