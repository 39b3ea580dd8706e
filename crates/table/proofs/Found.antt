-- What is found is Check's answer: the first foreign point, else the smallest broken net, else a legal wiring, and Check's promise leaves it nothing else.
use Prim.Native.Nat.{ℕ, zero, suc, ◌*◌, ◌≤◌, ◌<◌}
use mathlib.Core.Path.{◌≡◌, refl, sym, ap, ◌∙◌, subst}
use mathlib.Core.Logic.{◌⊎◌, inl, inr, ◌≢◌, by_cases}
use mathlib.Core.Bool.{Bool, true, false, false≢true}
use mathlib.Core.List.{List, Memᴰ as Mem}
use native.Mathlib.Omega.{arith}
use native.Mathlib.Decide.{ℕ_discrete}
use lib.Dec.{eqb}
use lib.ListN.{length, get_or}
use borrow.Author.Tests.{ne_eqb, le-leb}
use Rattle.counting.proofs.Sums.{split}
use Rattle.terms.specs.Kinds.{Side}
use Rattle.terms.specs.Limits.{largest_net}
use Rattle.grid.specs.Grid.{Grid, Node, pin, point}
use Rattle.grid.specs.Legal.{Pins, Wiring, Held, Legal, wiring_of, index}
use Rattle.grid.proofs.Buffer.{index_in, point_at}
use Rattle.grid.proofs.Pins.{Numbered}
use Rattle.counting.specs.Counting.{least}
use Rattle.problem.specs.Problem.{pins_in, Good}
use Rattle.ticket.specs.declared.Reading.{Reading}
use Rattle.terms.specs.declared.Refusal.{Refusal}
use Rattle.terms.specs.Refusals.{refusal}
use Rattle.ticket.specs.Read.{ticket_pins}
use Rattle.ticket.proofs.Good.{reading_good}
use Rattle.counting.proofs.Leasts.{least_zero}
use Rattle.checker.specs.Check.{check_refusal, check_grid, Foreign, FirstForeign, OnePiece, FirstBroken, Judged, Checked}
use Rattle.checker.proofs.Refusals.{Passed, no_refusal}
use Rattle.table.specs.Table.{Gives}
use Rattle.table.specs.Decide.{tallied, nodes, any, is_broken, is_pin_of, is_foreign, foreign_at, broken_net, answer_for, found}
use Rattle.table.proofs.Tallied.{read_tallied}
use Rattle.table.proofs.Tests.{Tests, fails, tests_eq, tests_not, tests_and, tests_as, tests_any}
use Rattle.table.proofs.Nodes.{in_nodes}
use Rattle.table.proofs.Nets.{broken, whole}

-- ---- the smallest number that passes a test

record Smallest (t : ℕ → Bool) (top m : ℕ) : Type 0 where
  within : m ≤ top
  passes : t m ≡ true
  before : (a : ℕ) → 1 ≤ a → a < m → t a ≡ false

smallest : (t : ℕ → Bool) (top m : ℕ) → least t top ≡ suc m → Smallest t top (suc m)
unfolding least
smallest t zero m e = absurd (omega arith)
smallest t (suc top) m e =
    by_cases (ℕ_discrete (least t top) 0)
    (λ z. split (t (suc top))
    (λ h. let q : suc m ≡ suc top = omega (arith, rw (z, h) at e) in
    record { within = omega arith; passes = ap t q ∙ h; before = λ a i l. least_zero t top a z (omega arith) })
    (λ h. absurd (omega (arith, rw (z, h) at e))))
    (λ nz. let s = smallest t top m (rw (ne_eqb (least t top) 0 nz) at e) in
    record { within = omega (arith, s.within); passes = s.passes; before = s.before })

-- ---- Check's promise leaves one answer

same_first : (a b : ℕ) → (a < b → ⊥) → (b < a → ⊥) → a ≡ b
same_first a b f h = omega arith

module _ (g : Grid) (p : Pins) (x : List ℕ) (r : Refusal) (judged : Judged g p x r) where
  answer_is : (number place : ℕ) → r.number ≡ number → r.place ≡ place → r ≡ refusal number place
  answer_is number place e f = λ d. record { number = e d; place = f d }

  accepts : Legal g p (wiring_of g x) → r ≡ refusal 0 0
  accepts legal = let e = judged.accepts.1 legal in answer_is 0 0 e (judged.place e)

  names_foreign : (q : ℕ) → FirstForeign g p x q → (Legal g p (wiring_of g x) → ⊥) → r ≡ refusal 14 q
  names_foreign q f spoilt = go judged.number
    where
      go : (r.number ≡ 0) ⊎ ((r.number ≡ 14) ⊎ (r.number ≡ 15)) → r ≡ refusal 14 q
      go (inl e) = absurd (spoilt (judged.accepts.0 e))
      go (inr (inl e)) =
          let h = judged.foreign e in
          answer_is 14 q e (same_first r.place q (λ l. f.first r.place l h.foreign) (λ l. h.first q l f.foreign))
      go (inr (inr e)) = absurd ((judged.broken e).known q f.point f.foreign)

  names_broken : (m : ℕ) → FirstBroken g p x m → r ≡ refusal 15 m
  names_broken m f = go judged.number
    where
      torn : (o : ℕ) → FirstBroken g p x o → OnePiece g p (wiring_of g x) o → ⊥
      torn o h w = let b = h.broken in b.apart (w b.one b.other b.held_one b.held_other)

      go : (r.number ≡ 0) ⊎ ((r.number ≡ 14) ⊎ (r.number ≡ 15)) → r ≡ refusal 15 m
      go (inl e) = absurd (torn m f (λ u v. (judged.accepts.0 e).whole m u v f.net))
      go (inr (inl e)) = let h = judged.foreign e in absurd (f.known r.place h.point h.foreign)
      go (inr (inr e)) =
          let h = judged.broken e in
          answer_is 15 m e (same_first r.place m (λ l. torn r.place h (f.first r.place h.net l)) (λ l. torn m f (h.first m f.net l)))

-- ---- a wiring of the right length

module _ (g : Grid) (p : Pins) (X : List ℕ) (long : 1 ≤ g.n) (wide : 1 ≤ g.w) (size : length X ≡ g.n * g.w * g.k) (numbered : Numbered g p) where
  abbrev x : Wiring
  x = wiring_of g X

  abbrev PinOf : ℕ → Type 0
  PinOf v = (s : Side) × (a : ℕ) × Held g p x v (pin s a)

  tests_pin : (v : ℕ) → Tests (any (is_pin_of p v) (nodes g)) (PinOf v)
  tests_pin v = tests_as there back (tests_any (is_pin_of p v) (nodes g))
    where
      there : (u : Node) × Mem u (nodes g) × (is_pin_of p v u ≡ true) → PinOf v
      there (pin s a, m, e) = (s, a, record { inside = (in_nodes g (pin s a)).0 m; net = (tests_eq (p s a) v).0 e })
      there (point i j l, m, e) = absurd (false≢true e)

      back : PinOf v → (u : Node) × Mem u (nodes g) × (is_pin_of p v u ≡ true)
      back (s, a, h) = (pin s a, (in_nodes g (pin s a)).1 h.inside, (tests_eq (p s a) v).1 h.net)

  tests_foreign : (q : ℕ) → Tests (is_foreign g p (get_or X q 0)) (Foreign g p X q)
  tests_foreign q =
      let v = get_or X q 0 in
      tests_as (λ h. record { metal = h.0; no_pin = λ s a i e. h.1 (s, a, record { inside = i; net = e }) })
      (λ f. (f.metal, λ h. f.no_pin h.0 h.1 h.2.inside h.2.net))
      (tests_and _ _ (tests_not (eqb v 0) (tests_eq v 0)) (tests_not (any (is_pin_of p v) (nodes g)) (tests_pin v)))

  module _ (q : ℕ) (at : foreign_at g p X ≡ suc q) where
    first_foreign : FirstForeign g p X q
    first_foreign =
        let s = smallest _ (length X) q at in
        record {
          point = s.within;
          foreign = (tests_foreign q).0 s.passes;
          first = λ o l. fails (tests_foreign o) (s.before (suc o) (omega arith) (omega arith));
        }

    spoilt : Legal g p x → ⊥
    spoilt legal =
        let f = first_foreign in
        let (i, j, l, o, e) = point_at g long wide q (omega (arith, f.point)) in
        let (s, a, h) = legal.known (get_or X q 0) i j l f.foreign.metal (record { inside = o; net = ap (λ (b : ℕ). get_or X b 0) e }) in
        f.foreign.no_pin s a h.inside h.net

  module _ (none : foreign_at g p X ≡ 0) where
    not_foreign : (q : ℕ) → q < length X → Foreign g p X q → ⊥
    not_foreign q h = fails (tests_foreign q) (least_zero _ (length X) (suc q) none (omega arith))

    net_pin : (m : ℕ) → m ≢ 0 → (u : Node) → Held g p x m u → PinOf m
    net_pin m ne (pin s a) h = (s, a, h)
    net_pin m ne (point i j l) h =
        split (any (is_pin_of p m) (nodes g)) (tests_pin m).0
        (λ e. absurd (not_foreign (index g i j l) (omega (arith, index_in g i j l h.inside))
        (record { metal = λ z. ne (sym h.net ∙ z); no_pin = λ s a i f. fails (tests_pin m) e (s, a, record { inside = i; net = f ∙ h.net }) })))

    -- no net above the largest has a pin
    one_piece : (m : ℕ) → m ≢ 0 → (m ≤ largest_net → is_broken g p x m ≡ false) → OnePiece g p x m
    one_piece m ne f u v a b =
        let (s, c, h) = net_pin m ne u a in
        whole g p x m (f (omega (arith, numbered s c h.inside, h.net))) u v a b

    legal : broken_net g p X ≡ 0 → Legal g p x
    legal z =
        record {
          known = λ m i j l ne h. net_pin m ne (point i j l) h;
          whole = λ m u v ne. one_piece m ne (λ h. least_zero _ largest_net m z (omega arith)) u v;
        }

    first_broken : (b : ℕ) → broken_net g p X ≡ suc b → FirstBroken g p X (suc b)
    first_broken b e =
        let s = smallest _ largest_net b e in
        record {
          known = not_foreign;
          net = λ z. omega arith;
          broken = broken g p x (suc b) s.passes;
          first = λ o ne l. one_piece o ne (λ h. s.before o (omega arith) l);
        }

  finds : (r : Refusal) → Judged g p X r → r ≡ found g p X
  finds r judged = go (foreign_at g p X) (broken_net g p X) refl refl
    where
      go : (f b : ℕ) → foreign_at g p X ≡ f → broken_net g p X ≡ b → r ≡ answer_for f b
      go zero zero e z = accepts g p X r judged (legal e z)
      go zero (suc b) e z = names_broken g p X r judged (suc b) (first_broken e b z)
      go (suc q) b e z = names_foreign g p X r judged q (first_foreign q e) (spoilt q e)

-- ---- the call, with a scratch that has room

more_room : (a : Reading) (w k x y z : ℕ) → (check_refusal a w k x y).number ≡ 0 → y ≤ z → (check_refusal a w k x z).number ≡ 0
unfolding check_refusal
more_room a w k x y z e h =
    let room = (no_refusal a w k x y e).room in
    rw (le-leb (a.problem.n.0 * w * k) z (omega arith)) (rw (le-leb (a.problem.n.0 * w * k) y room) at e)

module _ (s : List ℕ) (w k : ℕ) (first : Bool) (x : List ℕ) (ready : (check_refusal (tallied s) w k (length x) (length x)).number ≡ 0) where
  abbrev g : Grid
  g = check_grid (tallied s).problem w k first

  abbrev p : Pins
  p = pins_in (tallied s).problem.pins

  passes_all : Passed (tallied s) w k (length x) (length x)
  passes_all = no_refusal (tallied s) w k (length x) (length x) ready

  good : Good (tallied s).problem
  good = reading_good s (sym (read_tallied s)) passes_all.read

  pub check_gives : Gives s w k first x (found g p x)
  check_gives y y' r h c =
      let checked = subst (λ (t : Reading). Checked t w k first x y y' r) (read_tallied s) c in
      let none = more_room (tallied s) w k (length x) (length x) (length y) ready h in
      finds g p x good.columns.0 passes_all.width.0 passes_all.size (λ t a i. good.numbered t a) r (checked.judged none)

  pub found_legal : foreign_at g p x ≡ 0 → broken_net g p x ≡ 0 → Legal g (ticket_pins s) (wiring_of g x)
  found_legal e z =
      subst (λ (t : Reading). Legal g (pins_in t.problem.pins) (wiring_of g x)) (sym (read_tallied s))
      (legal g p x good.columns.0 passes_all.width.0 passes_all.size (λ t a i. good.numbered t a) e z)
