-- Which places along the grid must pass a net, by its reach: those from its least to its greatest place, if these differ.
use Prim.Native.Nat.{ℕ, suc, ◌≤◌, ◌<◌}
use mathlib.Core.Path.{◌≡◌, refl, sym, ap, ◌∙◌}
use mathlib.Core.Logic.Iff
use mathlib.Core.Logic.{◌↔◌, ◌≢◌, by_cases}
use mathlib.Core.Bool.{Bool, true, not, ◌&&◌, and-eq-true_iff, false≢true}
use native.Mathlib.Decide.{ℕ_discrete}
use native.Mathlib.Omega.{arith}
use lib.Dec.{eqb, leb, ltb}
use borrow.Author.Tests.{eqb-true, eqb-false, eq-eqb, ne_eqb, not-true}
use Rattle.counting.proofs.Sums.{split}
use Rattle.counting.proofs.Counts.{some_in, some_of}
use Rattle.grid.specs.Grid.{Grid, Node, pin, places}
use Rattle.grid.specs.Legal.{Pins}
use Rattle.density.specs.Density.{pin_on, has_pin, passes_at}
use Rattle.density.proofs.Pinned.{side_in_lem, side_of_lem, and_iff, same, leb_iff}
use Rattle.nets.specs.Spans.{PinAt, Reach}

module _ (g : Grid) (p : Pins) (along : Node → ℕ) (m : ℕ) where
  -- a pin of the net whose place along the grid has property P
  abbrev Pinned : (ℕ → Type 0) → Type 0
  Pinned P = (x : ℕ) × PinAt g p along m x × P x

  has_iff : (t : ℕ → Bool) (P : ℕ → Type 0) → ((x : ℕ) → (t x ≡ true) ↔ P x) → (has_pin g p along m t ≡ true) ↔ Pinned P
  unfolding has_pin pin_on
  has_iff t P i = (
    there,
    λ (x, u, h). side_of_lem (pin_on g p along m t) u.side
        (some_of _ _ u.place u.on (rw (eq-eqb _ _ u.net) (ap t u.there ∙ (i x).1 h))),
  )
    where
      there : has_pin g p along m t ≡ true → Pinned P
      there e =
          let (s, f) = side_in_lem (pin_on g p along m t) e in
          let (a, j, h) = some_in (λ a. eqb (p s a) m && t (along (pin s a))) (places g s) f in
          let (q, r) = (and-eq-true_iff (eqb (p s a) m) (t (along (pin s a)))).0 h in
          (along (pin s a), record { side = s; place = a; on = j; net = eqb-true _ _ q; there = refl }, (i _).0 r)

  pub passes_reach : {low high : ℕ} (c : ℕ) → Reach g p along m low high → passes_at g p along c m ≡ (leb low c && leb c high && ltb low high)
  unfolding passes_at
  passes_reach {low} {high} c r =
      same _ _ (Iff.trans tests (there, back)) (and_iff _ _ _ (leb_iff low c) (leb_iff c high) (leb_iff (suc low) high))
    where
      tests : (passes_at g p along c m ≡ true) ↔ (Pinned (λ x. x ≤ c) × Pinned (λ x. c ≤ x) × Pinned (λ x. x ≢ c))
      tests = and_iff _ _ _ (has_iff (λ x. leb x c) (λ x. x ≤ c) (λ x. leb_iff x c)) (has_iff (λ x. leb c x) (λ x. c ≤ x) (λ x. leb_iff c x))
          (has_iff (λ x. not (eqb x c)) (λ x. x ≢ c) (λ x. (λ h. eqb-false x c (not-true _ h), λ ne. rw (ne_eqb x c ne))))

      within : {x : ℕ} → PinAt g p along m x → (low ≤ x) × (x ≤ high)
      within u = omega (arith, r.least u.side u.place u.on u.net, r.greatest u.side u.place u.on u.net, u.there)

      there : Pinned (λ x. x ≤ c) × Pinned (λ x. c ≤ x) × Pinned (λ x. x ≢ c) → (low ≤ c) × (c ≤ high) × (low < high)
      there ((x, u, xc), (y, v, cy), (z, k, ne)) = omega (arith, within u, within v, within k)

      any : (has_pin g p along m (λ x. true) ≡ true) ↔ Pinned (λ x. true ≡ true)
      any = has_iff (λ x. true) (λ x. true ≡ true) (λ x. (λ h. h, λ h. h))

      ends : low < high → PinAt g p along m low × PinAt g p along m high
      ends l = split (has_pin g p along m (λ x. true))
          (λ e. let (x, u, h) = any.0 e in (r.lowest u.side u.place u.on u.net, r.highest u.side u.place u.on u.net))
          (λ e. let out = r.none (λ s a i q. false≢true (sym e ∙ any.1 (_, record { side = s; place = a; on = i; net = q; there = refl }, refl))) in
          absurd (omega arith))

      back : (low ≤ c) × (c ≤ high) × (low < high) → Pinned (λ x. x ≤ c) × Pinned (λ x. c ≤ x) × Pinned (λ x. x ≢ c)
      back (lc, ch, lh) = let (f, l) = ends lh in
          ((low, f, lc), (high, l, ch), by_cases (ℕ_discrete low c) (λ e. (high, l, λ q. omega arith)) (λ ne. (low, f, ne)))
