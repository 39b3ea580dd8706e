-- A net put at one place of one side, as the four lists of pins; and the four lists with the pins of some nets left out.
use Prim.Native.Nat.{ℕ, ◌+◌, ◌-◌, ◌<◌}
use mathlib.Core.Path.{◌≡◌, sym, ap, ◌∙◌}
use mathlib.Core.Logic.{◌≢◌}
use mathlib.Core.Bool.{cond}
use mathlib.Core.List.{List}
use native.Mathlib.Decide.{ℕ_discrete}
use native.Mathlib.Omega.{arith}
use lib.Dec.{eqb}
use lib.ListN.{length, get_or, set}
use lib.Seq.{get_or-set_same, get_or-set_other}
use borrow.Author.Tests.{eq-eqb, ne_eqb}
use Rattle.counting.specs.Counting.{In}
use Rattle.terms.specs.Limits.{longest_side}
use Rattle.terms.specs.Kinds.{Side, north, south, west, east}
use Rattle.grid.specs.Legal.{entry, pins_of}
use Rattle.grid.proofs.Entries.{entry_at}
use Rattle.board_law.specs.Places.{place_number, listed}
use Rattle.board_law.specs.Edits.{without_nets}

module _ (v x : ℕ) where
  -- at another number nothing changes
  other : (u y : ℕ) → v ≢ u → y ≡ cond (eqb v u) x y
  other u y ne = rw (ne_eqb v u ne)

  -- on the side itself, whose numbers begin after `from`
  on_side : (l : List ℕ) (from i a : ℕ) → length l ≡ longest_side → i < longest_side → v ≡ from + i + 1 → In a longest_side
      → entry (set l i x) a ≡ cond (eqb v (from + a)) x (entry l a)
  on_side l from i a size h e j = elim (ℕ_discrete v (from + a)) [
    | yes here ↦
        let same : a - 1 ≡ i = omega arith in
        entry_at (set l i x) a j.0 ∙ ap (λ (k : ℕ). get_or (set l i x) k 0) same ∙ get_or-set_same l i x 0 (omega (arith, size))
        ∙ sym (rw (eq-eqb v (from + a) here))
    | no there ↦
        entry_at (set l i x) a j.0 ∙ get_or-set_other l i (a - 1) x 0 (λ k. there (omega arith)) ∙ sym (entry_at l a j.0)
        ∙ other (from + a) (entry l a) there
  ]

  module _ (n s w e : List ℕ) where
    pub put_north : length n ≡ longest_side → In v longest_side → (t : Side) (a : ℕ) → In a longest_side
        → pins_of (set n (v - 1) x) s w e t a ≡ cond (eqb v (place_number t a)) x (pins_of n s w e t a)
    put_north size i north a j = on_side n 0 (v - 1) a size (omega arith) (omega arith) j
    put_north size i south a j = other (place_number south a) _ (λ q. omega arith)
    put_north size i west a j = other (place_number west a) _ (λ q. omega arith)
    put_north size i east a j = other (place_number east a) _ (λ q. omega arith)

    pub put_south : length s ≡ longest_side → In (v - 256) longest_side → (t : Side) (a : ℕ) → In a longest_side
        → pins_of n (set s (v - 256 - 1) x) w e t a ≡ cond (eqb v (place_number t a)) x (pins_of n s w e t a)
    put_south size i north a j = other (place_number north a) _ (λ q. omega arith)
    put_south size i south a j = on_side s 256 (v - 256 - 1) a size (omega arith) (omega arith) j
    put_south size i west a j = other (place_number west a) _ (λ q. omega arith)
    put_south size i east a j = other (place_number east a) _ (λ q. omega arith)

    pub put_west : length w ≡ longest_side → In (v - 512) longest_side → (t : Side) (a : ℕ) → In a longest_side
        → pins_of n s (set w (v - 512 - 1) x) e t a ≡ cond (eqb v (place_number t a)) x (pins_of n s w e t a)
    put_west size i north a j = other (place_number north a) _ (λ q. omega arith)
    put_west size i south a j = other (place_number south a) _ (λ q. omega arith)
    put_west size i west a j = on_side w 512 (v - 512 - 1) a size (omega arith) (omega arith) j
    put_west size i east a j = other (place_number east a) _ (λ q. omega arith)

    pub put_east : length e ≡ longest_side → In (v - 768) longest_side → (t : Side) (a : ℕ) → In a longest_side
        → pins_of n s w (set e (v - 768 - 1) x) t a ≡ cond (eqb v (place_number t a)) x (pins_of n s w e t a)
    put_east size i north a j = other (place_number north a) _ (λ q. omega arith)
    put_east size i south a j = other (place_number south a) _ (λ q. omega arith)
    put_east size i west a j = other (place_number west a) _ (λ q. omega arith)
    put_east size i east a j = on_side e 768 (v - 768 - 1) a size (omega arith) (omega arith) j

-- ---- the nets of a list taken away

abbrev LeftOut : List ℕ → List ℕ → List ℕ → Type 0
LeftOut nets side left = (a : ℕ) → In a longest_side → entry left a ≡ cond (listed nets (entry side a)) 0 (entry side a)

pub left_sides : (nets n s w e n' s' w' e' : List ℕ) → LeftOut nets n n' → LeftOut nets s s' → LeftOut nets w w' → LeftOut nets e e'
    → (t : Side) (a : ℕ) → In a longest_side → pins_of n' s' w' e' t a ≡ without_nets (pins_of n s w e) nets t a
left_sides nets n s w e n' s' w' e' f g h k north = f
left_sides nets n s w e n' s' w' e' f g h k south = g
left_sides nets n s w e n' s' w' e' f g h k west = h
left_sides nets n s w e n' s' w' e' f g h k east = k
