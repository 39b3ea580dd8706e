-- How many places of a side a flat ticket lists: as the kind table says it, never more than 90, and as many as the problem's grid has
-- where the kind has the side.
use Prim.Native.Nat.{ℕ, ◌≤◌}
use mathlib.Core.Path.{◌≡◌, refl, sym, ◌∙◌}
use mathlib.Core.Logic.{⊎_elim}
use mathlib.Core.Bool.{Bool, true, false, cond, true≢false}
use native.Mathlib.Omega.{arith}
use lib.Dec.{eqb}
use Rattle.terms.specs.Kinds.{Side, row, channel, box, two_layer, north, south, west, east, by_kind, is_kind, has_side}
use Rattle.terms.specs.Limits.{longest_side}
use Rattle.terms.proofs.Laws.{known}
use Rattle.grid.specs.Grid.{places, upright}
use Rattle.ticket.proofs.Sited.{own_places}
use Rattle.flat_reader.specs.Flat.{places_on}

-- p for the kinds that have the side
pub on_side : (kind p : ℕ) (r c b t : Bool)
    → by_kind kind 0 (cond r p 0) (cond c p 0) (cond b p 0) (cond t p 0) ≡ cond (by_kind kind false r c b t) p 0
on_side kind p r c b t = by_tests (eqb kind row) (eqb kind channel) (eqb kind box) (eqb kind two_layer)
  where
    by_tests : (x y z u : Bool) → cond x (cond r p 0) (cond y (cond c p 0) (cond z (cond b p 0) (cond u (cond t p 0) 0)))
        ≡ cond (cond x r (cond y c (cond z b (cond u t false)))) p 0
    by_tests true y z u = refl
    by_tests false true z u = refl
    by_tests false false true u = refl
    by_tests false false false true = refl
    by_tests false false false false = refl

pub places_le : (kind n byte2 : ℕ) (side : Side) → n ≤ longest_side → byte2 ≤ longest_side → places_on kind n byte2 side ≤ longest_side
places_le kind n byte2 side long broad = by_test_lem (has_side kind side) side
  where
    by_test_lem : (t : Bool) (side : Side) → cond t (places (upright n byte2 1) side) 0 ≤ longest_side
    by_test_lem false side = omega arith
    by_test_lem true north = long
    by_test_lem true south = long
    by_test_lem true west = broad
    by_test_lem true east = broad

pub lacked : (kind n byte2 : ℕ) (side : Side) → has_side kind side ≡ false → places_on kind n byte2 side ≡ 0
lacked kind n byte2 side e = rw e

pub own : (kind n byte2 : ℕ) (side : Side) → is_kind kind ≡ true → has_side kind side ≡ true
    → places_on kind n byte2 side ≡ places (upright n (by_kind kind 1 1 1 byte2 1) 1) side
own kind n byte2 side named has =
    rw has (⊎_elim (λ e. absurd (true≢false (sym has ∙ e))) (λ e. sym e) (own_places n byte2 side (known kind named)))
