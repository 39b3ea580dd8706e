-- Entry a of a list, counted from 1, is the list's own at index a - 1.
use Prim.Native.Nat.{ℕ, ◌+◌, ◌-◌, ◌≤◌}
use mathlib.Core.Path.{◌≡◌, ap, ◌∙◌}
use mathlib.Core.List.{List}
use native.Mathlib.Numerals.{add-one}
use native.Mathlib.Omega.{arith}
use lib.ListN.{get_or}
use Rattle.grid.specs.Legal.{entry}

pub entry_next : (l : List ℕ) (i : ℕ) → entry l (i + 1) ≡ get_or l i 0
entry_next l i = rw (add-one i)

pub entry_at : (l : List ℕ) (a : ℕ) → 1 ≤ a → entry l a ≡ get_or l (a - 1) 0
entry_at l a h = let e : a ≡ a - 1 + 1 = omega arith in ap (entry l) e ∙ entry_next l (a - 1)
