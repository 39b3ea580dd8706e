-- A test that a call answered, from what the call ensures and the branch that was taken; and two numbers compared.
use Prim.Native.Nat.{ℕ, ◌≤◌, ◌<◌}
use mathlib.Core.Bool.{Bool, true, false}
use mathlib.Core.Path.{◌≡◌, sym, ◌∙◌}
use mathlib.Core.Logic.{◌⊎◌, inl, inr}
use native.Mathlib.Decide.{dec_le}
use native.Mathlib.Nat.{lt_of_not-le}

pub failed : {r t : Bool} → r ≡ t → r ≡ false → t ≡ false
failed e f = sym e ∙ f

pub passed : {r t : Bool} → r ≡ t → r ≡ true → t ≡ true
passed e f = sym e ∙ f

pub le_or_lt : (m n : ℕ) → (m ≤ n) ⊎ (n < m)
le_or_lt m n = elim (dec_le m n) [ yes h ↦ inl h | no h ↦ inr (lt_of_not-le h) ]
