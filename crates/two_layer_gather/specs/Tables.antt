-- The tables of a side's columns, as the functions' contracts cite them.
--
--   Table f list       entry m of the list is f m, for each byte m
use Rattle.std.specs.Prelude.{ℕ, ◌<◌, ◌≡◌, List, length, get_or}
use Rattle.terms.specs.Limits.{byte_values}

pub record Table (f : ℕ → ℕ) (list : List ℕ) : Type 0 where
  pub size : length list ≡ byte_values
  pub is : (m : ℕ) → m < byte_values → get_or list m 0 ≡ f m
