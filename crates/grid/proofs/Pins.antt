-- What the laws ask of pins.
use Prim.Native.Nat.{ℕ, ◌≤◌}
use mathlib.Core.Path.{◌≡◌}
use Rattle.counting.specs.Counting.{In}
use Rattle.terms.specs.Kinds.{Side}
use Rattle.terms.specs.Limits.{largest_net}
use Rattle.grid.specs.Grid.{Grid, places}
use Rattle.grid.specs.Legal.{Pins}

-- side s has no pins
abbrev pub Bare : Pins → Side → Type 0
Bare p s = (a : ℕ) → p s a ≡ 0

-- each pin place holds 0 or a net number
abbrev pub Numbered : Grid → Pins → Type 0
Numbered g p = (s : Side) (a : ℕ) → In a (places g s) → p s a ≤ largest_net
