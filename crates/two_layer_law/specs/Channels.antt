-- What a two-layer channel's pins are known to be.
--
--   Channel n p     the pins of a channel of n columns: nets or empty, on its north and south places alone
--   Several n a b   each net of side a has another pin, on side a or on side b; "Each net has at least two pins"
use Rattle.std.specs.Prelude.{ℕ, ◌≤◌, ◌<◌, ◌≡◌, ◌⊎◌, ◌≢◌}
use Rattle.counting.specs.Counting.{In}
use Rattle.terms.specs.Limits.{longest_side, largest_net}
use Rattle.terms.specs.Kinds.{Side, west, east}
use Rattle.grid.specs.Legal.{Pins}

pub record Channel (n : ℕ) (p : Pins) : Type 0 where
  pub bare_west : (a : ℕ) → p west a ≡ 0
  pub bare_east : (a : ℕ) → p east a ≡ 0
  pub numbered : (s : Side) (a : ℕ) → p s a ≤ largest_net
  pub ends : (s : Side) (a : ℕ) → n < a → p s a ≡ 0
  pub columns : In n longest_side
  pub blank : (s : Side) → p s 0 ≡ 0

pub record Several (n : ℕ) (a b : ℕ → ℕ) : Type 0 where
  pub again : (c : ℕ) → In c n → a c ≢ 0 → ((d : ℕ) × In d n × (d ≢ c) × (a d ≡ a c)) ⊎ ((d : ℕ) × In d n × (b d ≡ a c))
