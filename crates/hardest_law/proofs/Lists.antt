-- The lists of the written box: the nets at its places, and none past them.
use Prim.Native.Nat.{ℕ, ◌≤◌, ◌<◌}
use mathlib.Core.Path.{◌≡◌}
use Rattle.counting.specs.Counting.{In}
use Rattle.terms.specs.Kinds.{Side, north, south, west, east}
use Rattle.terms.specs.Limits.{longest_side}
use Rattle.grid.specs.Grid.{places, upright}
use Rattle.grid.specs.Legal.{Pins}
use Rattle.problem.specs.Problem.{pins_in}
use Rattle.ticket.proofs.Filled.{side_at_lem, side_past}
use Rattle.hardest_law.specs.Box.{net_at, hardest_box}

module _ (n w : ℕ) where
  abbrev pub box_pins : Pins
  box_pins = pins_in (hardest_box n w).pins

  pub net_past : (s : Side) (a : ℕ) → places (upright n w 1) s < a → box_pins s a ≡ 0
  net_past north a = side_past (net_at n w north) n a
  net_past south a = side_past (net_at n w south) n a
  net_past west a = side_past (net_at n w west) w a
  net_past east a = side_past (net_at n w east) w a

  module _ (long : n ≤ longest_side) (broad : w ≤ longest_side) where
    pub net_at_lem : (s : Side) (a : ℕ) → In a (places (upright n w 1) s) → box_pins s a ≡ net_at n w s a
    net_at_lem north a = side_at_lem (net_at n w north) n a long
    net_at_lem south a = side_at_lem (net_at n w south) n a long
    net_at_lem west a = side_at_lem (net_at n w west) w a broad
    net_at_lem east a = side_at_lem (net_at n w east) w a broad
