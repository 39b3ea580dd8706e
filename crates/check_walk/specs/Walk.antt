-- Where a walk begins. The walk is there for speed alone: its contract says that what it marks is reached (Grown), no more.
-- Cited by the contracts of inner functions alone; Check's promise speaks of the grid's own joins.
--
--   Pinned g s a c h    the marked pin a touches cell c, if c's layer is horizontal (h: true) or vertical
use Rattle.std.specs.Prelude.{ℕ, ◌<◌, ◌≢◌, Bool, List}
use Rattle.grid.specs.Grid.{Grid}
use Rattle.check_link.specs.Marks.{at}
use Rattle.check_sweep.specs.Pins.{pin_places}
use Rattle.check_step.specs.declared.Cell.{Cell}
use Rattle.check_step.specs.Step.{On, Tip}

pub record Pinned (g : Grid) (s : List ℕ) (a : ℕ) (c : Cell) (flat : Bool) : Type 0 where
  pub place : a < pin_places
  pub marked : at s a ≢ 0
  pub cell : On g c
  pub tip : Tip g a c.i c.j flat
