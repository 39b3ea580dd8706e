-- What laying asks of a two-layer channel and of its operations.
--
--   moves_in moves               the moves as a list, which is empty where there are none
--   from_north, from_south plan  the operations from the north and from the south
--   Layable north south n plan   a channel of length n in which every net has two pins or more, which is not solid, and the operations
--                                that were found for it
use Rattle.std.specs.Prelude.{ℕ, ◌≡◌, false, List, [], Option, None, Some}
use Rattle.grid.specs.Legal.{entry, column_pins}
use Rattle.two_layer_law.specs.Cuts.{Ops, followed}
use Rattle.two_layer_law.specs.Moves.{solid_test}
use Rattle.two_layer_law.specs.Channels.{Channel, Several}
use Rattle.two_layer_cuts.specs.declared.Operation.{Operation}
use Rattle.two_layer_cuts.specs.declared.list.Operations.{Operations}
use Rattle.two_layer_cuts.specs.Rows.{operations_in, ops_of}
use Rattle.two_layer_plan.specs.declared.Plan.{Plan}
use Rattle.two_layer_plan.specs.Plan.{Planned}

abbrev pub moves_in : Option Operations → List Operation
moves_in None = []
moves_in (Some moves) = operations_in moves

abbrev pub from_north : Plan → Ops
from_north plan = followed (ops_of (operations_in plan.norths)) (ops_of (moves_in plan.moves))

abbrev pub from_south : Plan → Ops
from_south plan = ops_of (operations_in plan.souths)

pub record Layable (north south : List ℕ) (n : ℕ) (plan : Plan) : Type 0 where
  pub channel : Channel n (column_pins north south)
  pub several_norths : Several n (entry north) (entry south)
  pub several_souths : Several n (entry south) (entry north)
  pub planned : Planned (entry north) (entry south) n plan
  pub wirable : solid_test (entry north) (entry south) n ≡ false
