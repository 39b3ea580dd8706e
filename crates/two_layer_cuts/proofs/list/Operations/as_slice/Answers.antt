-- The part that is lent holds the operations that are counted.
use Rattle.std.proofs.Common.{refl}
use Rattle.two_layer_cuts.specs.Rows.{operations_in}
use Rattle.two_layer_cuts.proofs.list.Operations.as_slice.Goals as goal

pub returns : goal.returns
unfolding operations_in
returns c = refl
