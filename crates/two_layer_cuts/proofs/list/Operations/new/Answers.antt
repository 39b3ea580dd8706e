-- None is counted.
use Rattle.std.proofs.Common.{refl}
use Rattle.two_layer_cuts.specs.Rows.{operations_in}
use Rattle.two_layer_cuts.proofs.list.Operations.new.Goals as goal

pub returns : goal.returns
unfolding operations_in
returns c = refl
