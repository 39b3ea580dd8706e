-- The tables are those that `gather` asks for.
use Rattle.two_layer_gather.proofs.gather_side.Goals as goal

pub returns : goal.returns
returns c = λ b cs fs os. c.gather.ensures _ b _ cs fs c.lasts.ensures os
