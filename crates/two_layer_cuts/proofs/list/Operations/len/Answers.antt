-- As many as are counted.
use Rattle.std.proofs.Common.{sym}
use Rattle.two_layer_cuts.proofs.Counted.{counted}
use Rattle.two_layer_cuts.proofs.list.Operations.len.Goals as goal

pub returns-clause-value : goal.returns-clause-value
returns-clause-value c = sym (counted c.args.self.now)
