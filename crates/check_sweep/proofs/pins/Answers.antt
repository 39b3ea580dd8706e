-- One layer more, and all of them.
use Rattle.std.proofs.Common.{arith}
use Rattle.grid.specs.Grid.{grid_of}
use Rattle.check_link.proofs.Sweeping.{below_more, below_all}
use Rattle.check_sweep.specs.Pins.{EndsOf}
use Rattle.check_sweep.proofs.pins.Goals as goal

pub loop-l-preserved : goal.loop-l-preserved
loop-l-preserved c = below_more _ _ c.loop-l.invariant c.ends-made.ensures

pub returns : goal.returns
returns c = below_all (EndsOf (grid_of c.args.x.frame)) _ _ (omega arith) c.loop-l.invariant
