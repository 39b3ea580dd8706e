-- The pins that were met are reached, and then what a step marks.
use Rattle.std.proofs.Common.{refl}
use Rattle.check_sweep.proofs.Settling.{grown_then}
use Rattle.check_step.proofs.advance.Goals as goal

pub returns : goal.returns
returns c =
    record { cell = c.onward.ensures.cell; grown = grown_then (c.meet.ensures.grown _ _ refl c.requires.2) (c.onward.ensures.grown _ _) }
