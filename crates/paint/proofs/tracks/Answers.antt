-- The closure reads the values.
use Rattle.std.proofs.Common.{rules}
use Rattle.paint.proofs.Laws.{lined_striped}
use Rattle.paint.proofs.tracks.Goals as goal

pub returns : goal.returns
returns c = lined_striped (λ i j v h. search rules) c.tracks_by.ensures
