-- Eight rows painted in an array's first bytes are a `Block`.
use Rattle.std.proofs.Common.{ℕ, ◌*◌}
use Rattle.std.proofs.lemmas.List.{length-replicate}
use Rattle.terms.specs.Limits.{longest_side}
use Rattle.paint.proofs.Laws.{block_made}
use Rattle.paint.proofs.eight_copies.Goals as goal

pub returns : goal.returns
returns c = block_made _ c.requires (length-replicate {A = ℕ} (8 * longest_side) 0) c.rows.ensures
