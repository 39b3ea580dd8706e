-- The edges upwards and those within the layer are the layer's.
use Rattle.std.proofs.Common.{inl, inr}
use Rattle.check_link.proofs.Sweeping.{swept_then}
use Rattle.check_link.proofs.layer.Goals as goal

pub returns : goal.returns
returns c = swept_then _ (λ a b e. inl e) (λ a b e. inr e) (λ a b e. e) c.up.ensures c.along.ensures
