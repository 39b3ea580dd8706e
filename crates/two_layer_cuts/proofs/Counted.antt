-- As many operations are in the list as are counted, and one more stands behind them.
use Rattle.std.proofs.Common.{◌+◌, ◌<◌, ◌≡◌, [], ◌∷◌, ◌++◌, length, set}
use Rattle.std.proofs.lemmas.List.{take_more_set}
use lib.Seq.{length-take-le}
use Rattle.two_layer_cuts.specs.declared.Operation.{Operation}
use Rattle.two_layer_cuts.specs.declared.list.Operations.{Operations}
use Rattle.two_layer_cuts.specs.Rows.{operations_in}

pub counted : (o : Operations) → length (operations_in o) ≡ o.count
unfolding operations_in
counted o = length-take-le o.count o.items o.fits

pub one_behind : (o p : Operations) (x : Operation) → o.count < length o.items → p.items ≡ set o.items o.count x → p.count ≡ o.count + 1
    → operations_in p ≡ operations_in o ++ x ∷ []
unfolding operations_in
one_behind o p x room items count = rw (items, count) (take_more_set o.items o.count x room)
