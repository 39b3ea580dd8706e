-- Within a layer.
use Rattle.std.proofs.Common.{arith}
use Rattle.check_link.proofs.Offsets.{layer_in, first_row}
use Rattle.check_link.proofs.along.Goals as goal

pub run-requires : goal.run-requires
run-requires c =
    let f = c.args.x.frame in
    omega (arith, layer_in c.args.l f.k.0 c.area-each.result f.n.0 f.w.0 c.area-each.ensures c.requires.0, first_row f.n.0 f.w.0 (omega arith))
