-- A layer that has one above it ends where that one begins.
use Rattle.std.proofs.Common.{ℕ, ◌+◌, ◌*◌, ltb, arith, lt-ltb}
use Rattle.check_link.specs.Edges.{When, Run}
use Rattle.check_link.proofs.Offsets.{next_in}
use Rattle.check_link.proofs.Sweeping.{swept_at, swept_as}
use Rattle.check_link.proofs.up.Goals as goal

pub run-requires : goal.run-requires
run-requires c =
    let f = c.args.x.frame in
    omega (arith, next_in c.args.l f.k.0 c.area-each.result f.n.0 f.w.0 c.area-each.ensures (omega arith))

pub returns-then-l-layer_count : goal.returns-then-l-layer_count
returns-then-l-layer_count c =
    swept_at (λ (u : ℕ). When (ltb (c.args.l + 1) c.args.x.frame.k.0) (Run (c.args.l * u) u u)) _ _ c.area-each.ensures
    (swept_as _ (λ a b e. (lt-ltb _ _ (omega arith), e)) (λ a b e. e.1) c.run.ensures)
