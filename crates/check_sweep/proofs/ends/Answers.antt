-- Each side's points are within the layer, and the two sides are those of its direction.
use Rattle.std.proofs.Common.{ℕ, ◌⊎◌, ◌+◌, ◌*◌, ◌-◌, true, false, sym, ◌∙◌, ap, inl, inr, arith}
use native.Mathlib.Nat.{mul-one}
use Rattle.check_link.proofs.Offsets.{first_row, layer_in, rows_in}
use Rattle.check_link.proofs.Sweeping.{swept_then, swept_at, swept_at₃}
use Rattle.check_link.specs.Edges.{horizontal}
use Rattle.check_sweep.specs.Pins.{Ends, PinRun, south_start}
use Rattle.check_sweep.proofs.ends.Goals as goal

pub side-west-requires-clause-inside : goal.side-west-requires-clause-inside
side-west-requires-clause-inside c =
    let f = c.args.x.frame in
    let in_layer = layer_in c.args.l f.k.0 c.area-each.result f.n.0 f.w.0 c.area-each.ensures c.requires.0 in
    let last = first_row f.n.0 f.w.0 (omega arith) in
    λ t h. omega (arith, in_layer, rows_in t f.w.0 f.n.0 (omega arith), ap (λ (u : ℕ). t * u) c.column_count-n.ensures)

pub side-east-requires-clause-inside : goal.side-east-requires-clause-inside
side-east-requires-clause-inside c =
    let f = c.args.x.frame in
    let in_layer = layer_in c.args.l f.k.0 c.area-each.result f.n.0 f.w.0 c.area-each.ensures c.requires.0 in
    let last = first_row f.n.0 f.w.0 (omega arith) in
    λ t h. omega (arith, in_layer, rows_in t f.w.0 f.n.0 (omega arith), ap (λ (u : ℕ). t * u) c.column_count-n.ensures)

pub side-south-requires-clause-inside : goal.side-south-requires-clause-inside
side-south-requires-clause-inside c =
    let f = c.args.x.frame in
    let in_layer = layer_in c.args.l f.k.0 c.area-each.result f.n.0 f.w.0 c.area-each.ensures c.requires.0 in
    let last = first_row f.n.0 f.w.0 (omega arith) in
    λ t h. omega (arith, in_layer, last, mul-one t)

pub side-north-requires-clause-inside : goal.side-north-requires-clause-inside
side-north-requires-clause-inside c =
    let f = c.args.x.frame in
    let in_layer = layer_in c.args.l f.k.0 c.area-each.result f.n.0 f.w.0 c.area-each.ensures c.requires.0 in
    let last = first_row f.n.0 f.w.0 (omega arith) in
    λ t h. omega (arith, in_layer, last, mul-one t)

pub returns-then-is_horizontal : goal.returns-then-is_horizontal
returns-then-is_horizontal c =
    let f = c.args.x.frame in
    swept_at (Ends (c.args.l * (f.n.0 * f.w.0)) f.n.0 f.w.0) true (horizontal f.first c.args.l) (sym c.if-is_horizontal.true ∙ c.is_horizontal.ensures)
    (swept_at₃ (λ each n w. Ends (c.args.l * each) n w true) c.area-each.ensures c.column_count-n.ensures c.track_count-w.ensures
    (swept_then _ (λ a b e. inl e) (λ a b e. inr e) (λ a b e. e) c.side-west.ensures c.side-east.ensures))

pub returns-else-is_horizontal : goal.returns-else-is_horizontal
returns-else-is_horizontal c =
    let f = c.args.x.frame in
    swept_at (Ends (c.args.l * (f.n.0 * f.w.0)) f.n.0 f.w.0) false (horizontal f.first c.args.l) (sym c.if-is_horizontal.false ∙ c.is_horizontal.ensures)
    (swept_at₃ (λ each n w a b. PinRun south_start (c.args.l * each) 1 n a b ⊎ PinRun 0 (c.args.l * each + (each - n)) 1 n a b) c.area-each.ensures
    c.column_count-n.ensures c.track_count-w.ensures
    (swept_then _ (λ a b e. inl e) (λ a b e. inr e) (λ a b e. e) c.side-south.ensures c.side-north.ensures))
