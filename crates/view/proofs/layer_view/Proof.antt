-- `view::layer_view` meets its contract: a view that is not refused has a layer whose part lies in the buffer.
use borrow.Author.Rules.{rules}
use Prim.Native.Nat.{◌+◌, ◌-◌}
use mathlib.Core.Path.{refl}
use native.Mathlib.Omega.{arith}
use Rattle.grid.proofs.Sizes.{points_le}
use Rattle.view.proofs.Views.{seen, start_refused, start_seen, part_in, shown}
use Rattle.view.proofs.layer_view.Statement.{statement}
use Rattle.view.proofs.layer_view.Tie as tie

returns : tie.Need-returns-then-refusal-ne0
returns c =
    let s = start_refused _ _ _ _ _ _ c.layer_view_refusal-refusal.ensures c.if-refusal-ne0.true in
    shown _ _ 0 0 refl refl (omega arith) s.0 s.1 (omega arith)

index-of-requires : tie.Need-index_of-from-requires
index-of-requires c κs =
    let v = seen _ _ _ _ _ _ c.layer_view_refusal-refusal.ensures c.if-refusal-ne0.false in
    omega (arith, v.grid.long, v.grid.wide, v.grid.high, v.level)

area-requires : tie.Need-area-requires
area-requires c κs =
    let v = seen _ _ _ _ _ _ c.layer_view_refusal-refusal.ensures c.if-refusal-ne0.false in
    omega (arith, v.grid.long, v.grid.wide)

add-to : tie.Need-overflow_add-to
add-to c =
    let given = c.layer_view_refusal-refusal.ensures in
    let v = seen _ _ _ _ _ _ given c.if-refusal-ne0.false in
    let within = part_in _ _ _ _ _ _ given c.if-refusal-ne0.false in
    let few = points_le _ _ _ v.grid.long.1 v.grid.wide.1 v.grid.high.1 in
    omega (arith, c.index_of-from.ensures, c.area.ensures, v.whole, within, few)

part-result-end : tie.Need-slice_bounds-result-end-2
part-result-end c =
    let within = part_in _ _ _ _ _ _ c.layer_view_refusal-refusal.ensures c.if-refusal-ne0.false in
    omega (arith, c.index_of-from.ensures, c.area.ensures, within)

returns-2 : tie.Need-returns
returns-2 c =
    let given = c.layer_view_refusal-refusal.ensures in
    let s = start_seen _ _ _ _ _ _ given c.if-refusal-ne0.false in
    let within = part_in _ _ _ _ _ _ given c.if-refusal-ne0.false in
    let from = c.index_of-from in
    let size = c.area in
    shown _ _ from.result (from.result + size.result - from.result) refl refl (omega arith) (omega (arith, s.0, from.ensures))
    (omega (arith, s.1, size.ensures)) (omega (arith, from.ensures, size.ensures, within))

pub layer_view_spec : {M : Type 1} → statement M
layer_view_spec =
    tie.close (tie.spec (λ c κs. search rules) (λ c. search rules) returns index-of-requires area-requires add-to (λ c. search rules)
    (λ c. search rules) part-result-end returns-2)
