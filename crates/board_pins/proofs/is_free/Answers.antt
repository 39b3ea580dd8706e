-- The place is tested on the side that its number says.
use Rattle.std.proofs.Common.{ℕ, refl, ap, ◌∙◌, arith}
use Rattle.terms.specs.Kinds.{north, south, west, east, by_kind}
use Rattle.problem.specs.Problem.{pins_in}
use Rattle.board_law.proofs.Places.{on_north, on_south, on_west, on_east}
use Rattle.board_pins.proofs.Frees.{freed}
use Rattle.board_pins.proofs.is_free.Goals as goal

pub returns-then-v-lt-SOUTH_FROM : goal.returns-then-v-lt-SOUTH_FROM
returns-then-v-lt-SOUTH_FROM c =
    let q = c.args.q.now in
    let size = c.by_kind.ensures ∙ ap (λ (n : ℕ). by_kind q.kind 0 n n n n) c.column_count-n.ensures in
    freed q (pins_in c.args.pins.now) c.args.v c.args.v _ north _ (on_north c.args.v c.if-v-lt-SOUTH_FROM.true) (omega arith) size
    c.is_empty.ensures

pub returns-then-v-lt-WEST_FROM : goal.returns-then-v-lt-WEST_FROM
returns-then-v-lt-WEST_FROM c =
    let q = c.args.q.now in
    let size = c.by_kind-then-v-lt-WEST_FROM.ensures ∙ ap (λ (n : ℕ). by_kind q.kind 0 0 n n n) c.column_count-n.ensures in
    freed q (pins_in c.args.pins.now) c.args.v _ _ south _ (on_south c.args.v (omega arith) c.if-v-lt-WEST_FROM.true) refl size
    c.is_empty-then-v-lt-WEST_FROM.ensures

pub returns-then-v-lt-EAST_FROM : goal.returns-then-v-lt-EAST_FROM
returns-then-v-lt-EAST_FROM c =
    let q = c.args.q.now in
    let size = c.by_kind-w.ensures ∙ ap (λ (w : ℕ). by_kind q.kind 0 0 0 w 0) c.from.ensures in
    freed q (pins_in c.args.pins.now) c.args.v _ _ west _ (on_west c.args.v (omega arith) c.if-v-lt-EAST_FROM.true) refl size
    c.is_empty-then-v-lt-EAST_FROM.ensures

pub returns : goal.returns
returns c =
    let q = c.args.q.now in
    let size = c.by_kind-w.ensures ∙ ap (λ (w : ℕ). by_kind q.kind 0 0 0 w 0) c.from.ensures in
    freed q (pins_in c.args.pins.now) c.args.v _ _ east _ (on_east c.args.v (omega arith)) refl size c.is_empty-2.ensures
