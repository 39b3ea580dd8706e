-- Rows of the block are eight rows each, and the last w % 8 rows stand behind them.
use Rattle.std.proofs.Common.{◌*◌, ◌/◌, ◌%◌, ℕ, length, sym, ap, arith, ◌∙◌}
use lib.Seq.{length-take-le}
use Rattle.paint.proofs.Laws.{block_long, blocks_fit, blocks_end, first_long, first_rows, above_rest, back_long, back_striped}
use Rattle.paint.proofs.wide_rows.Goals as goal

pub overflow_mul-from-2 : goal.overflow_mul-from-2
overflow_mul-from-2 c = record { fits = omega (arith, blocks_fit (length c.args.row.now) c.args.w, c.requires.1, c.ranges.w) }

pub slice_bounds-rows-end : goal.slice_bounds-rows-end
slice_bounds-rows-end c = omega (arith, blocks_fit (length c.args.row.now) c.args.w)

pub slice_bounds-rows-end-2 : goal.slice_bounds-rows-end-2
slice_bounds-rows-end-2 c = sym (length-take-le _ c.args.part.now (omega (arith, blocks_fit (length c.args.row.now) c.args.w)))

pub rows-requires-2 : goal.rows-requires-2
rows-requires-2 c =
    length-take-le _ c.args.part.now (omega (arith, blocks_fit (length c.args.row.now) c.args.w))
    ∙ sym (ap (λ (u : ℕ). u * (c.args.w / 8)) (block_long _ _ c.requires.0 c.eight_copies-block.ensures.long))

pub slice_bounds-rows-count : goal.slice_bounds-rows-count
slice_bounds-rows-count c =
    let above = above_rest c.requires.0 c.eight_copies-block.ensures c.args.w c.requires.1 c.rows-2.ensures in
    omega (arith, above.long, blocks_fit (length c.args.row.now) c.args.w)

pub slice_bounds-rows-start : goal.slice_bounds-rows-start
slice_bounds-rows-start c =
    let above = above_rest c.requires.0 c.eight_copies-block.ensures c.args.w c.requires.1 c.rows-2.ensures in
    omega (arith, above.long, blocks_fit (length c.args.row.now) c.args.w)

pub rows-requires-3 : goal.rows-requires-3
rows-requires-3 c =
    let b = c.eight_copies-block.ensures in
    back_long c.args.w (c.args.w % 8) (omega arith) (blocks_end _ _) c.requires.1 (above_rest c.requires.0 b c.args.w c.requires.1 c.rows-2.ensures)
    ∙ sym (ap (λ (u : ℕ). u * (c.args.w % 8)) (first_long c.requires.0 b))

pub returns : goal.returns
returns c =
    let b = c.eight_copies-block.ensures in
    back_striped c.args.w (c.args.w % 8) (omega arith) (blocks_end _ _) c.requires.1
    (above_rest c.requires.0 b c.args.w c.requires.1 c.rows-2.ensures) (first_rows c.requires.0 b c.rows-3.ensures)
