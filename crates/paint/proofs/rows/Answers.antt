-- Each row is written as a copy.
use Rattle.std.proofs.Common.{arith, length, get_or, ap, le_refl}
use Rattle.paint.proofs.Laws.{lined_next, row_in}
use Rattle.paint.proofs.rows.Goals as goal

pub loop-j-preserved : goal.loop-j-preserved
loop-j-preserved c =
    let n = length c.args.row.now in
    let copied = c.copy_from_slice.ensures.after in
    lined_next n c.copy_from_slice.new.self (le_refl n)
    (omega (arith, row_in n c.args.w c.loop-j.j (omega (arith, c.loop-j-test.true)))) (ap length copied)
    (λ i h. ap (λ l. get_or l i 0) copied) c.loop-j.invariant
