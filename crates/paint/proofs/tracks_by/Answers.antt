-- Rows of one byte are the bytes of one row; a row's store is within the part.
use Rattle.std.proofs.Common.{arith, le_refl}
use Rattle.paint.proofs.Laws.{lined_bytes, filled_next, row_in, store_in}
use Rattle.paint.proofs.tracks_by.Goals as goal
use Rattle.paint.proofs.tracks_by.Goals.{then-n-le-STORE, else-n-le-STORE}

pub returns-then-n-eq1 : goal.returns-then-n-eq1
returns-then-n-eq1 g c = lined_bytes c.if-n-eq1.true c.requires.size c.fill_by.ensures

pub slice_bounds-fill-end : goal.slice_bounds-fill-end
slice_bounds-fill-end g c =
    elim c.if-n-le-STORE.branch [
      | then-n-le-STORE w ↦ omega (arith, store_in c.args.n c.args.w c.loop-j.j (omega arith) (omega arith))
      | else-n-le-STORE w ↦ absurd (omega arith)
    ]

pub loop-j-preserved : goal.loop-j-preserved
loop-j-preserved g c =
    elim c.if-n-le-STORE.branch [
      | then-n-le-STORE w ↦
          filled_next 16 c.value.result c.fill.new.self (omega arith)
          (omega (arith, store_in c.args.n c.args.w c.loop-j.j (omega arith) (omega arith))) (c.fill.ensures.after (λ y e. e)) (λ i. c.value.ensures) c.loop-j.invariant
      | else-n-le-STORE w ↦ absurd (omega arith)
    ]

pub loop-j-2-preserved : goal.loop-j-2-preserved
loop-j-2-preserved g c =
    let n = c.args.n in
    filled_next n c.value-in-loop-j-2.result c.fill-in-loop-j-2.new.self (le_refl n) (omega (arith, row_in n c.args.w c.loop-j-2.j (omega arith)))
    (c.fill-in-loop-j-2.ensures.after (λ y e. e)) (λ i. c.value-in-loop-j-2.ensures) c.loop-j-2.invariant
