-- A row's store is within the part, and the bytes that it writes begin with the first row.
use Rattle.std.proofs.Common.{◌≡◌, ℕ, ◌<◌, List, take, arith, length, get_or, ap, le_refl, ◌∙◌}
use lib.Seq.{get_or-take, length-take-le}
use Rattle.paint.proofs.Laws.{lined_next, row_in, store_in}
use Rattle.paint.proofs.repeat_narrow.Goals as goal

-- the bytes below m of what is copied of the first m
front : (m i : ℕ) (xs : List ℕ) {ys : List ℕ} → ys ≡ take m xs → i < m → get_or ys i 0 ≡ get_or xs i 0
front m i xs same h = ap (λ l. get_or l i 0) same ∙ get_or-take m xs i 0 h

pub slice_bounds-copy_from_slice-end-in-loop-j : goal.slice_bounds-copy_from_slice-end-in-loop-j
slice_bounds-copy_from_slice-end-in-loop-j c =
    omega (arith, store_in c.args.n c.args.w c.loop-j.j c.requires.0 c.loop-j-test.true)

pub loop-j-preserved : goal.loop-j-preserved
loop-j-preserved c =
    let first = c.copy_from_slice.ensures.after in
    let copied = c.copy_from_slice-in-loop-j.ensures.after in
    lined_next 16 c.copy_from_slice-in-loop-j.new.self c.requires.1 (omega (arith, store_in c.args.n c.args.w c.loop-j.j c.requires.0 c.loop-j-test.true))
    (ap length (copied ∙ first) ∙ length-take-le 16 c.args.part.now c.requires.2)
    (λ i h. front 16 i _ (copied ∙ first) (omega arith)) c.loop-j.invariant

pub loop-j-2-preserved : goal.loop-j-2-preserved
loop-j-2-preserved c =
    let n = c.args.n in
    let first = c.copy_from_slice.ensures.after in
    let copied = c.copy_from_slice-in-loop-j-2.ensures.after in
    let many : length c.copy_from_slice.new.self ≡ 16 = ap length first ∙ length-take-le 16 c.args.part.now c.requires.2 in
    lined_next n c.copy_from_slice-in-loop-j-2.new.self (le_refl n) (omega (arith, row_in n c.args.w c.loop-j-2.j c.loop-j-2-test.true))
    (ap length copied ∙ length-take-le n c.copy_from_slice.new.self (omega arith))
    (λ i h. front n i _ copied h ∙ front 16 i _ first (omega arith)) c.loop-j-2.invariant
