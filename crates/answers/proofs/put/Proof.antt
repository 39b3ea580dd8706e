-- `answers::put` meets its contract: after i turns the array is its own copy with the first i entries pasted at its start.
use Prim.Native.Nat.{ℕ, ◌-◌, ◌≤◌}
use mathlib.Core.Path.{◌≡◌, refl, ap, ◌∙◌}
use mathlib.Core.List.{List}
use native.Mathlib.Omega.{arith}
use lib.ListN.{length, get_or, set}
use Rattle.answers.proofs.Storing.{front, front_next, front_length, front_whole}
use Rattle.answers.proofs.put.Statement.{statement}
use Rattle.answers.proofs.put.Tie as tie

abbrev invariant-loop : tie.invariant-loop-i
invariant-loop answer₀ entries i₀ i-end answer i = (i ≤ length entries) × (answer ≡ front answer₀ entries i)

abbrev decreases-loop : tie.decreases-loop-i
decreases-loop answer₀ entries i₀ i-end answer i = length entries - i

loop-holds : tie.Need-loop-i-init invariant-loop decreases-loop
loop-holds c = (omega arith, refl)

mul-answer : tie.Need-offset_bounds-entries-i invariant-loop decreases-loop
mul-answer c = omega arith

shared-slice-read-answer : tie.Need-bounds-entries-i invariant-loop decreases-loop
shared-slice-read-answer c = omega arith

mul-answer-2 : tie.Need-offset_bounds-answer-i invariant-loop decreases-loop
mul-answer-2 c = omega arith

slice-write-answer : tie.Need-bounds-answer-i invariant-loop decreases-loop
slice-write-answer c = omega (
  arith,
  ap length c.loop-i.invariant.1 ∙ front_length c.args.answer.now
      c.args.entries.now (omega arith) c.loop-i.i (omega arith),
)

add-i : tie.Need-overflow_step-i invariant-loop decreases-loop
add-i c = omega arith

loop-less : tie.Need-loop-i-smaller invariant-loop decreases-loop
loop-less c = omega arith

loop-again : tie.Need-loop-i-preserved invariant-loop decreases-loop
loop-again c = (
  omega arith,
  ap (λ (l : List ℕ). set l c.loop-i.i (get_or c.args.entries.now
      c.loop-i.i 0)) c.loop-i.invariant.1 ∙ front_next c.args.answer.now
      c.args.entries.now (omega arith) c.loop-i.i (omega arith),
)

same_length : tie.Need-shape_of-answer invariant-loop decreases-loop
same_length c = ap length c.loop-i.invariant.1 ∙ front_length c.args.answer.now c.args.entries.now
    (omega arith) c.loop-i.i (omega arith)

returns : tie.Need-returns invariant-loop decreases-loop
returns c = let all : c.loop-i.i ≡ length c.args.entries.now = omega arith in c.loop-i.invariant.1 ∙ ap
    (front c.args.answer.now c.args.entries.now) all ∙ front_whole c.args.answer.now
    c.args.entries.now (omega arith)

pub put_spec : {M : Type 1} → statement M
put_spec =
    tie.close (tie.spec invariant-loop decreases-loop loop-holds mul-answer shared-slice-read-answer mul-answer-2 slice-write-answer add-i loop-less
    loop-again same_length returns)
