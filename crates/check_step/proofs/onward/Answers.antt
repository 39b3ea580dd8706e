-- The point is marked that a step leads to, or the walk goes back.
use Rattle.std.proofs.Common.{arith}
use Rattle.check_step.proofs.Steps.{in_buffer}
use Rattle.check_step.proofs.Growing.{moved_on, moved_back}
use Rattle.check_step.proofs.onward.Goals as goal

pub returns-then-is_free : goal.returns-then-is_free
returns-then-is_free c =
    moved_on c.args.x.shape c.args.x.size c.requires.1 c.requires.0 c.in-Some.ensures (c.is_free.ensures c.if-is_free.true) (λ z. omega arith)

pub returns-then-is_free-2 : goal.returns-then-is_free-2
returns-then-is_free-2 c =
    moved_on c.args.x.shape c.args.x.size c.requires.1 c.requires.0 c.in-Some-behind.ensures (c.is_free-in-Some-behind.ensures c.if-is_free-2.true) (λ z. omega arith)

pub is_free-requires-in-Some-above : goal.is_free-requires-in-Some-above
is_free-requires-in-Some-above c = in_buffer c.args.x.shape c.args.x.size c.requires.1 c.in-Some-above.ensures.cell

pub returns-then-is_free-3 : goal.returns-then-is_free-3
returns-then-is_free-3 c =
    moved_on c.args.x.shape c.args.x.size c.requires.1 c.requires.0 c.in-Some-above.ensures (c.is_free-in-Some-above.ensures c.if-is_free-3.true) (λ z. omega arith)

pub is_free-requires-in-Some-below : goal.is_free-requires-in-Some-below
is_free-requires-in-Some-below c = in_buffer c.args.x.shape c.args.x.size c.requires.1 c.in-Some-below.ensures.cell

pub returns-then-is_free-4 : goal.returns-then-is_free-4
returns-then-is_free-4 c =
    moved_on c.args.x.shape c.args.x.size c.requires.1 c.requires.0 c.in-Some-below.ensures (c.is_free-in-Some-below.ensures c.if-is_free-4.true) (λ z. omega arith)

pub returns : goal.returns
returns c = moved_back _ _ c.retreat.ensures
