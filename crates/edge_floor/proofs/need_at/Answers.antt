-- `edge_floor::need_at` meets its contract: net by net, the pins beside the column and the other nets that it must pass.
use Rattle.std.proofs.Common.{arith, rules, ◌+◌, ap₂, ◌∙◌, ℕ}
use Rattle.figures.proofs.Entries.{one_most}
use Rattle.edge_floor.proofs.Needs.{need_none, few_passed, pins_more, need_more, need_all}
use Rattle.edge_floor.proofs.need_at.Goals as goal

pub loop-m-init : goal.loop-m-init
loop-m-init c = need_none

pub overflow_add-pins : goal.overflow_add-pins
overflow_add-pins c = omega (arith, c.requires, pins_more c.loop-m.invariant (omega arith) (omega arith))

pub overflow_add-others : goal.overflow_add-others
overflow_add-others c = omega (arith, few_passed c.loop-m.invariant, one_most _ c.from-others.ensures)

pub loop-m-preserved : goal.loop-m-preserved
loop-m-preserved c = need_more c.loop-m.invariant (omega arith) (search rules)

pub returns-clause-value : goal.returns-clause-value
returns-clause-value c =
    ap₂ (λ (a b : ℕ). a + b) c.from.ensures c.from-2.ensures ∙ need_all c.loop-m.invariant (omega arith)
