-- `survey::number`: by recursion on the number, the digits before the last and then the last.
use Rattle.std.proofs.Common.{ap, sym, subst, length, arith, [], ◌∷◌, ◌+◌, ◌%◌}
use Rattle.output.specs.declared.Output.{Output}
use Rattle.output.specs.Building.{Adds}
use Rattle.output.proofs.Laws.{adds_adds, adds_as}
use Rattle.survey.specs.Line.{decimal}
use Rattle.survey.proofs.Lines.{decimal_last, decimal_more, decimal_grows}
use Rattle.survey.proofs.+number.Goals as goal
use Rattle.survey.proofs.+number.Goals.{then-x-ge10, else-x-ge10}

pub number-requires : goal.number-requires
number-requires t c =
    (omega (arith, c.decreases, c.if-x-ge10.true), omega (arith, c.requires, decimal_grows c.args.x c.if-x-ge10.true))

pub push-requires : goal.push-requires
push-requires t c =
    let used = λ (o : Output). o.used in
    elim c.if-x-ge10.branch [
      | then-x-ge10 w ↦ omega (arith, c.requires, ap used w.line-is, w.number.ensures.size, decimal_grows c.args.x w.if-x-ge10.true)
      | else-x-ge10 w ↦ omega (arith, c.requires, ap used w.line-is, ap length (decimal_last c.args.x w.if-x-ge10.false))
    ]

pub returns : goal.returns
returns t c =
    let x = c.args.x in
    let last = λ (o : Output). Adds o ((48 + x % 10) ∷ []) c.push.new.self in
    let adds : Adds c.args.line.now (decimal x) c.push.new.self =
    elim c.if-x-ge10.branch [
      | then-x-ge10 w ↦
          adds_as (sym (decimal_more x w.if-x-ge10.true)) (adds_adds w.number.ensures.adds (subst last w.line-is c.push.ensures))
      | else-x-ge10 w ↦ adds_as (sym (decimal_last x w.if-x-ge10.false)) (subst last w.line-is c.push.ensures)
    ] in
    record { adds = adds; size = adds.size }
