-- The three tests together are the definition's one.
use Rattle.std.proofs.Common.{rules, arith}
use Rattle.records.proofs.Cutting.{cut_none, cut_whole}
use Rattle.records.proofs.record_at.Goals as goal

pub returns-then-s-at-lt2 : goal.returns-then-s-at-lt2
returns-then-s-at-lt2 c = cut_none _ _ _ (search rules) (omega arith)

pub returns-then-s-from : goal.returns-then-s-from
returns-then-s-from c = cut_none _ _ _ (search rules) (omega arith)

pub returns-then-s-end : goal.returns-then-s-end
returns-then-s-end c = cut_none _ _ _ (search rules) (omega arith)

pub returns : goal.returns
returns c = cut_whole _ _ _ _ (omega arith) (omega arith)
