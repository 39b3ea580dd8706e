-- `nets::Spans::lone_net`: no net passed has one pin, so the first one met is the least.
use Rattle.std.proofs.Common.{◌∙◌, sym, arith}
use Rattle.nets.proofs.Passing.{least_met}
use Rattle.nets.proofs.Spans.lone_net.Goals as goal

pub returns-then-is_lone : goal.returns-then-is_lone
returns-then-is_lone c =
    least_met _ c.loop-m.m _ (omega arith) (omega arith) c.loop-m.invariant (sym c.is_lone.ensures ∙ c.if-is_lone.true)
