-- `hardest::side_of`: before the first place all are empty.
use Rattle.std.proofs.Common.{refl, arith}
use Rattle.counting.proofs.Lists.{zeros_at}
use Rattle.hardest.proofs.side_of.Goals as goal

pub loop-i-init : goal.loop-i-init
loop-i-init g c = record { size = refl; nets = λ k h. absurd (omega arith); empty = λ k h. zeros_at 90 k }
