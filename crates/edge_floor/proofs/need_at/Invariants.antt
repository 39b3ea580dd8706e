-- The loop of `edge_floor::need_at`: the pins beside the column, and the other nets that it must pass, of the nets passed.
use Rattle.edge_floor.proofs.Needs.{NeedTo}
use Rattle.edge_floor.proofs.need_at.Given as goal

abbrev pub invariant-loop-m : goal.invariant-loop-m
invariant-loop-m l = NeedTo l.x.first.now l.x.last.now l.x.near.now l.x.far.now l.beside l.past l.c l.m l.pins l.others
