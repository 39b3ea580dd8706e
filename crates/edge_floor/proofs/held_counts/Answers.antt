-- `edge_floor::held_counts` meets its contract: the places passed are counted, one after the other.
use Rattle.std.proofs.Common.{arith, rules}
use Rattle.figures.proofs.Entries.{one_most}
use Rattle.edge_floor.proofs.Held.{held_none, held_le, entered_le, held_more}
use Rattle.edge_floor.proofs.held_counts.Goals as goal

pub loop-i-init : goal.loop-i-init
loop-i-init c = held_none c.args.a.now c.args.b.now

pub overflow_add-held : goal.overflow_add-held
overflow_add-held c =
    let l = c.loop-i in
    let m = c.net_at-m.ensures in
    let k = c.net_at-k.ensures in
    omega (arith, c.requires.0, held_le c.args.a.now c.args.b.now l.held l.i _ _ m.0 k.0 m.1 k.1 l.invariant)

pub overflow_add-held-in-loop-i : goal.overflow_add-held-in-loop-i
overflow_add-held-in-loop-i c =
    let l = c.loop-i in
    let m = c.net_at-m.ensures in
    let k = c.net_at-k.ensures in
    omega (
      arith,
      c.requires.0,
      entered_le c.args.a.now c.args.b.now l.held l.i _ _ m.0 k.0 m.1 k.1 l.invariant,
      one_most _ c.from.ensures,
    )

pub loop-i-preserved : goal.loop-i-preserved
loop-i-preserved c =
    let l = c.loop-i in
    let m = c.net_at-m.ensures in
    let k = c.net_at-k.ensures in
    held_more c.args.a.now c.args.b.now l.held l.i _ _ m.0 k.0 m.1 k.1 l.invariant (search rules)
