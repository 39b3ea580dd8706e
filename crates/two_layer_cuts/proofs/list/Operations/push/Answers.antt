-- There is room behind the operations that are counted.
use Rattle.std.proofs.Common.{arith, rules, refl, ◌≡◌, length, length-set}
use Rattle.two_layer_cuts.proofs.Counted.{counted, one_behind}
use Rattle.two_layer_cuts.proofs.list.Operations.push.Goals as goal

pub bounds-self-self : goal.bounds-self-self
bounds-self-self c = omega (arith, c.requires, counted c.args.self.now)

pub invariant_of-self : goal.invariant_of-self
invariant_of-self c =
    let o = c.args.self.now in
    let long : length o.items ≡ 180 = search rules in
    record { fits = omega (arith, c.requires, counted o, length-set o.items o.count c.args.operation) }

pub returns : goal.returns
returns c =
    let o = c.args.self.now in
    let long : length o.items ≡ 180 = search rules in
    one_behind o _ c.args.operation (omega (arith, c.requires, counted o)) refl refl
