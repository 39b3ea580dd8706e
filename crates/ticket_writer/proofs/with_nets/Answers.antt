-- `ticket_writer::with_nets`: a place that holds a pin adds its net.
use Rattle.std.proofs.Common.{ℕ, ◌≡◌, ◌<◌, ◌++◌, rules, get_or, ap, sym, ◌∙◌, arith, length, length-take, take}
use Rattle.std.proofs.lemmas.List.{get_or-take}
use Rattle.std.proofs.Math.ListN.{length-set}
use Rattle.grid.specs.Legal.{entry}
use Rattle.output.proofs.Laws.{byte_added, adds_by}
use Rattle.output.specs.declared.Output.{Output}
use Rattle.ticket_bytes.specs.Bytes.{nets_to}
use Rattle.ticket_writer.proofs.Laws.{nets_start, nets_more, nets_same}
use Rattle.ticket_writer.proofs.with_nets.Goals as goal
use Rattle.ticket_writer.proofs.with_nets.Goals.{then-net-ne0, else-net-ne0}

pub loop-net-init : goal.loop-net-init
loop-net-init c =
    let a = c.args in
    record { room = search rules; most = omega arith; bytes = sym (nets_start (take a.out.now.used a.out.now.bytes) a.nets.now) }

pub loop-net-preserved : goal.loop-net-preserved
loop-net-preserved c =
    let a = c.args in
    let l = c.loop-net in
    let i = l.net-index in
    let within : i < a.places = omega (arith, length-take a.places a.nets.now) in
    let here = get_or-take a.places a.nets.now i 0 within in
    let more = nets_more (take a.out.now.used a.out.now.bytes) a.nets.now i in
    let same = nets_same (take a.out.now.used a.out.now.bytes) a.nets.now i in
    let stored = λ (o : Output) (e : c.if-net-ne0.out ≡ o). ap (λ (o : Output). o.bytes) e in
    elim c.if-net-ne0.branch [
      | then-net-ne0 w ↦
          let added = byte_added l.out.bytes l.used (get_or a.nets.now i 0) (omega (arith, l.invariant.room)) in
          record {
            room = simp length-set at (ap length (stored _ w.out-is)) ∙ l.invariant.room;
            most = omega arith;
            bytes = cc (w.used-is, stored _ w.out-is, here, added, more (omega (arith, here)));
          }
      | else-net-ne0 w ↦
          record {
            room = ap length (stored _ w.out-is) ∙ l.invariant.room;
            most = omega arith;
            bytes = cc (w.used-is, stored _ w.out-is, same (omega (arith, here)));
          }
    ]

pub returns-clause-adds : goal.returns-clause-adds
returns-clause-adds c =
    let a = c.args in
    let l = c.loop-net in
    let all : l.net-index ≡ a.places = omega (arith, length-take a.places a.nets.now) in
    let bytes : take l.used l.out.bytes ≡ take a.out.now.used a.out.now.bytes ++ nets_to (entry a.nets.now) a.places =
    l.invariant.bytes ∙ ap (λ (k : ℕ). take a.out.now.used a.out.now.bytes ++ nets_to (entry a.nets.now) k) all in
    adds_by a.out.now _ (search rules) (omega (arith, l.invariant.room)) bytes
