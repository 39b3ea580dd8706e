-- `ticket_writer::with_map`: a byte of the map more.
use Rattle.std.proofs.Common.{ℕ, ◌≡◌, ◌+◌, arith, sym, ap, ◌∙◌, zero-add}
use Rattle.grid.specs.Legal.{entry}
use Rattle.output.proofs.Laws.{adds_none, adds_adds, adds_as}
use Rattle.ticket_bytes.specs.Bytes.{map_byte}
use Rattle.ticket.proofs.Filled.{values_none, values_more}
use Rattle.ticket_writer.proofs.with_map.Goals as goal

pub loop-j-init : goal.loop-j-init
loop-j-init c = record { adds = adds_as (sym (values_none _ _)) (adds_none c.args.out.now); size = omega arith }

pub loop-j-preserved : goal.loop-j-preserved
loop-j-preserved c =
    let l = c.loop-j in
    let here : c.map_byte.result ≡ map_byte (entry c.args.nets.now) c.args.places (0 + l.j) =
    c.map_byte.ensures ∙ ap (λ (k : ℕ). map_byte (entry c.args.nets.now) c.args.places k) (sym (zero-add l.j)) in
    record {
      adds = adds_as (sym (values_more _ 0 l.j here)) (adds_adds l.invariant.adds c.push.ensures);
      size = omega (arith, c.push.ensures.size);
    }
