-- `ticket_sides::side` meets its contract: the three refusals of a side in the definition's order.
use Prim.Native.Nat.{◌+◌}
use mathlib.Core.Path.{sym, ap, ◌∙◌}
use native.Mathlib.Omega.{arith}
use lib.ListN.{length}
use borrow.Author.Tests.{le-leb, lt-leb}
use borrow.Author.Rules.{rules}
use Rattle.ticket_sides.proofs.Bits.{count_good, count_bad}
use Rattle.ticket_sides.proofs.Laws.{at_refused}
use Rattle.ticket_sides.specs.Stages.{side_of, nets_of}
use Rattle.ticket_sides.specs.Format.{map_bytes}
use Rattle.ticket_sides.proofs.side.Statement.{statement}
use Rattle.ticket_sides.proofs.side.Tie as tie

returns : tie.Need-returns-then-ticket-at
unfolding side_of
returns c =
    let a = c.before.before.before.args in
    let short = lt-leb (a.at + map_bytes a.places) (length a.ticket.now) (omega arith) in
    (simp short c.stop.ensures, omega (arith, at_refused c.stop.ensures))

returns-2 : tie.Need-returns-then-count-eq0
unfolding side_of
returns-2 c =
    let a = c.before.before.before.before.before.args in
    let s = a.ticket.now in
    let fits = le-leb (a.at + map_bytes a.places) (length s) (omega arith) in
    let bad = count_bad s a.at a.places (sym c.before.before.map_count-count.ensures ∙ c.before.if-count-eq0.true) in
    (simp (fits, bad) c.stop-then-count-eq0.ensures, omega (arith, at_refused c.stop-then-count-eq0.ensures))

net-bytes-requires : tie.Need-net_bytes-requires
net-bytes-requires c κs =
    let a = c.before.before.before.before.args in
    let s = a.ticket.now in
    let k = c.before.map_count-count.ensures in
    let good = count_good s a.at a.places (λ q. c.if-count-eq0.false (k ∙ q)) in
    omega arith

returns-3 : tie.Need-returns
unfolding side_of
returns-3 c =
    let a = c.before.before.before.before.before.args in
    let s = a.ticket.now in
    let fits = le-leb (a.at + map_bytes a.places) (length s) (omega arith) in
    let k = c.before.before.map_count-count.ensures in
    let good = count_good s a.at a.places (λ q. c.before.if-count-eq0.false (k ∙ q)) in
    let nets = c.net_bytes.ensures in
    (simp (fits, good.0) (nets.0 ∙ ap (nets_of 1 s (a.at + map_bytes a.places)) (k ∙ good.1)), nets.1)

pub side_spec : {M : Type 1} → statement M
side_spec =
    tie.close (tie.spec (λ c. search rules) (λ c. search rules) (λ c κs. search rules) returns (λ c κs. search rules)
    (λ c κs. search rules) returns-2 (λ c. search rules) net-bytes-requires returns-3)
