-- `ticket_sides::map_count` meets its contract: without a spare bit the ones of the map's bytes are its standing places.
use Prim.Native.Nat.{◌+◌, ◌-◌, ◌/◌}
use mathlib.Core.Path.{sym, ◌∙◌}
use native.Mathlib.Omega.{arith}
use borrow.Author.Tests.{leb-true, leb-false}
use borrow.Author.Rules.{rules}
use Rattle.ticket_sides.proofs.Bits.{count_spare, count_whole}
use Rattle.ticket_sides.proofs.map_count.Statement.{statement}
use Rattle.ticket_sides.proofs.map_count.Tie as tie

returns : tie.Need-returns-then-has_spare
returns c =
    let a = c.before.before.before.before.args in
    let last = (c.before.before.shared_slice_known-2-1.given (a.at + ((a.places + 7) / 8 - 1))).fits in
    sym (count_spare a.ticket.now a.at a.places (omega arith) last (leb-true _ _ (sym c.before.has_spare.ensures ∙ c.if-has_spare.true)))

returns-2 : tie.Need-returns
returns-2 c =
    let a = c.before.before.before.before.before.args in
    let last = (c.before.before.before.shared_slice_known-2-1.given (a.at + ((a.places + 7) / 8 - 1))).fits in
    c.ones_in.ensures ∙ sym (count_whole a.ticket.now a.at a.places (omega arith) last (leb-false _ _ (sym
    c.before.before.has_spare.ensures ∙ c.before.if-has_spare.false)))

pub map_count_spec : {M : Type 1} → statement M
map_count_spec =
    tie.close (tie.spec (λ c. search rules) (λ c. search rules) (λ c. search rules) (λ c. search rules) (λ c. search rules)
    (λ c. search rules) (λ c κs. search rules) returns (λ c κs. search rules) returns-2)
