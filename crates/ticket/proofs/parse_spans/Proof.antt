-- `ticket::parse_spans` meets its contract: each stage is refused or passed as in the definition.
use Prim.Native.Nat.{ℕ}
use mathlib.Core.Path.{◌≡◌, sym, ap, ◌∙◌, subst}
use mathlib.Core.Logic.{◌≢◌}
use borrow.Author.Rules.{rules}
use Rattle.ticket.proofs.Laws.{header_good, header_fields, header_map, turned_down, going_on}
use Rattle.ticket.proofs.Extents.{sides_extents}
use Rattle.ticket.proofs.Sited.{sited}
use Rattle.terms.specs.declared.Refusal.{Refusal}
use Rattle.nets.specs.Tables.{SpansOf}
use Rattle.ticket.specs.declared.Parsed.{Parsed}
use Rattle.ticket.specs.Steps.{Sited}
use Rattle.ticket.specs.Read.{pins_at, left_over, judged, ticket_of}
use Rattle.ticket_sides.specs.Stages.{header_of}
use Rattle.ticket_sides.specs.declared.Ends.{Ends}
use Rattle.ticket_sides.specs.declared.Cursor.{Cursor}
use Rattle.ticket.proofs.parse_spans.Statement.{statement}
use Rattle.ticket.proofs.parse_spans.Tie as tie

abbrev number : Cursor → ℕ
number x = x.refusal.number

abbrev last : Ends → Cursor
last e = e.east

-- a refused reading has no spans to tell
no_spans : {r : Parsed} {x : Refusal} → r.refusal ≡ x → x.number ≢ 0 → r.refusal.number ≡ 0 → SpansOf r.problem r.spans
no_spans e n z = absurd (n (ap (λ (x : Refusal). x.number) (sym e) ∙ z))

returns : tie.Need-returns-then-head-ne0
unfolding ticket_of
returns c =
    let no = c.if-head-ne0.true in
    (turned_down _ c.header-head.ensures no c.refused.ensures.0, no_spans c.refused.ensures.1 no)

sides-requires : tie.Need-sides-ends-requires
sides-requires c κs = header_good c.args.ticket.now
    (ap number (sym c.header-head.ensures) ∙ c.if-head-ne0.false)

returns-2 : tie.Need-returns-then-end-ne0
unfolding ticket_of
returns-2 c =
    let no = c.if-end-ne0.true in (
      turned_down _ (ap last c.sides-ends.ensures) no c.refused-then-end-ne0.ensures.0
          ∙ sym (going_on _ c.header-head.ensures c.if-head-ne0.false),
      no_spans c.refused-then-end-ne0.ensures.1 no,
    )

returns-3 : tie.Need-returns-then-whole-ne0
unfolding ticket_of
returns-3 c =
    let s = c.args.ticket.now in
    let end = ap last c.sides-ends.ensures in
    let no = c.if-whole-ne0.true in (
      turned_down _ (c.left_over-whole.ensures ∙ ap (λ (x : Cursor). left_over s x.at) end) no
          c.refused-then-whole-ne0.ensures.0
          ∙ sym (going_on _ c.header-head.ensures c.if-head-ne0.false ∙ going_on _ end c.if-end-ne0.false),
      no_spans c.refused-then-whole-ne0.ensures.1 no,
    )

-- the header is good, and each side was read
read : (c : tie.Else-whole-ne0) →
    let s = c.args.ticket.now in
    ((header_of s).refusal.number ≡ 0) × (c.sides-ends.result.east.refusal.number ≡ 0)
read c =
    (ap number (sym c.header-head.ensures) ∙ c.if-head-ne0.false, c.if-end-ne0.false)

pins-at-requires : tie.Need-pins_at-requires
pins-at-requires c κs =
    let s = c.args.ticket.now in
    let h = header_good s (read c).0 in
    (h, sides_extents s h c.sides-ends.ensures (read c).1)

judged-requires : tie.Need-judged-requires
judged-requires c κs =
    let s = c.args.ticket.now in
    let good = (read c.before).0 in
    let whole = ap (λ (e : Ends). number (last e)) (sym c.sides-ends.ensures) ∙ (read c.before).1 in
    let found = c.pins_at.ensures ∙ ap (pins_at s) c.sides-ends.ensures in
    (header_good s good, subst (Sited s) (sym found) (sited s (header_fields s good) (header_map s good) whole))

returns-4 : tie.Need-returns
unfolding ticket_of
returns-4 c =
    let s = c.args.ticket.now in
    let end = ap last c.sides-ends.ensures in
    let found = c.pins_at.ensures ∙ ap (pins_at s) c.sides-ends.ensures in (
      c.judged.ensures.0 ∙ ap (judged s) found
          ∙ sym (going_on _ c.header-head.ensures c.if-head-ne0.false ∙ going_on _ end c.if-end-ne0.false
          ∙ going_on _ (c.left_over-whole.ensures ∙ ap (λ (x : Cursor). left_over s x.at) end) c.if-whole-ne0.false),
      c.judged.ensures.1,
    )

pub parse_spans_spec : {M : Type 1} → statement M
parse_spans_spec =
    tie.close (tie.spec (λ c κs. search rules) (λ c κs. search rules) returns sides-requires (λ c κs. search rules) returns-2
    (λ c κs. search rules) (λ c κs. search rules) returns-3 pins-at-requires judged-requires returns-4)
