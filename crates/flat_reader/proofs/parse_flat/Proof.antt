-- `flat_reader::parse_flat` meets its contract: each stage is refused or passed as in the definition.
use Prim.Native.Nat.{ℕ}
use mathlib.Core.List.{List}
use mathlib.Core.Path.{◌≡◌, sym, ap, ◌∙◌, subst}
use native.Mathlib.Omega.{arith}
use borrow.Author.Rules.{rules}
use Rattle.ticket_sides.specs.Stages.{nets_of}
use Rattle.ticket_sides.specs.declared.Cursor.{Cursor}
use Rattle.ticket.specs.Read.{left_over, judged}
use Rattle.ticket.specs.Steps.{Sited}
use Rattle.ticket.proofs.Laws.{turned_down, going_on}
use Rattle.flat_reader.specs.Flat.{place_count, flat_header, places_end, flat_ticket_of}
use Rattle.flat_reader.proofs.Passed.{head_good, places_end_lem, flat_sited}
use Rattle.flat_reader.proofs.parse_flat.Statement.{statement}
use Rattle.flat_reader.proofs.parse_flat.Tie as tie

abbrev number : Cursor → ℕ
number x = x.refusal.number

-- the header was passed
header : (c : tie.Else-head-ne0) → (flat_header c.args.flat.now).refusal.number ≡ 0
header c = ap number (sym c.flat_header-head.ensures) ∙ c.if-head-ne0.false

-- where reading stands after the places, refused or not
end : (s : List ℕ) {k : ℕ} {r : Cursor} → k ≡ place_count s → r ≡ nets_of 0 s 3 k → r ≡ places_end s
unfolding places_end
end s k e = e ∙ ap (nets_of 0 s 3) k

returns : tie.Need-returns-then-head-ne0
unfolding flat_ticket_of
returns c = turned_down _ c.flat_header-head.ensures c.if-head-ne0.true c.refused.ensures.0

place-count-requires : tie.Need-place_count-requires
place-count-requires c κs = (head_good _ (header c)).0

net-bytes-requires : tie.Need-net_bytes-end-requires
net-bytes-requires c κs = omega (arith, (head_good _ (header c.before)).0.size)

returns-2 : tie.Need-returns-then-end-ne0
unfolding flat_ticket_of
returns-2 c =
    turned_down _ (end _ c.place_count.ensures c.net_bytes-end.ensures.0) c.if-end-ne0.true c.refused-then-end-ne0.ensures.0
    ∙ sym (going_on _ c.flat_header-head.ensures c.if-head-ne0.false)

returns-3 : tie.Need-returns-then-whole-ne0
unfolding flat_ticket_of
returns-3 c =
    let s = c.args.flat.now in
    let places = end s c.place_count.ensures c.net_bytes-end.ensures.0 in
    turned_down _ (c.left_over-whole.ensures ∙ ap (λ (x : Cursor). left_over s x.at) places) c.if-whole-ne0.true
    c.refused-then-whole-ne0.ensures.0
    ∙ sym (going_on _ c.flat_header-head.ensures c.if-head-ne0.false
    ∙ going_on _ places c.if-end-ne0.false)

-- the header and the places were passed
passed : (c : tie.Else-whole-ne0) →
    let s = c.args.flat.now in
    ((flat_header s).refusal.number ≡ 0) × ((places_end s).refusal.number ≡ 0)
passed c =
    let s = c.args.flat.now in
    let places = end s c.place_count.ensures c.net_bytes-end.ensures.0 in
    (header c.before.before.before.before.before.before.before, ap number (sym places) ∙ c.if-end-ne0.false)

flat-pins-requires : tie.Need-flat_pins-requires
flat-pins-requires c κs =
    let p = passed c in
    let h = (head_good _ p.0).0 in
    (h, (places_end_lem _ h p.1).1)

flat-judged-requires : tie.Need-flat_judged-requires
flat-judged-requires c κs =
    let p = passed c.before in
    let g = head_good _ p.0 in
    (g.0, subst (Sited _) (sym c.flat_pins.ensures) (flat_sited _ g.1 g.0 p.1))

returns-4 : tie.Need-returns
unfolding flat_ticket_of
returns-4 c =
    let s = c.args.flat.now in
    let places = end s c.place_count.ensures c.net_bytes-end.ensures.0 in
    c.flat_judged.ensures ∙ ap (judged s) c.flat_pins.ensures
    ∙ sym (going_on _ c.flat_header-head.ensures c.if-head-ne0.false
    ∙ going_on _ places c.if-end-ne0.false
    ∙ going_on _ (c.left_over-whole.ensures ∙ ap (λ (x : Cursor). left_over s x.at) places)
    c.if-whole-ne0.false)

pub parse_flat_spec : {M : Type 1} → statement M
parse_flat_spec =
    tie.close (tie.spec (λ c κs. search rules) (λ c κs. search rules) returns place-count-requires net-bytes-requires (λ c κs. search rules)
    returns-2 (λ c κs. search rules) (λ c κs. search rules) returns-3 flat-pins-requires flat-judged-requires returns-4)
