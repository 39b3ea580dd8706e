-- One more column is led as the rule has it.
use Rattle.std.proofs.Common.{arith, ◌≡◌, ◌+◌, get_or, nat_eq, refl}
use Rattle.std.specs.Prelude.{cond, leb, ◌&&◌}
use Rattle.two_layer_gather.proofs.Tables.{row_none, row_more, lead_zero, lead_more}
use Rattle.two_layer_gather.proofs.leads.Goals as goal
use Rattle.two_layer_gather.proofs.leads.Goals.{then-leads, else-leads}

pub loop-i-init : goal.loop-i-init
loop-i-init c = λ b f o. row_none _ (lead_zero c.args.side.now b c.args.n)

pub loop-i-preserved : goal.loop-i-preserved
loop-i-preserved c =
    let l = c.loop-i in
    let args = c.args in
    let net = get_or args.side.now l.i 0 in
    let led : c.if-leads.lead ≡ cond (nat_eq c.from.result (l.i + 1) && leb 1 (get_or args.other.now c.from-m.result 0)) net 0 =
    elim c.if-leads.branch [ then-leads w ↦ rw w.if-leads.true w.lead-is | else-leads w ↦ rw w.if-leads.false w.lead-is ] in
    λ b f o. row_more l.i _ l.lead _ (omega arith)
    (lead_more args.side.now args.first.now args.other.now b args.n l.i c.from-m.result c.from.result _ _ (omega arith) (omega arith)
    c.from.ensures refl led f o)
    (l.invariant b f o)

pub returns : goal.returns
returns c =
    let e : c.loop-i.i ≡ c.args.n = omega arith in
    λ b f o. rw e at (c.loop-i.invariant b f o)
