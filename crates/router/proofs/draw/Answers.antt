-- `router::draw`: each kind is laid by its own function, and a good problem of that kind is one that the function takes.
use Rattle.std.proofs.Common.{sym}
use mathlib.Core.Path.{subst}
use Rattle.terms.specs.Kinds.{west, east}
use Rattle.terms.proofs.Laws.{Thin, thin_row, thin_channel}
use Rattle.router.proofs.Laws.{given_row, given_channel, given_box, box_wide, row_laid, channel_laid, box_laid}
use Rattle.router.proofs.Tables.{thin_tables, wide_table}
use Rattle.router.proofs.draw.Goals as goal

pub lay_row-requires : goal.lay_row-requires
lay_row-requires c =
    let q = c.args.q.now in
    let (good, other, w, room) = c.requires.good in
    let e = c.if-kind-eq-ROW.true in
    let g = given_row q good c.args.w.0 w c.args.wiring.now room e in
    rw c.from-h.ensures (g.0, g.1, thin_tables q good c.requires.spans (subst Thin (sym e) thin_row))

pub returns-then-kind-eq-ROW : goal.returns-then-kind-eq-ROW
returns-then-kind-eq-ROW c =
    let (good, other, w, room) = c.requires.good in
    row_laid c.args.q.now good c.args.w.0 w c.if-kind-eq-ROW.true (rw c.from-h.ensures at c.lay_row.ensures)

pub lay_channel-requires : goal.lay_channel-requires
lay_channel-requires c =
    let q = c.args.q.now in
    let (good, other, w, room) = c.requires.good in
    let e = c.if-kind-eq-CHANNEL.true in
    let g = given_channel q good c.args.w.0 w c.args.wiring.now room e in
    rw c.from-h.ensures (g, thin_tables q good c.requires.spans (subst Thin (sym e) thin_channel))

pub returns-then-kind-eq-CHANNEL : goal.returns-then-kind-eq-CHANNEL
returns-then-kind-eq-CHANNEL c =
    let (good, other, w, room) = c.requires.good in
    channel_laid c.args.q.now good c.args.w.0 w c.if-kind-eq-CHANNEL.true (rw c.from-h.ensures at c.lay_channel.ensures)

pub lay_box-requires : goal.lay_box-requires
lay_box-requires c =
    let q = c.args.q.now in
    let (good, other, w, room) = c.requires.good in
    let e = c.if-kind-eq-BOX.true in
    let wide = box_wide q good c.args.w.0 w c.args.wiring.now room e in (
      given_box q good c.args.w.0 w c.args.wiring.now room e,
      c.requires.spans.columns.one,
      c.requires.spans.columns.two,
      wide_table q good c.requires.spans west wide c.requires.spans.tracks.one,
      wide_table q good c.requires.spans east wide c.requires.spans.tracks.two,
    )

pub returns-then-kind-eq-BOX : goal.returns-then-kind-eq-BOX
returns-then-kind-eq-BOX c =
    let (good, other, w, room) = c.requires.good in
    box_laid c.args.q.now good c.args.w.0 w c.if-kind-eq-BOX.true c.lay_box.ensures
