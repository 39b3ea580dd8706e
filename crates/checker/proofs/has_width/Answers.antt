-- Its tests are those of the definition.
use Rattle.std.proofs.Common.{sym, ◌∙◌}
use mathlib.Core.Path.{ap₂}
use lib.Dec.{eqb}
use Rattle.terms.specs.Limits.{within}
use Rattle.checker.proofs.Refusals.{own_width, any_width, no_width}
use Rattle.checker.proofs.has_width.Goals as goal

pub returns-then-q-eq-BOX : goal.returns-then-q-eq-BOX
returns-then-q-eq-BOX c =
    ap₂ eqb c.track_count-tracks.ensures c.from.ensures
    ∙ sym (own_width c.args.q c.args.w.0 _ (sym (c.is_within.ensures ∙ ap₂ within c.track_count-tracks.ensures c.widest.ensures)) c.if-is_within.true c.if-q-eq-BOX.true)

pub returns-then-is_within : goal.returns-then-is_within
returns-then-is_within c =
    sym (any_width c.args.q c.args.w.0 _ (sym (c.is_within.ensures ∙ ap₂ within c.track_count-tracks.ensures c.widest.ensures)) c.if-is_within.true c.if-q-eq-BOX.false)

pub returns : goal.returns
returns c =
    sym (no_width c.args.q c.args.w.0 _ (sym (c.is_within.ensures ∙ ap₂ within c.track_count-tracks.ensures c.widest.ensures)) c.if-is_within.false)
