-- One more column is tested.
use Rattle.std.proofs.Common.{ap, sym, refl}
use Rattle.std.specs.Prelude.{not, ◌&&◌, eqb, leb}
use Rattle.counting.proofs.Tests.{some_none_yet, some_more}
use Rattle.two_layer_cuts.specs.Rows.{item}
use Rattle.two_layer_plan.proofs.Promise.{every_more}
use Rattle.two_layer_plan.proofs.is_solid.Goals as goal

pub loop-i-init : goal.loop-i-init
loop-i-init c = (ap not (sym (some_none_yet _)), sym (some_none_yet _))

pub loop-i-preserved : goal.loop-i-preserved
loop-i-preserved c =
    let l = c.loop-i in
    let cut = item c.args.cut.now in
    let wanted = item c.args.goal.now in (
      every_more (λ a. leb 1 (cut a) && leb 1 (wanted a)) l.i l.full l.invariant.0,
      some_more (λ a. not (eqb (cut a) (wanted a))) l.i l.crooked _ _ l.invariant.1 refl refl,
    )
