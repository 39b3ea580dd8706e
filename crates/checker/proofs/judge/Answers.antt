-- The first unknown number is foreign, the lowest net left out is broken, and where there is neither the wiring is legal.
use Rattle.std.proofs.Common.{refl, ap, ◌∙◌}
use Rattle.terms.specs.Refusals.{refusal}
use Rattle.checker.proofs.Answers.{all_firsts, judged_foreign, judged_legal, judged_broken}
use Rattle.checker.proofs.judge.Goals as goal

pub returns-in-Some : goal.returns-in-Some
returns-in-Some c =
    record { judged = λ p l. judged_foreign _ l c.args.x.size c.open_nets-known.ensures.opened c.args.x.bytes c.refuse.ensures c.in-Some.ensures.first c.in-Some.ensures.found }

pub torn-requires : goal.torn-requires
torn-requires c = (c.requires, all_firsts _ _ _ c.open_nets-known.ensures.size.0 c.open_nets-known.ensures.size.1 c.open_nets-known.ensures.opened)

pub returns-in-Some-torn : goal.returns-in-Some-torn
returns-in-Some-torn c =
    record {
      judged = λ p l. judged_broken _ l c.args.x.size c.open_nets-known.ensures.opened c.args.x.bytes c.in-None.ensures.first refl c.in-Some-torn.ensures.torn
          (c.refuse-in-Some-torn.ensures ∙ ap (refusal 15) c.from.ensures) c.in-Some-torn.ensures.net;
    }

pub returns-in-None-torn : goal.returns-in-None-torn
returns-in-None-torn c =
    record {
      judged = λ p l. judged_legal _ l c.args.x.size c.open_nets-known.ensures.opened c.args.x.bytes c.in-None.ensures.first refl c.in-None-torn.ensures.torn c.refuse-in-None-torn.ensures refl;
    }
