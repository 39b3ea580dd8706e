-- Lay's answer to a two-layer channel, computed by a shorter test for a solid one, which is equal to the definition.
use Prim.Native.Nat.{ℕ, ◌*◌}
use mathlib.Core.Path.{◌≡◌, ap, ◌∙◌, subst}
use mathlib.Core.Bool.{Bool, false, not}
use mathlib.Core.List.{List}
use lib.Dec.{leb}
use borrow.Author.Tests.{eq-eqb}
use Rattle.terms.specs.Kinds.{north, south, two_layer}
use Rattle.terms.specs.Refusals.{refusal, unless}
use Rattle.problem.specs.declared.Problem.{Problem}
use Rattle.problem.specs.Problem.{pins_in, Good}
use Rattle.ticket.specs.declared.Reading.{Reading}
use Rattle.ticket.specs.Read.{ticket_of}
use Rattle.ticket.proofs.Good.{read_good}
use Rattle.two_layer_law.specs.Moves.{solid_test}
use Rattle.router.specs.declared.LayAnswer.{LayAnswer}
use Rattle.router.specs.Lay.{needed, laid_answer, refused, lay_for, lay_of}
use Rattle.router.proofs.Laws.{two_layer_solid}
use Rattle.router.proofs.TwoLayer.{solid_is}
use Rattle.table.specs.Decide.{tallied}
use Rattle.table.proofs.Tallied.{read_tallied}

abbrev answer : Bool → Problem → ℕ → LayAnswer
answer b q size =
    unless (not b) (refused (refusal 17 0)) (unless (leb (needed q) size) (refused (refusal 10 (needed q))) (laid_answer q))

abbrev pub by_test : Problem → ℕ → LayAnswer
by_test q size = answer (solid_test (pins_in q.pins north) (pins_in q.pins south) q.n.0) q size

module _ (s : List ℕ) (z : (tallied s).refusal.number ≡ 0) (two : (tallied s).problem.kind ≡ two_layer) where
  good : Good (tallied s).problem
  good = let e = read_tallied s in
      subst (λ (t : Reading). Good t.problem) e (read_good s (ap (λ (t : Reading). t.refusal.number) e ∙ z))

  pub by_test_lem : (size : ℕ) → lay_of s size ≡ by_test (tallied s).problem size
  unfolding lay_of
  by_test_lem size =
      let q = (tallied s).problem in
      ap (λ (t : Reading). lay_for t size) (read_tallied s)
      ∙ rw (eq-eqb (tallied s).refusal.number 0 z) (ap (λ (b : Bool). answer b q size) (two_layer_solid q two ∙ solid_is q good two))

  -- the fields that a laid channel is told by
  pub laid_by : (n w : ℕ) → let a = by_test (tallied s).problem (n * w * 2) in
      (lay_of s 0 ≡ by_test (tallied s).problem 0)
      × ((lay_of s (n * w * 2)).refusal.number ≡ a.refusal.number)
      × ((lay_of s (n * w * 2)).w.0 ≡ a.w.0)
      × ((lay_of s (n * w * 2)).k.0 ≡ a.k.0)
      × ((lay_of s (n * w * 2)).first ≡ a.first)
  laid_by n w =
      let e = by_test_lem (n * w * 2) in (
        by_test_lem 0,
        ap (λ (a : LayAnswer). a.refusal.number) e,
        ap (λ (a : LayAnswer). a.w.0) e,
        ap (λ (a : LayAnswer). a.k.0) e,
        ap (λ (a : LayAnswer). a.first) e,
      )
