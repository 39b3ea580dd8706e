-- A ticket says the same where the pins of each net are counted by its bytes.
use Prim.Native.Nat.{ℕ}
use mathlib.Core.Path.{◌≡◌, refl, ap}
use mathlib.Core.Logic.{by_cases}
use mathlib.Core.List.{List}
use native.Mathlib.Omega.{arith}
use native.Mathlib.Decide.{ℕ_discrete}
use lib.Dec.{eqb, leb}
use borrow.Author.Tests.{ne_eqb}
use Rattle.counting.proofs.Counts.{count_same}
use Rattle.terms.specs.Limits.{largest_net}
use Rattle.grid.specs.Legal.{nets}
use Rattle.counting.specs.Counting.{least}
use Rattle.problem.specs.Problem.{pins_in, net_count, lone_net}
use Rattle.ticket_sides.specs.Steps.{Header}
use Rattle.ticket.specs.declared.Reading.{Reading}
use Rattle.ticket.specs.Steps.{Extents}
use Rattle.ticket_sides.specs.Stages.{header_of, east_end, ends_of}
use Rattle.ticket.specs.Read.{pins_at, ticket_of, answer_of, read_of}
use Rattle.ticket.proofs.Laws.{header_good}
use Rattle.ticket.proofs.Extents.{sides_extents}
use Rattle.table.proofs.Bytes.{pin_count_lem}
use Rattle.counting.proofs.Leasts.{least_same}
use Rattle.survey.specs.Survey.{surveyed, survey_of}
use Rattle.router.specs.Lay.{lay_for, lay_of}
use Rattle.table.specs.Decide.{times_in, tallied}

module _ (s : List ℕ) (h : Header s) (w : Extents s (ends_of s)) where
  lone_by_bytes : lone_net (pins_in (pins_at s (ends_of s))) ≡ least (λ v. eqb (times_in s v) 1) largest_net
  lone_by_bytes = least_same _ _ largest_net (λ v i. ap (λ (k : ℕ). eqb k 1) (pin_count_lem s (ends_of s) v (λ z. omega arith) h w))

  nets_by_bytes : net_count (pins_in (pins_at s (ends_of s))) ≡ nets (λ v. leb 1 (times_in s v))
  nets_by_bytes = count_same _ _ largest_net (λ v i. ap (leb 1) (pin_count_lem s (ends_of s) v (λ z. omega arith) h w))

pub read_tallied : (s : List ℕ) → ticket_of s ≡ tallied s
unfolding ticket_of tallied
read_tallied s =
    by_cases (ℕ_discrete (header_of s).refusal.number 0)
    (λ h. by_cases (ℕ_discrete (east_end s).refusal.number 0)
    (λ e. let g = header_good s h in let w = sides_extents s g refl e in rw (lone_by_bytes s g w, nets_by_bytes s g w))
    (λ n. rw (ne_eqb (east_end s).refusal.number 0 n)))
    (λ n. rw (ne_eqb (header_of s).refusal.number 0 n))

-- Read's answer and Survey's, of what the bytes tally to
pub answers : (s : List ℕ) → (read_of s ≡ answer_of (tallied s)) × (survey_of s ≡ surveyed (tallied s))
unfolding survey_of
answers s = (ap answer_of (read_tallied s), ap surveyed (read_tallied s))

-- and Lay's
pub lays : (s : List ℕ) (size : ℕ) → lay_of s size ≡ lay_for (tallied s) size
unfolding lay_of
lays s size = ap (λ (t : Reading). lay_for t size) (read_tallied s)
