-- What callers use of a ticket that Read accepts: the ranges of its header, its pins as `Sited` has them, and that no net has one pin. Each
-- stage of the reading was passed, and says its part; these parts make the problem good.
use Prim.Native.Nat.{ℕ, zero, suc, ◌≤◌}
use mathlib.Core.Bool.{false}
use mathlib.Core.List.{List}
use mathlib.Core.Logic.{◌≢◌, by_cases, ⊎_elim}
use mathlib.Core.Path.{◌≡◌, refl, sym, ap, ◌∙◌, subst}
use native.Mathlib.Decide.{ℕ_discrete}
use native.Mathlib.Omega.{arith}
use lib.Dec.{leb, eqb}
use lib.ListN.{length}
use borrow.Author.Tests.{eqb-true, eqb-false, eq-eqb, ne_eqb, leb-true}
use Rattle.terms.specs.Kinds.{Side, north, south, west, east, has_side, largest_side_map}
use Rattle.terms.specs.Limits.{largest_net}
use Rattle.grid.specs.Grid.{Grid, places}
use Rattle.grid.specs.Legal.{Pins as GridPins}
use Rattle.ticket.proofs.Seconds.{second}
use Rattle.ticket.proofs.Sited.{found, bare, sited}
use Rattle.counting.specs.Counting.{In}
use Rattle.counting.proofs.Leasts.{least_zero}
use Rattle.ticket.proofs.Laws.{unless_good, header_good, header_fields, header_map, Fields}
use Rattle.ticket_sides.specs.declared.Cursor.{Cursor}
use Rattle.ticket.specs.declared.Reading.{Reading}
use Rattle.problem.specs.declared.Pins.{Pins}
use Rattle.problem.specs.Problem.{pins_in, pin_count, lone_net, net_count, Another, Good, shape_of}
use Rattle.ticket_sides.specs.Format.{byte}
use Rattle.ticket_sides.specs.Stages.{header_of, east_end}
use Rattle.ticket_sides.specs.Steps.{Header}
use Rattle.ticket_sides.proofs.Flags.{le_or_lt}
use Rattle.ticket.specs.Steps.{Sited}
use Rattle.ticket.specs.Read.{left_over, no_lone, accepted_reading, problem_at, or_refused, ticket_of, problem_of}

-- ---- the stages were passed

stage : (c : Cursor) (t : Reading) → (or_refused c t).refusal.number ≡ 0 → (c.refusal.number ≡ 0) × (or_refused c t ≡ t)
stage c t e =
    by_cases (ℕ_discrete c.refusal.number 0)
    (λ z. (z, rw (eq-eqb c.refusal.number 0 z)))
    (λ n. absurd (n (rw (ne_eqb c.refusal.number 0 n) at e)))

-- four stages, one after the other: none refused, and what they leave is t
pub record Stages (a b c d : Cursor) (t : Reading) : Type 0 where
  pub first : a.refusal.number ≡ 0
  pub second : b.refusal.number ≡ 0
  pub third : c.refusal.number ≡ 0
  pub fourth : d.refusal.number ≡ 0
  pub left : or_refused a (or_refused b (or_refused c (or_refused d t))) ≡ t

pub stages : (a b c d : Cursor) (t : Reading) → (or_refused a (or_refused b (or_refused c (or_refused d t)))).refusal.number ≡ 0
    → Stages a b c d t
stages a b c d t e =
    let first = stage a _ e in
    let second = stage b _ (went first.1 e) in
    let third = stage c _ (went second.1 (went first.1 e)) in
    let fourth = stage d t (went third.1 (went second.1 (went first.1 e))) in
    record {
      first = first.0;
      second = second.0;
      third = third.0;
      fourth = fourth.0;
      left = first.1 ∙ second.1 ∙ third.1 ∙ fourth.1;
    }
  where
    went : {x y : Reading} → x ≡ y → x.refusal.number ≡ 0 → y.refusal.number ≡ 0
    went e z = sym (ap (λ (r : Reading). r.refusal.number) e) ∙ z

pub none_left : (s : List ℕ) (i : ℕ) → (left_over s i).refusal.number ≡ 0 → length s ≤ i
none_left s i e = leb-true _ _ (unless_good (leb (length s) i) 8 _ _ (λ q. omega arith) e).0

pub none_alone : (lone : ℕ) → (no_lone lone).refusal.number ≡ 0 → lone ≡ 0
none_alone lone e = eqb-true _ _ (unless_good (eqb lone 0) 9 _ _ (λ q. omega arith) e).0

pub record Read (s : List ℕ) : Type 0 where
  pub head : Header s
  pub header : Fields (byte s 0) (byte s 1) (byte s 2)
  pub map : byte s 3 ≤ largest_side_map (byte s 0)
  pub sides : (east_end s).refusal.number ≡ 0
  pub end : length s ≤ (east_end s).at
  pub lone : lone_net (pins_in (found s)) ≡ 0
  pub whole : ticket_of s ≡ accepted_reading (problem_at s (net_count (pins_in (found s))) (found s))

pub passed : (s : List ℕ) → (ticket_of s).refusal.number ≡ 0 → Read s
unfolding ticket_of
passed s e =
    let g = stages (header_of s) (east_end s) (left_over s (east_end s).at) (no_lone (lone_net (pins_in (found s)))) _ e in
    record {
      head = header_good s g.first;
      header = header_fields s g.first;
      map = header_map s g.first;
      sides = g.second;
      end = none_left s _ g.third;
      lone = none_alone _ g.fourth;
      whole = g.left;
    }

-- ---- the problem

-- pins that a reading found, of any form: with no lone net they make a good problem
module _ (s : List ℕ) (ps : Pins) (fields : Fields (byte s 0) (byte s 1) (byte s 2)) (sited : Sited s ps)
    (bare : (side : Side) → has_side (byte s 0) side ≡ false → (a : ℕ) → pins_in ps side a ≡ 0) (lone : lone_net (pins_in ps) ≡ 0) where
  abbrev pins : GridPins
  pins = pins_in ps

  abbrev grid : Grid
  grid = shape_of (problem_at s 0 ps)

  none : (side : Side) → pins side 0 ≡ 0
  none north = refl
  none south = refl
  none west = refl
  none east = refl

  inside : (side : Side) (a m : ℕ) → m ≢ 0 → pins side a ≡ m → In a (places grid side)
  inside side zero m n e = absurd (n (sym e ∙ none side))
  inside side (suc a) m n e =
      ⊎_elim (λ le. (omega arith, le)) (λ lt. absurd (n (sym e ∙ sited.ends side (suc a) lt))) (le_or_lt (suc a) (places grid side))

  several : (side : Side) (a : ℕ) → pins side a ≢ 0 → Another grid pins side a
  several side a n =
      let i = inside side a _ n refl in
      let u = second pins (pins side a) side a (omega (arith, sited.fits side)) refl
      (eqb-false _ 1 (least_zero (λ v. eqb (pin_count pins v) 1) largest_net (pins side a) lone (omega (arith, sited.numbered side a)))) in
      let on = inside u.side u.place _ n u.net in
      record { side = u.side; place = u.place; on = on; net = u.net; different = u.different }

  pub problem_good : Good (problem_at s (net_count pins) ps)
  problem_good =
      record {
        kind = fields.named;
        columns = fields.length;
        byte2 = fields.second;
        numbered = sited.numbered;
        ends = sited.ends;
        bare = bare;
        several = several;
        nets = refl;
      }

good : (s : List ℕ) (r : Read s) → Good (problem_at s (net_count (pins_in (found s))) (found s))
good s r = problem_good s (found s) r.header (sited s r.header r.map r.sides) (bare s r.header r.map r.sides) r.lone

pub read_good : (s : List ℕ) → (ticket_of s).refusal.number ≡ 0 → Good (problem_of s)
read_good s e = let r = passed s e in subst (λ (t : Reading). Good t.problem) (sym r.whole) (good s r)

-- the same of what `parse` answered
pub reading_good : (s : List ℕ) {t : Reading} → t ≡ ticket_of s → t.refusal.number ≡ 0 → Good t.problem
reading_good s e z = subst (λ (u : Reading). Good u.problem) (sym e) (read_good s (sym (ap (λ (u : Reading). u.refusal.number) e) ∙ z))
