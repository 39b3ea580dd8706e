-- What the tables and rows of both sides tell is what the definitions ask for.
use Prim.Native.Nat.{ℕ, suc, ◌+◌, ◌≤◌}
use native.Mathlib.Numerals.{add-one}
use Rattle.std.specs.Prelude.{Option, None, Some}
use Rattle.std.specs.Option.{is_none, unwrap_or}
use Rattle.counting.specs.Counting.{some, every, least}
use mathlib.Core.Path.{◌≡◌, refl, sym, ap, ◌∙◌}
use mathlib.Core.List.{List}
use mathlib.Core.Bool.{Bool, true, false, not, ◌&&◌, ◌||◌}
use native.Mathlib.Omega.{arith}
use native.Mathlib.Decide.{dec_le}
use lib.Dec.{eqb, leb}
use lib.ListN.{get_or, get_or-eq_default}
use Rattle.terms.specs.Limits.{byte_values}
use Rattle.grid.specs.Legal.{entry}
use Rattle.two_layer_law.specs.Moves.{first_on, leads, solid_test, start_of}
use Rattle.two_layer_cuts.specs.declared.list.Operations.{Operations}
use Rattle.two_layer_cuts.specs.Rows.{item, Row}
use Rattle.two_layer_gather.specs.Tables.{Table}
use Rattle.two_layer_plan.specs.States.{state_of, Agree, leads_solid, LeastFound}
use Rattle.two_layer_plan.specs.declared.Plan.{Plan}
use Rattle.two_layer_plan.specs.Plan.{MovesFound, Planned}
use Rattle.counting.proofs.Leasts.{least_le}
use Rattle.counting.proofs.Tests.{some_same}
use Rattle.two_layer_gather.proofs.Tables.{lead_zero}

module _ (xs : List ℕ) (n : ℕ) (first : List ℕ) (fs : Table (first_on (entry xs) n) first) where
  -- every net's column is one of the channel's
  pub near : (m : ℕ) → get_or first m 0 ≤ n
  near m = elim (dec_le byte_values m) [
    | yes l ↦ omega (arith, get_or-eq_default first 0 {n = m} (omega (arith, fs.size)))
    | no l ↦ omega (arith, fs.is m (omega arith), least_le (λ c. eqb (entry xs c) m) n)
  ]

  pub start_agrees : (ys cut : List ℕ) → Row n (leads (entry xs) (entry ys) n) cut
      → Agree n (start_of (entry xs) (entry ys) n) (state_of cut first 0)
  start_agrees ys cut r = record { cuts = λ c b. sym (r.is c b); ats = λ m b. sym (fs.is m b); lefts = refl }

pub none_first : (xs ys : List ℕ) (n : ℕ) (row : List ℕ) → Row n (leads (entry xs) (entry ys) n) row → get_or row 0 0 ≡ 0
none_first xs ys n row r = r.is 0 (omega arith) ∙ lead_zero xs (entry ys) n

pub solid_same : (a b : ℕ → ℕ) (n : ℕ) (cut goal : List ℕ) → Row n (leads a b n) cut → Row n (leads b a n) goal
    → leads_solid (item cut) (item goal) n ≡ solid_test a b n
solid_same a b n cut goal r s = both_same
    (ap not (some_same (λ c. not (leb 1 (item cut c) && leb 1 (item goal c))) (λ c. not (leb 1 (leads a b n c) && leb 1 (leads b a n c))) n
    (λ c i. rw (r.is c i.1, s.is c i.1))))
    (some_same (λ c. not (eqb (item cut c) (item goal c))) (λ c. not (eqb (leads a b n c) (leads b a n c))) n
    (λ c i. rw (r.is c i.1, s.is c i.1)))
  where
    both_same : {x x' y y' : Bool} → x ≡ x' → y ≡ y' → (x && y) ≡ (x' && y')
    both_same e f = rw (e, f)

-- one more column is tested
pub every_more : (t : ℕ → Bool) (c : ℕ) (x : Bool) → x ≡ every t c → (x && t (c + 1)) ≡ every t (c + 1)
unfolding some
every_more t c x e = rw (e, add-one) (opposite (some (λ a. not (t a)) c) (t (suc c)))
  where
    opposite : (a b : Bool) → (not a && b) ≡ not (a || not b)
    opposite true b = refl
    opposite false true = refl
    opposite false false = refl

-- the number of the column that is found, or 0
pub found_or : (t : ℕ → Bool) (n : ℕ) (r : Option ℕ) → LeastFound t n r → unwrap_or r 0 ≡ least t n
found_or t n None e = sym e
found_or t n (Some c) e = sym e

-- a plan without moves tells that the channel is solid
pub solid_told : {a b : ℕ → ℕ} {n : ℕ} {plan : Plan} → Planned a b n plan → is_none plan.moves ≡ solid_test a b n
solid_told {a} {b} {n} {plan} p = told plan.moves p.moves
  where
    told : (moves : Option Operations) → MovesFound a b n moves → is_none moves ≡ solid_test a b n
    told None e = sym e
    told (Some made) e = sym e.0
