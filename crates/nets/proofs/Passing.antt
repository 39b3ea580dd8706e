-- A loop over the nets from 1 on has passed those below m: what the net m adds to a sum and to a search.
use Rattle.std.proofs.Common.{◌≡◌, ℕ, suc, ◌+◌, ◌-◌, ◌≤◌, Bool, true, false, Some, sym, ap, ◌∙◌, arith}
use Rattle.counting.specs.Counting.{sum, least}
use Rattle.counting.proofs.Sums.{sum_more}
use Rattle.counting.proofs.Leasts.{least_more, least_here}
use Rattle.nets.specs.Tables.{net_or_none}

-- the next is m + 1, and those below it are 1 to m
next : (m : ℕ) → 1 ≤ m → m + 1 - 1 ≡ m - 1 + 1
next m h = omega arith

here : (m : ℕ) → 1 ≤ m → m - 1 + 1 ≡ m
here m h = omega arith

pub sum_passed : (f : ℕ → ℕ) (m : ℕ) → 1 ≤ m → sum f (m + 1 - 1) ≡ sum f (m - 1) + f m
sum_passed f m h = ap (sum f) (next m h) ∙ sum_more f (m - 1) ∙ ap (λ (k : ℕ). sum f (m - 1) + f k) (here m h)

pub least_passed : (t : ℕ → Bool) (m : ℕ) → 1 ≤ m → least t (m - 1) ≡ 0 → t m ≡ false → least t (m + 1 - 1) ≡ 0
least_passed t m h e f = ap (least t) (next m h) ∙ least_more t (m - 1) e (ap t (here m h) ∙ f)

pub least_met : (t : ℕ → Bool) (m top : ℕ) → 1 ≤ m → m ≤ top → least t (m - 1) ≡ 0 → t m ≡ true → Some m ≡ net_or_none (least t top)
least_met t m top h k e f =
    ap Some (after m h) ∙ sym (ap net_or_none (least_here t (m - 1) top (omega arith) e (ap t (here m h) ∙ f) ∙ here m h ∙ after m h))
  where
    after : (m : ℕ) → 1 ≤ m → m ≡ suc (m - 1)
    after m h = omega arith
