-- A side and its padded list have the same entries at a side's places, and past them the padded list has 0: so a net is on both or on none.
use Prim.Native.Nat.{ℕ, zero, suc, ◌-◌, ◌≤◌, ◌<◌}
use mathlib.Core.Path.{◌≡◌, sym, ap, ◌∙◌}
use mathlib.Core.Logic.{by_cases}
use mathlib.Core.Bool.{Bool, false, or-false}
use mathlib.Core.List.{List}
use native.Mathlib.Decide.{ℕ_discrete}
use native.Mathlib.Omega.{arith}
use lib.Dec.{eqb}
use lib.ListN.{get_or}
use borrow.Author.Tests.{ne_eqb}
use Rattle.counting.specs.Counting.{In, some}
use Rattle.counting.proofs.Tests.{some_same}
use Rattle.terms.specs.Limits.{longest_side}
use Rattle.grid.specs.Legal.{entry}
use Rattle.grid.proofs.Entries.{entry_at}
use Rattle.board_sides.specs.Limits.{padded_side}

-- two lists that agree by index
same_entry : (long side : List ℕ) → ((i : ℕ) → i < longest_side → get_or long i 0 ≡ get_or side i 0) → (a : ℕ) → In a longest_side
    → entry long a ≡ entry side a
same_entry long side same a j = entry_at long a j.0 ∙ same (a - 1) (omega arith) ∙ sym (entry_at side a j.0)

pub record Padded (side long : ℕ → ℕ) : Type 0 where
  pub here : (a : ℕ) → In a longest_side → long a ≡ side a
  pub past : (a : ℕ) → longest_side < a → long a ≡ 0

pub padded_is : (side long : List ℕ) → ((i : ℕ) → i < longest_side → get_or long i 0 ≡ get_or side i 0)
    → ((i : ℕ) → longest_side ≤ i → get_or long i 0 ≡ 0) → Padded (entry side) (entry long)
padded_is side long same none = record {
  here = same_entry long side same;
  past = λ a l. entry_at long a (omega arith) ∙ none (a - 1) (omega arith);
}

-- a test that fails past the places asks no more there
pub some_past : (t : ℕ → Bool) (top : ℕ) → ((a : ℕ) → top < a → t a ≡ false) → (n : ℕ) → top ≤ n → some t n ≡ some t top
unfolding some
some_past t top out zero h = let e : 0 ≡ top = omega arith in ap (some t) e
some_past t top out (suc n) h =
    by_cases (ℕ_discrete top (suc n)) (λ e. ap (some t) (sym e))
    (λ ne. rw (out (suc n) (omega arith), some_past t top out n (omega arith)) (or-false (some t top)))

module _ {side long : ℕ → ℕ} (net : ℕ) (one : 1 ≤ net) (p : Padded side long) where
  pub net_past : (a : ℕ) → longest_side < a → eqb (long a) net ≡ false
  net_past a l = ne_eqb (long a) net (λ e. omega (arith, p.past a l))

  pub net_here_lem : (a : ℕ) → In a longest_side → eqb (long a) net ≡ eqb (side a) net
  net_here_lem a i = ap (λ (x : ℕ). eqb x net) (p.here a i)

  pub some_padded : some (λ a. eqb (long a) net) padded_side ≡ some (λ a. eqb (side a) net) longest_side
  some_padded =
      some_past (λ a. eqb (long a) net) longest_side net_past padded_side (omega arith)
      ∙ some_same (λ a. eqb (long a) net) (λ a. eqb (side a) net) longest_side net_here_lem
