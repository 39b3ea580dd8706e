-- The nets that get a track are found one after another: those passed have their entries, and the turn of the pairs is known.
use Prim.Native.Nat.{ℕ, zero, suc, ◌+◌, ◌-◌, ◌≤◌, ◌<◌}
use mathlib.Core.Path.{◌≡◌, refl, ap, ◌∙◌}
use mathlib.Core.Logic.{by_cases}
use mathlib.Core.List.{List}
use mathlib.Core.Bool.{Bool, true, false, not, beq, cond}
use native.Mathlib.Omega.{arith}
use native.Mathlib.Numerals.{add-one}
use native.Mathlib.Decide.{ℕ_discrete}
use lib.ListN.{length, get_or, set}
use lib.Seq.{get_or-set_same, get_or-set_other}
use Rattle.counting.specs.Counting.{In}
use Rattle.terms.specs.Limits.{net_entries, largest_net}
use Rattle.switchbox_law.specs.Rules.{Tally, alternate, gets, pair, wanted}

-- the entries of the nets before k are right
abbrev pub Told : (ℕ → Bool) → List Bool → ℕ → Type 0
Told f out k = (m : ℕ) → m < k → get_or out m false ≡ f m

pub told_more : (f : ℕ → Bool) (out : List Bool) (k : ℕ) (r : Bool) → length out ≡ net_entries → k < net_entries → r ≡ f k → Told f out k
    → Told f (set out k r) (k + 1)
told_more f out k r len b e old m l = by_cases (ℕ_discrete m k)
    (λ d. rw d (get_or-set_same out k r false (omega arith) ∙ e))
    (λ d. get_or-set_other out k m r false d ∙ old m (omega (arith, d)))

pub turn_none : (first : Bool) (z : ℕ → Bool) → first ≡ alternate first z 0
unfolding alternate
turn_none first z = refl

turned_by : (p mine : Bool) → not (beq mine p) ≡ cond p (not mine) mine
turned_by true true = refl
turned_by true false = refl
turned_by false true = refl
turned_by false false = refl

-- the turn after net m, from that after the net before it
pub turn_more : (first : Bool) (z : ℕ → Bool) (m : ℕ) (mine : Bool) → 1 ≤ m → mine ≡ alternate first z (m - 1)
    → not (beq mine (z m)) ≡ alternate first z (m + 1 - 1)
unfolding alternate
turn_more first z zero mine l e = absurd (omega arith)
turn_more first z (suc k) mine l e =
    let before : suc k - 1 ≡ k = omega arith in
    let here : suc k ≡ suc k + 1 - 1 = omega arith in
    turned_by (z (suc k)) mine ∙ ap (λ (b : Bool). cond (z (suc k)) (not b) b) (e ∙ ap (alternate first z) before)
    ∙ ap (alternate first z) here

-- the turns of the nets 1 to k are right
abbrev pub Turned : Bool → (ℕ → Bool) → List Bool → ℕ → Type 0
Turned first z out k = (m : ℕ) → m < k → get_or out (m + 1) false ≡ alternate first z m

pub turned_more : (first : Bool) (z : ℕ → Bool) (out : List Bool) (m : ℕ) (mine : Bool) → length out ≡ net_entries → 1 ≤ m
    → m < net_entries → mine ≡ alternate first z (m - 1) → Turned first z out (m - 1) → Turned first z (set out m mine) (m + 1 - 1)
turned_more first z out m mine len l b e old k h = by_cases (ℕ_discrete (k + 1) m)
    (λ d. let same : m - 1 ≡ k = omega arith in rw d (get_or-set_same out m mine false (omega arith) ∙ rw same at e))
    (λ d. get_or-set_other out m (k + 1) mine false d ∙ old k (omega (arith, d)))

-- the turn after nets 1 to k goes by these
pub turn_same : (first : Bool) (z z' : ℕ → Bool) (k : ℕ) → ((m : ℕ) → In m k → z m ≡ z' m) → alternate first z k ≡ alternate first z' k
unfolding alternate
turn_same first z z' zero e = refl
turn_same first z z' (suc k) e = rw (e (suc k) (omega arith), turn_same first z z' k (λ m i. e m (omega arith)))

-- a net is wanted if it gets a track at its turn
pub wanted_by : (first : Bool) (t : ℕ → Tally) (pairs turn : List Bool) (m : ℕ) (r : Bool) → 1 ≤ m → m < net_entries
    → Told (λ k. pair (t k)) pairs net_entries → Turned first (λ k. get_or pairs k false) turn largest_net
    → r ≡ gets (t m) (get_or turn m false) → r ≡ wanted first t m
wanted_by first t pairs turn zero r l b p u e = absurd (omega arith)
wanted_by first t pairs turn (suc k) r l b p u e =
    e ∙ ap (gets (t (suc k))) (rw add-one at (u k (omega arith)) ∙ turn_same first _ _ k (λ m i. p m (omega arith)))
