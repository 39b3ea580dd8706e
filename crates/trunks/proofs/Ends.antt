-- The first and the last column of a net, as the table of spans has them, are the least and the greatest that hold a pin of it; and a net's span, read
-- from the table, goes from the one to the other.
use Prim.Native.Nat.{ℕ, ◌≤◌, ◌<◌}
use native.Mathlib.Omega.{arith}
use native.Mathlib.Decide.{dec_le, ℕ_discrete}
use mathlib.Core.Path.{◌≡◌, refl, sym, ap, ◌∙◌}
use mathlib.Core.Logic.{◌⊎◌, inl, inr, by_cases}
use mathlib.Core.Bool.{true}
use mathlib.Core.List.{List}
use lib.ListN.{get_or, get_or-eq_default}
use lib.Dec.{eqb}
use borrow.Author.Tests.{eq-eqb, eqb-true}
use Rattle.counting.specs.Counting.{In}
use Rattle.counting.proofs.Sums.{split}
use Rattle.counting.proofs.Leasts.{least_in, least_before}
use Rattle.terms.specs.Limits.{largest_net}
use Rattle.grid.specs.Legal.{entry}
use Rattle.nets.proofs.Reach.{last_in, last_after, holds_one}
use Rattle.nets.specs.Tables.{holds_at, last_held, NetTable, low_of, high_of}
use Rattle.trunks.specs.Trunks.{PinIn, SpanColumns}

one_holds : (a b : ℕ → ℕ) (m c : ℕ) → (a c ≡ m) ⊎ (b c ≡ m) → holds_at a b m c ≡ true
one_holds a b m c (inl e) = rw (eq-eqb (a c) m e)
one_holds a b m c (inr e) = split (eqb (a c) m) (λ f. rw f) (λ f. rw (f, eq-eqb (b c) m e))

-- ---- columns with a pin of a net

module _ (north south : List ℕ) {n : ℕ} {first last wests easts : List ℕ} (t : SpanColumns north south n first last wests easts) where
  pub first_before : (c m : ℕ) → In c n → In m largest_net → PinIn north south c m → In (get_or first m 0) c
  first_before c m i k p = rw (t.firsts.is m k) (least_before (holds_at (entry north) (entry south) m) n c i (one_holds (entry north) (entry south) m c p))

  pub last_behind : (c m : ℕ) → In c n → In m largest_net → PinIn north south c m → c ≤ get_or last m 0
  last_behind c m i k p = rw (t.lasts.is m k) (last_after (entry north) (entry south) m n c i (one_holds (entry north) (entry south) m c p))

  first_pin : (m : ℕ) → In m largest_net → 1 ≤ get_or first m 0 → In (get_or first m 0) n × PinIn north south (get_or first m 0) m
  first_pin m k h = let (i, e) = least_in (holds_at (entry north) (entry south) m) n (get_or first m 0) (sym (t.firsts.is m k)) (λ z. omega arith) in
      (i, holds_one (entry north) (entry south) m (get_or first m 0) e)

  last_pin : (m : ℕ) → In m largest_net → 1 ≤ get_or last m 0 → In (get_or last m 0) n × PinIn north south (get_or last m 0) m
  last_pin m k h =
      let is = t.lasts.is m k in
      let (i, e) = last_in (entry north) (entry south) m n (λ z. omega arith) in
      rw is (i, holds_one (entry north) (entry south) m (last_held (entry north) (entry south) n m) e)

  -- a net that lies in more than one column
  module _ (m : ℕ) (lt : get_or first m 0 < get_or last m 0) where
    pub few : In m largest_net
    few = elim (dec_le m largest_net) [
      | yes le ↦ (by_cases (ℕ_discrete m 0) (λ z. absurd (omega (arith, t.lasts.none, ap (λ (b : ℕ). get_or last b 0) z))) (λ nz. omega arith), le)
      | no gt ↦ absurd (omega (arith, get_or-eq_default last 0 {n = m} (omega (arith, t.lasts.size))))
    ]

    pub ends_at : In (get_or last m 0) n × PinIn north south (get_or last m 0) m
    ends_at = last_pin m few (omega arith)

    pub starts_at_lem : In (get_or first m 0) n × PinIn north south (get_or first m 0) m
    starts_at_lem = first_pin m few (first_before _ m ends_at.0 few ends_at.1).0

-- ---- the span that is read from the table

nothing : {xs : List ℕ} → NetTable (λ m. 0) xs → (m : ℕ) → get_or xs m 0 ≡ 0
nothing {xs} t m = elim (dec_le m largest_net) [
  | yes le ↦ by_cases (ℕ_discrete m 0) (λ z. ap (λ (b : ℕ). get_or xs b 0) z ∙ t.none) (λ nz. t.is m (omega arith))
  | no gt ↦ get_or-eq_default xs 0 (omega (arith, t.size))
]

pub span_ends : {north south : List ℕ} {n : ℕ} {first last wests easts : List ℕ} → SpanColumns north south n first last wests easts → (m past : ℕ)
    → (low_of (get_or first m 0) (get_or wests m 0) (get_or easts m 0) past ≡ get_or first m 0) × (high_of (get_or last m 0) (get_or easts m 0) past ≡ get_or last m 0)
span_ends {first = first} t m past =
    rw (nothing t.no_west m, nothing t.no_east m)
    (split (eqb (get_or first m 0) 0) (λ e. rw e (sym (eqb-true _ _ e))) (λ e. rw e), refl)
