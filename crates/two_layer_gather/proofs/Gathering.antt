-- The nets of several pins are listed by rank, and so in rising order.
use Prim.Native.Nat.{ℕ, zero, suc, ◌+◌, ◌-◌, ◌≤◌, ◌<◌}
use mathlib.Core.Path.{◌≡◌, sym, ap, ◌∙◌}
use mathlib.Core.List.{List, [], ◌∷◌, ◌++◌}
use mathlib.Core.Bool.{Bool, true, false, cond}
use native.Mathlib.Omega.{arith}
use native.Mathlib.Numerals.{add-one}
use native.Mathlib.Decide.{dec_le}
use lib.Dec.{leb}
use lib.ListN.{length, get_or, length-append}
use Rattle.counting.specs.Counting.{In, bit, count}
use Rattle.counting.proofs.Sums.{sum_none, sum_more, sum_grows, sum_part}
use Rattle.counting.proofs.Counts.{count_same, count_le}
use Rattle.terms.specs.Limits.{largest_net, byte_values}
use Rattle.two_layer_law.specs.Moves.{first_on, last_on, several, Gathered}
use Rattle.nets.specs.Tables.{pin_count_to, NetTable}
use Rattle.two_layer_cuts.specs.declared.Operation.{Operation}
use Rattle.two_layer_cuts.specs.Rows.{no_operation, ops_of}
use Rattle.two_layer_gather.specs.Tables.{Table}
use Rattle.two_layer_gather.proofs.Tables.{holds_first}
use Rattle.two_layer_gather.proofs.Listing.{Held, held_more}

abbrev pub many : List ℕ → ℕ → Bool
many counts m = leb 2 (get_or counts m 0)

pub ranks_none : (counts : List ℕ) → 0 ≡ count (many counts) 0
ranks_none counts = sym (sum_none (λ m. bit (many counts m)))

pub rank_le : (counts : List ℕ) (k : ℕ) → count (many counts) k ≤ k
rank_le counts k = count_le (many counts) k

pub rank_more : (counts : List ℕ) (k : ℕ) → count (many counts) (k + 1) ≡ count (many counts) k + bit (many counts (k + 1))
rank_more counts k = sum_more (λ m. bit (many counts m)) k

pub record Picked (counts first last other : List ℕ) (s : ℕ) (o : Operation) : Type 0 where
  pub net : In o.net largest_net
  pub passes : many counts o.net ≡ true
  pub rank : count (many counts) o.net ≡ suc s
  pub to : o.to ≡ cond (leb 1 (get_or other o.net 0)) (get_or first o.net 0) 0
  pub low : o.low ≡ get_or first o.net 0
  pub high : o.high ≡ get_or last o.net 0

-- net k + 1 is listed where it has several pins
pub picked_more : (counts first last other : List ℕ) (list : List Operation) (k : ℕ) (o : Operation) → k < largest_net
    → length list ≡ count (many counts) k → Held (Picked counts first last other) list → many counts (k + 1) ≡ true → o.net ≡ k + 1
    → o.to ≡ cond (leb 1 (get_or other (k + 1) 0)) (get_or first (k + 1) 0) 0 → o.low ≡ get_or first (k + 1) 0
    → o.high ≡ get_or last (k + 1) 0
    → (length (list ++ o ∷ []) ≡ count (many counts) (k + 1)) × Held (Picked counts first last other) (list ++ o ∷ [])
picked_more counts first last other list k o less e held y net to low high = (
  omega (arith, length-append list (o ∷ []), rank_more counts k, ap bit y),
  held_more _ list o held (record {
    net = omega arith;
    passes = rw net y;
    rank = rw net (omega (arith, rank_more counts k, ap bit y));
    to = rw net to;
    low = rw net low;
    high = rw net high;
  }),
)

pub passed_over : (counts : List ℕ) (k n : ℕ) → n ≡ count (many counts) k → many counts (k + 1) ≡ false
    → n ≡ count (many counts) (k + 1)
passed_over counts k n e f = omega (arith, rank_more counts k, ap bit f)

module _ (counts first last other : List ℕ) (a b : ℕ → ℕ) (n : ℕ) (cs : NetTable (pin_count_to a n) counts)
    (fs : Table (first_on a n) first) (ls : Table (last_on a n) last) (os : Table (first_on b n) other) (found : List Operation)
    (all : length found ≡ count (many counts) largest_net) (held : Held (Picked counts first last other) found) where
  many_several : (m : ℕ) → In m largest_net → many counts m ≡ several a n m
  many_several m i = ap (leb 2) (cs.is m i)

  net_of : ℕ → ℕ
  net_of s = (get_or found s no_operation).net

  -- the later of two nets has the higher rank
  rank_less : (x y : ℕ) → x < y → many counts y ≡ true → count (many counts) x < count (many counts) y
  rank_less x zero l t = absurd (omega arith)
  rank_less x (suc y) l t = omega (arith, sum_grows (λ m. bit (many counts m)) x y (omega arith), next, ap bit t)
    where
      next : count (many counts) (suc y) ≡ count (many counts) y + bit (many counts (suc y))
      next = rw add-one at (sum_more (λ m. bit (many counts m)) y)

  rank_same : (x y : ℕ) → many counts x ≡ true → many counts y ≡ true → count (many counts) x ≡ count (many counts) y → x ≡ y
  rank_same x y s t e = elim (dec_le y x) [
    | yes l ↦ elim (dec_le x y) [ yes k ↦ omega arith | no k ↦ absurd (omega (arith, rank_less y x (omega arith) s)) ]
    | no l ↦ absurd (omega (arith, rank_less x y (omega arith) t))
  ]

  find : (m : ℕ) → In m largest_net → many counts m ≡ true → (s : ℕ) × (s < length found) × ((get_or found s no_operation).net ≡ m)
  find m i t =
      let s = count (many counts) m - 1 in
      let one : 1 ≤ count (many counts) m = omega (arith, sum_part (λ k. bit (many counts k)) m m (omega arith), ap bit t) in
      let l : s < length found = omega (arith, sum_grows (λ k. bit (many counts k)) m largest_net i.1) in
      let p = held.is s l in
      (s, l, rank_same (get_or found s no_operation).net m p.passes t (omega (arith, p.rank)))

  rising : (s r : ℕ) → s < r → r < length found → (get_or found s no_operation).net < (get_or found r no_operation).net
  rising s r l k =
      let p = held.is s (omega arith) in
      let q = held.is r k in
      let x = (get_or found s no_operation).net in
      let y = (get_or found r no_operation).net in
      elim (dec_le y x) [
        | yes h ↦ absurd (omega (arith, p.rank, q.rank, sum_grows (λ m. bit (many counts m)) y x h))
        | no h ↦ omega arith
      ]

  pub gathered : Gathered a b n (ops_of found)
  gathered = record {
    count = all ∙ count_same (many counts) (several a n) largest_net many_several;
    each = λ s l. (let p = held.is s l in (p.net, sym (many_several (get_or found s no_operation).net p.net) ∙ p.passes));
    rising = rising;
    all = λ m i t. find m i (many_several m i ∙ t);
    to = λ s l. (let p = held.is s l in let x = (get_or found s no_operation).net in let small : x < byte_values = omega (arith, p.net) in
        p.to ∙ rw (holds_first b n other x small os, fs.is x small));
    low = λ s l. (let p = held.is s l in p.low ∙ fs.is (get_or found s no_operation).net (omega (arith, p.net)));
    high = λ s l. (let p = held.is s l in p.high ∙ ls.is (get_or found s no_operation).net (omega (arith, p.net)));
  }
