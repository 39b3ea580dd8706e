-- Nets take lanes in two passes: first those with a place on the side `own`, each the lane beside its first one; then the others, in
-- order, the lanes that were spare. A list of lanes holds lane i at entry i - 1, 0 while no net has it.
--
--   Took own need left spare lanes n i   the first pass, when it has come past i lanes: of the nets that `need` names some have a lane
--                                        beside a place of their own, and the others are `left` and have no place so far; the first n
--                                        entries of `spare` are lanes that no net took, counted from 0
--   Listed left list n                   the first n entries of `list` are the first n nets that are left, in order
--   Distinct spare n                     the first n entries of `spare` are lanes, no two the same
--   Spread placed spare list n lanes     the first n of `list` have the first n lanes of `spare`, and the other lanes are as placed
use Rattle.std.specs.Prelude.{ℕ, suc, ◌+◌, ◌≤◌, ◌<◌, ◌≡◌, ◌≢◌, List, Bool, true, false, length, get_or}
use Rattle.counting.specs.Counting.{In, count}
use Rattle.terms.specs.Limits.{largest_net}
use Rattle.grid.specs.Legal.{nets}
use Rattle.lanes.specs.Tables.{most_lanes}

pub record Took (own : List ℕ) (need left : List Bool) (spare lanes : List ℕ) (n i : ℕ) : Type 0 where
  pub long : length lanes ≡ most_lanes
  pub mine : (j : ℕ) → get_or lanes j 0 ≢ 0
      → (j < i) × (get_or own j 0 ≡ get_or lanes j 0) × (get_or need (get_or lanes j 0) false ≡ true) ×
      (get_or left (get_or lanes j 0) false ≡ false)
  pub once : (j k : ℕ) → get_or lanes j 0 ≢ 0 → get_or lanes j 0 ≡ get_or lanes k 0 → j ≡ k
  pub got : (m : ℕ) → get_or need m false ≡ true → get_or left m false ≡ false → (j : ℕ) × (get_or lanes j 0 ≡ m)
  pub waits : (m : ℕ) → get_or left m false ≡ true → (get_or need m false ≡ true) × ((j : ℕ) → j < i → get_or own j 0 ≢ m)
  pub few : n ≤ i
  pub vacant : (p : ℕ) → p < n → (get_or spare p 0 < i) × (get_or lanes (get_or spare p 0) 0 ≡ 0)
  pub apart : (p q : ℕ) → p < q → q < n → get_or spare p 0 < get_or spare q 0
  pub all : nets (λ m. get_or left m false) + i ≡ nets (λ m. get_or need m false) + n

pub record Listed (left : List Bool) (list : List ℕ) (n : ℕ) : Type 0 where
  pub is : (p : ℕ) → p < n → In (get_or list p 0) largest_net × (get_or left (get_or list p 0) false ≡ true) ×
      (count (λ m. get_or left m false) (get_or list p 0) ≡ suc p)

pub record Distinct (spare : List ℕ) (n : ℕ) : Type 0 where
  pub few : n ≤ most_lanes
  pub inside : (p : ℕ) → p < n → get_or spare p 0 < most_lanes
  pub apart : (p q : ℕ) → p < q → q < n → get_or spare p 0 < get_or spare q 0

pub record Spread (placed spare list : List ℕ) (n : ℕ) (lanes : List ℕ) : Type 0 where
  pub long : length lanes ≡ most_lanes
  pub put : (p : ℕ) → p < n → get_or lanes (get_or spare p 0) 0 ≡ get_or list p 0
  pub kept : (i : ℕ) → ((p : ℕ) → p < n → get_or spare p 0 ≢ i) → get_or lanes i 0 ≡ get_or placed i 0
