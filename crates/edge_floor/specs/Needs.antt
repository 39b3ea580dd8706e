-- What the functions that compute the edge floor keep: what the first and the last column need, from the table of spans. No promise of a
-- public call cites it; proofs/Needs ties it to `column_need` and `track_need`.
--
--   over low high c         whether a net whose least and greatest place along the grid are low and high must pass column c
--   net_need first last near far beside past c
--                           what column c needs for a net, from its first and last column, from how many pins it has on the near and on the
--                           far side, and from how many beside column c
--   is_other first last near far beside past c
--                           whether column c must pass a net that has no pin beside it
--   need_from, other_from .. m  the same of net m, from the lists of these
--   EndsOf a b near far n w the near and the far side hold nets, at w places, and the lists have how many each net has there; n columns
--                           lie between them
--   MostNeed a b first last near far n w across r
--                           r is the most that a column needs, where a and b are west and east, first and last are of north and south, and
--                           across is the most nets that a column must pass; and it is the most that a track needs, where they are south
--                           and north, west and east, and up
use Rattle.std.specs.Prelude.{ℕ, ◌≤◌, max, ◌≡◌, Bool, ◌&&◌, List, eqb, leb, ltb}
use Rattle.counting.specs.Counting.{In, bit, most}
use Rattle.terms.specs.Limits.{longest_side, table_sum}
use Rattle.grid.specs.Grid.{upright}
use Rattle.grid.specs.Legal.{entry, pins_of}
use Rattle.density.specs.Density.{box_across, up}
use Rattle.density.specs.EdgeFloor.{column_need, track_need}
use Rattle.figures.specs.Crossings.{at}
use Rattle.nets.specs.Tables.{pin_count_to, first_held, last_held, low_of, high_of, NetTable, Numbered}

abbrev pub over : ℕ → ℕ → ℕ → Bool
over low high c = leb low c && leb c high && ltb low high

abbrev pub net_need : ℕ → ℕ → ℕ → ℕ → ℕ → ℕ → ℕ → ℕ
net_need first last near far beside past c = max (bit (over (low_of first near far past) (high_of last far past) c)) beside

abbrev pub is_other : ℕ → ℕ → ℕ → ℕ → ℕ → ℕ → ℕ → Bool
is_other first last near far beside past c = eqb beside 0 && over (low_of first near far past) (high_of last far past) c

abbrev pub need_from : List ℕ → List ℕ → List ℕ → List ℕ → List ℕ → ℕ → ℕ → ℕ → ℕ
need_from first last near far beside past c m = net_need (at first m) (at last m) (at near m) (at far m) (at beside m) past c

abbrev pub other_from : List ℕ → List ℕ → List ℕ → List ℕ → List ℕ → ℕ → ℕ → ℕ → Bool
other_from first last near far beside past c m = is_other (at first m) (at last m) (at near m) (at far m) (at beside m) past c

pub record EndsOf (a b near far : List ℕ) (n w : ℕ) : Type 0 where
  pub columns : In n longest_side
  pub places : w ≤ longest_side
  pub on_a : Numbered a
  pub on_b : Numbered b
  pub nears : NetTable (pin_count_to (entry a) w) near
  pub fars : NetTable (pin_count_to (entry b) w) far

pub record MostNeed (a b first last near far : List ℕ) (n w across r : ℕ) : Type 0 where
  pub small : r ≤ table_sum
  pub columns : (c d : List ℕ) → NetTable (first_held (entry c) (entry d) n) first → NetTable (last_held (entry c) (entry d) n) last
      → let g = upright n w 1 in let p = pins_of c d a b in across ≡ box_across g p → r ≡ most (column_need g p) n
  pub tracks : (c d : List ℕ) → NetTable (first_held (entry c) (entry d) n) first → NetTable (last_held (entry c) (entry d) n) last
      → let g = upright w n 1 in let p = pins_of b a c d in across ≡ up g p → r ≡ most (track_need g p) n
