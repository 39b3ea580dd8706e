-- What a board stores beside its pins: "The board shall store what each column and, in a box, each track must pass" (document 02, job 8).
--
--   column_count q c   how many nets column c must pass, "the definition as Job 6 left it": by box_passes in a box, by passes in a row and
--                      a channel
--   track_count q c    how many nets track c must pass, "in a box"; 0 outside boxes
--   count_entries      how many entries the stored lists have; the longest side has fewer places
--   Counted q columns tracks
--                      "every stored figure equals the definition": entry c of the lists, from 1 on, is that of column c and of track c;
--                      the entries past the last column and the last track are 0
--   stored_across columns, stored_up tracks, stored_floor q columns tracks
--                      "Reading across or up then looks at stored figures only; outside boxes up and floor are 0": the largest stored
--                      figure, and the floor by the formula of `floor_of`; that they are Survey's is proved (proofs/Stored.antt)
use Rattle.std.specs.Prelude.{ℕ, ◌≤◌, ◌<◌, ◌≡◌, List}
use Rattle.counting.specs.Counting.{In, most, ceil}
use Rattle.terms.specs.Kinds.{by_kind}
use Rattle.grid.specs.Legal.{entry, nets}
use Rattle.density.specs.Density.{passes, box_passes, box_passes_track, floor}
use Rattle.problem.specs.declared.Problem.{Problem}
use Rattle.problem.specs.Problem.{pins_in, width_of, shape_of}

unfoldable pub column_count : Problem → ℕ → ℕ
column_count q c =
    let plain = nets (passes (shape_of q) (pins_in q.pins) c) in
    by_kind q.kind 0 plain plain (nets (box_passes (shape_of q) (pins_in q.pins) c)) plain

unfoldable pub track_count : Problem → ℕ → ℕ
track_count q c = by_kind q.kind 0 0 0 (nets (box_passes_track (shape_of q) (pins_in q.pins) c)) 0

abbrev pub count_entries : ℕ
count_entries = 96

pub record Counted (q : Problem) (columns tracks : List ℕ) : Type 0 where
  pub column : (c : ℕ) → In c q.n.0 → entry columns c ≡ column_count q c
  pub track : (c : ℕ) → In c (width_of q) → entry tracks c ≡ track_count q c
  pub past_columns : (c : ℕ) → q.n.0 < c → c ≤ count_entries → entry columns c ≡ 0
  pub past_tracks : (c : ℕ) → width_of q < c → c ≤ count_entries → entry tracks c ≡ 0

unfoldable pub stored_across : List ℕ → ℕ
stored_across columns = most (entry columns) count_entries

unfoldable pub stored_up : List ℕ → ℕ
stored_up tracks = most (entry tracks) count_entries

unfoldable pub stored_floor : Problem → List ℕ → List ℕ → ℕ
stored_floor q columns tracks =
    by_kind q.kind 0 0 0 (floor (ceil (stored_across columns) (width_of q)) (ceil (stored_up tracks) q.n.0)) 0
