-- What our functions that keep a board's counts promise each other. No promise of a public call cites it.
--
--   no_place          past every place
--   or_no_place x     x, or no_place where it is 0
--   Ends a b m low high one two
--                     of two sides across from each other, a and b: whether the one has net m and whether the other has; the first place
--                     at which one of them has it, or no_place, and the last, or 0
--   low_along first near past, high_along last far past
--                     the least and the greatest place along the grid of a net that has pins, from the first and the last between its
--                     ends: near says whether it has pins on the near side, at 0, and far whether on the far side, at `past`
--   run_from low last, run_to low high last
--                     the first and the last of the places 1 to `last` that must pass it; 0 for the last where its pins are all at one
--                     of these
--   in_run low high last c
--                     place c is one of them
--   shifted x t step  a count x, with `step` more, modulo 256, if t: 1 adds one, and 255 takes one away
--   box_width q       how many tracks have counts: the width of a box, and 0 for the other kinds
--   Recounted low high last step old new
--                     the list new has these counts in the place of those of the list old
--   NetNumbers l      every number of the list is one that a net may have
--   left l xs         the list xs, with 0 for each number that l has
--   without q l       the problem q without the nets of a list of nets that it has, none of them twice
--   TakenAway q l columns tracks columns' tracks'
--                     the problem without the nets of the list is sound, and these are its counts, if those before were the problem's
use Rattle.std.specs.Prelude.{ℕ, ◌+◌, ◌-◌, ◌%◌, min, max, ◌≡◌, Bool, true, cond, ◌&&◌, List, map, eqb, leb, length}
use Rattle.counting.specs.Counting.{In, some}
use Rattle.terms.specs.Limits.{longest_side, largest_net, byte_values, within}
use Rattle.terms.specs.Kinds.{by_kind}
use Rattle.grid.specs.Legal.{entry}
use Rattle.problem.specs.declared.Problem.{Problem}
use Rattle.nets.specs.Tables.{first_held, last_held}
use Rattle.board_law.specs.Places.{listed}
use Rattle.board_law.specs.Edits.{Sound}
use Rattle.board_law.specs.Counts.{count_entries, Counted}

abbrev pub no_place : ℕ
no_place = 255

abbrev pub or_no_place : ℕ → ℕ
or_no_place x = cond (eqb x 0) no_place x

pub record Ends (a b : ℕ → ℕ) (m low high : ℕ) (one two : Bool) : Type 0 where
  pub on_one : one ≡ some (λ c. eqb (a c) m) longest_side
  pub on_two : two ≡ some (λ c. eqb (b c) m) longest_side
  pub first : low ≡ or_no_place (first_held a b longest_side m)
  pub last : high ≡ last_held a b longest_side m

abbrev pub low_along : ℕ → Bool → ℕ → ℕ
low_along first near past = cond near 0 (cond (eqb first no_place) past first)

abbrev pub high_along : ℕ → Bool → ℕ → ℕ
high_along last far past = cond far past last

abbrev pub run_from : ℕ → ℕ → ℕ
run_from low last = min (max low 1) last

abbrev pub run_to : ℕ → ℕ → ℕ → ℕ
run_to low high last = cond (eqb low high && within low last) 0 (max (run_from low last) (min (max high 1) last))

abbrev pub in_run : ℕ → ℕ → ℕ → ℕ → Bool
in_run low high last c = leb (run_from low last) c && leb c (run_to low high last)

abbrev pub shifted : ℕ → Bool → ℕ → ℕ
shifted x t step = (x + cond t step 0) % byte_values

abbrev pub box_width : Problem → ℕ
box_width q = by_kind q.kind 0 0 0 q.byte2 0

pub record Recounted (low high last step : ℕ) (old new : List ℕ) : Type 0 where
  pub each : (c : ℕ) → In c count_entries → entry new c ≡ shifted (entry old c) (in_run low high last c) step

pub record NetNumbers (l : List ℕ) : Type 0 where
  pub each : (x : ℕ) → listed l x ≡ true → In x largest_net

abbrev pub left : List ℕ → List ℕ → List ℕ
left l xs = map (λ x. cond (listed l x) 0 x) xs

unfoldable pub without : Problem → List ℕ → Problem
without q l =
    record {
      kind = q.kind;
      n = q.n;
      byte2 = q.byte2;
      nets = q.nets - length l;
      pins = record {
        north = left l q.pins.north;
        south = left l q.pins.south;
        west = left l q.pins.west;
        east = left l q.pins.east;
      };
    }

pub record TakenAway (q : Problem) (l columns tracks columns' tracks' : List ℕ) : Type 0 where
  pub sound : Sound (without q l)
  pub counted : Counted q columns tracks → Counted (without q l) columns' tracks'
