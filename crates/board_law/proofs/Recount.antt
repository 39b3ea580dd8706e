-- The counts of a board that gets a net, or loses it: each column and each track of the net's run has one more, or one less, and no other
-- changes (Terms, Ends); a byte holds every count, so one more and one less are meant as they stand.
use Prim.Native.Nat.{ℕ, ◌+◌, ◌≤◌, ◌<◌}
use mathlib.Core.Path.{◌≡◌, refl, sym, ap, ap₂, ◌∙◌, subst}
use mathlib.Core.Bool.{Bool, true, false, ◌&&◌, and-false}
use mathlib.Core.List.{List}
use native.Mathlib.Omega.{arith}
use lib.Dec.{eqb, leb}
use borrow.Author.Tests.{lt-leb}
use Rattle.counting.specs.Counting.{In, bit}
use Rattle.counting.proofs.Sums.{split}
use Rattle.counting.proofs.Counts.{count_le}
use Rattle.terms.specs.Kinds.{north, south, west, east, by_kind, has_side}
use Rattle.terms.specs.Limits.{largest_net, within}
use Rattle.terms.proofs.Laws.{Known, is_row, is_channel, is_box, is_two_layer, known, of_box}
use Rattle.grid.specs.Grid.{Grid, upright, column_of, track_of}
use Rattle.grid.specs.Legal.{Pins, entry, nets}
use Rattle.density.specs.Density.{passes, box_passes, box_passes_track}
use Rattle.problem.specs.declared.Problem.{Problem}
use Rattle.problem.specs.Problem.{pins_in, width_of, shape_of, Good}
use Rattle.problem.proofs.Sizes.{width_in}
use Rattle.board_law.specs.Counts.{column_count, track_count, count_entries, Counted}
use Rattle.board_law.specs.Runs.{Ends, low_along, high_along, run_from, run_to, in_run, shifted, box_width, Recounted}
use Rattle.board_law.proofs.Apart.{Apart}
use Rattle.board_law.proofs.Terms.{Own, own_passes, own_box_passes, one_term_more}
use Rattle.board_law.proofs.Ends.{box_column, plain_column, box_track}

-- ---- one count

run_past : (low high last c : ℕ) → last < c → in_run low high last c ≡ false
run_past low high last c past = rw (lt-leb c (run_to low high last) before) (and-false (leb (run_from low last) c))
  where
    before : run_to low high last < c
    before = split (eqb low high && within low last) (λ e. rw e (omega arith)) (λ e. rw e (omega arith))

-- y is x, a number of nets, and one more if t
record More (x y : ℕ) (t : Bool) : Type 0 where
  small : x ≤ largest_net
  sum : y ≡ x + bit t

shift_up : {x y : ℕ} (t : Bool) → More x y t → shifted x t 1 ≡ y
shift_up true k = omega (arith, k.small, k.sum)
shift_up false k = omega (arith, k.small, k.sum)

shift_down : {x y : ℕ} (t : Bool) → More x y t → shifted y t 255 ≡ x
shift_down true k = omega (arith, k.small, k.sum)
shift_down false k = omega (arith, k.small, k.sum)

module _ {low high last : ℕ} {old new : List ℕ} (c : ℕ) (i : In c count_entries) where
  raised : {x y : ℕ} → Recounted low high last 1 old new → entry old c ≡ x → More x y (in_run low high last c) → entry new c ≡ y
  raised r e k = r.each c i ∙ ap (λ (z : ℕ). shifted z (in_run low high last c) 1) e ∙ shift_up (in_run low high last c) k

  lowered : {x y : ℕ} → Recounted low high last 255 old new → entry old c ≡ y → More x y (in_run low high last c) → entry new c ≡ x
  lowered r e k = r.each c i ∙ ap (λ (z : ℕ). shifted z (in_run low high last c) 255) e ∙ shift_down (in_run low high last c) k

  kept : {step : ℕ} → Recounted low high last step old new → last < c → entry old c ≡ 0 → entry new c ≡ 0
  kept {step} r past e = r.each c i ∙ ap₂ (λ (z : ℕ) (t : Bool). shifted z t step) e (run_past low high last c past)

-- ---- every column and every track

-- the counts by kind, with the shape and the pins apart
abbrev columns_of : ℕ → Grid → Pins → ℕ → ℕ
columns_of kind g p c = let plain = nets (passes g p c) in by_kind kind 0 plain plain (nets (box_passes g p c)) plain

abbrev tracks_of : ℕ → Grid → Pins → ℕ → ℕ
tracks_of kind g p c = by_kind kind 0 0 0 (nets (box_passes_track g p c)) 0

-- only boxes have counts of tracks
narrow : (q : Problem) → Good q → box_width q ≤ width_of q
narrow q good = by (known q.kind good.kind)
  where
    by : {kind : ℕ} → Known kind → by_kind kind 0 0 0 q.byte2 0 ≤ by_kind kind 1 1 1 q.byte2 1
    by is_row = omega arith
    by is_channel = omega arith
    by is_box = omega arith
    by is_two_layer = omega arith

no_track : (low high last c : ℕ) → last ≡ 0 → 1 ≤ c → More 0 0 (in_run low high last c)
no_track low high last c z one = record { small = omega arith; sum = rw (run_past low high last c (omega arith)) }

module _ {m : ℕ} {q q' : Problem} (a : Apart m q q') where
  abbrev g : Grid
  g = shape_of q'

  abbrev p : Pins
  p = pins_in q.pins

  abbrev p' : Pins
  p' = pins_in q'.pins

  same_shape : shape_of q' ≡ shape_of q
  same_shape i = upright (a.n i).0 (by_kind (a.kind i) 1 1 1 (a.byte2 i) 1) 1

  same_length : q'.n.0 ≡ q.n.0
  same_length = ap (λ (g : Grid). g.n) same_shape

  same_width : width_of q' ≡ width_of q
  same_width = ap (λ (g : Grid). g.w) same_shape

  term_more : {t : Pins → ℕ → Bool} (b : Bool) → Own g t → t p' m ≡ b → More (nets (t p)) (nets (t p')) b
  term_more {t} b own e =
      record {
        small = count_le (t p) largest_net;
        sum = one_term_more a.net a.gains own ∙ ap (λ (z : Bool). nets (t p) + bit z) e;
      }

  module _ {f l f' l' : ℕ} {ns ss ws es : Bool} (x : Ends (pins_in q'.pins north) (pins_in q'.pins south) m f l ns ss)
      (y : Ends (pins_in q'.pins west) (pins_in q'.pins east) m f' l' ws es) (c : ℕ) where
    abbrev n : ℕ
    n = q'.n.0

    abbrev in_columns : Bool
    in_columns = in_run (low_along f ws (n + 1)) (high_along l es (n + 1)) n c

    -- the tracks, by how many have counts
    abbrev in_tracks : ℕ → Bool
    in_tracks w = in_run (low_along f' ss (w + 1)) (high_along l' ns (w + 1)) w c

    column_more : In c n → More (column_count q c) (column_count q' c) in_columns
    unfolding column_count
    column_more i =
        subst (λ (z : ℕ). More z (column_count q' c) in_columns)
        (ap₂ (λ (k : ℕ) (z : Grid). columns_of k z p c) a.kind same_shape) (by (known q'.kind a.good.kind) refl)
      where
        plain : {kind : ℕ} → q'.kind ≡ kind → has_side kind west ≡ false → has_side kind east ≡ false
            → More (nets (passes g p c)) (nets (passes g p' c)) in_columns
        plain e no_west no_east =
            term_more in_columns (own_passes g (column_of g) c)
            (plain_column a.good a.net.0 a.there x y c (ap (λ (k : ℕ). has_side k west) e ∙ no_west)
            (ap (λ (k : ℕ). has_side k east) e ∙ no_east) i)

        by : {kind : ℕ} → Known kind → q'.kind ≡ kind → More (columns_of kind g p c) (columns_of kind g p' c) in_columns
        by is_row e = plain e refl refl
        by is_channel e = plain e refl refl
        by is_two_layer e = plain e refl refl
        by is_box e =
            term_more in_columns (own_box_passes g (column_of g) west east n c) (box_column a.good a.net.0 a.there x y c i)

    track_more : In c (width_of q') → More (track_count q c) (track_count q' c) (in_tracks (box_width q'))
    unfolding track_count
    track_more i =
        subst (λ (z : ℕ). More z (track_count q' c) (in_tracks (box_width q')))
        (ap₂ (λ (k : ℕ) (z : Grid). tracks_of k z p c) a.kind same_shape) (by (known q'.kind a.good.kind) refl)
      where
        none : {kind : ℕ} → q'.kind ≡ kind → by_kind kind 0 0 0 q'.byte2 0 ≡ 0 → More 0 0 (in_tracks (box_width q'))
        none e z = no_track _ _ (box_width q') c (ap (λ (k : ℕ). by_kind k 0 0 0 q'.byte2 0) e ∙ z) i.0

        by : {kind : ℕ} → Known kind → q'.kind ≡ kind → More (tracks_of kind g p c) (tracks_of kind g p' c) (in_tracks (box_width q'))
        by is_row e = none e refl
        by is_channel e = none e refl
        by is_two_layer e = none e refl
        by is_box e =
            let same : width_of q' ≡ box_width q' = of_box q'.kind 1 1 1 q'.byte2 1 e ∙ sym (of_box q'.kind 0 0 0 q'.byte2 0 e) in
            term_more (in_tracks (box_width q')) (own_box_passes g (track_of g) south north (width_of q') c)
            (box_track a.good a.net.0 a.there x y c i ∙ ap in_tracks same)

-- ---- the stored lists

pub counts_with : {m : ℕ} {q q' : Problem} {columns tracks columns' tracks' : List ℕ} {f l f' l' : ℕ} {ns ss ws es : Bool}
    → Apart m q q'
    → Ends (pins_in q'.pins north) (pins_in q'.pins south) m f l ns ss
    → Ends (pins_in q'.pins west) (pins_in q'.pins east) m f' l' ws es
    → Recounted (low_along f ws (q'.n.0 + 1)) (high_along l es (q'.n.0 + 1)) q'.n.0 1 columns columns'
    → Recounted (low_along f' ss (box_width q' + 1)) (high_along l' ns (box_width q' + 1)) (box_width q') 1 tracks tracks'
    → Counted q columns tracks → Counted q' columns' tracks'
counts_with {q' = q'} a x y column track old =
    let long = a.good.columns.1 in
    let wide = (width_in a.good).1 in
    let n = same_length a in
    let w = same_width a in
    record {
      column = λ c i. raised c (omega arith) column (old.column c (omega arith)) (column_more a x y c i);
      track = λ c i. raised c (omega arith) track (old.track c (omega arith)) (track_more a x y c i);
      past_columns = λ c past le. kept c (omega arith) column past (old.past_columns c (omega arith) le);
      past_tracks = λ c past le. kept c (omega arith) track (omega (arith, narrow q' a.good)) (old.past_tracks c (omega arith) le);
    }

pub counts_without : {m : ℕ} {q q' : Problem} {columns tracks columns' tracks' : List ℕ} {f l f' l' : ℕ} {ns ss ws es : Bool}
    → Apart m q q'
    → Ends (pins_in q'.pins north) (pins_in q'.pins south) m f l ns ss
    → Ends (pins_in q'.pins west) (pins_in q'.pins east) m f' l' ws es
    → Recounted (low_along f ws (q'.n.0 + 1)) (high_along l es (q'.n.0 + 1)) q'.n.0 255 columns columns'
    → Recounted (low_along f' ss (box_width q' + 1)) (high_along l' ns (box_width q' + 1)) (box_width q') 255 tracks tracks'
    → Counted q' columns tracks → Counted q columns' tracks'
counts_without {q' = q'} a x y column track old =
    let long = a.good.columns.1 in
    let wide = (width_in a.good).1 in
    let n = same_length a in
    let w = same_width a in
    record {
      column = λ c i. let j : In c q'.n.0 = omega arith in lowered c (omega arith) column (old.column c j) (column_more a x y c j);
      track = λ c i. let j : In c (width_of q') = omega arith in lowered c (omega arith) track (old.track c j) (track_more a x y c j);
      past_columns = λ c past le.
          let out : q'.n.0 < c = omega arith in kept c (omega arith) column out (old.past_columns c out le);
      past_tracks = λ c past le.
          let out : width_of q' < c = omega arith in
          kept c (omega arith) track (omega (arith, narrow q' a.good)) (old.past_tracks c out le);
    }
