-- What is read off the stored figures is Survey's: past the last column and the last track they are 0, so that their greatest is that of
-- the counts themselves, which by kind are what across and up take the greatest of. A fresh board has no pins, and its counts are 0.
use Prim.Native.Nat.{ℕ, zero, suc, ◌≤◌, ◌<◌}
use mathlib.Core.Path.{◌≡◌, refl, sym, ap, ◌∙◌}
use mathlib.Core.Logic.{by_cases}
use mathlib.Core.Bool.{Bool, false, and-false}
use mathlib.Core.List.{List}
use native.Mathlib.Decide.{ℕ_discrete, dec_le}
use native.Mathlib.Omega.{arith}
use lib.Dec.{eqb, leb}
use borrow.Author.Tests.{ne_eqb}
use Rattle.counting.specs.Counting.{In, bit, most, ceil}
use Rattle.counting.proofs.Sums.{bit_zero, sum_zero}
use Rattle.counting.proofs.Counts.{some_none, count_le, most_le, most_same}
use Rattle.terms.specs.Limits.{largest_net}
use Rattle.terms.specs.Kinds.{Side, north, south, west, east, by_kind}
use Rattle.terms.proofs.Laws.{Known, is_row, is_channel, is_box, is_two_layer, known}
use Rattle.grid.specs.Grid.{Grid, Node, places, column_of, track_of}
use Rattle.grid.specs.Legal.{Pins, entry, nets}
use Rattle.density.specs.Density.{pin_on, has_pin, passes_at, passes, across, floor}
use Rattle.density.specs.Density.{all_on, box_passes_at, box_passes, box_passes_track, box_across, up}
use Rattle.problem.specs.declared.Problem.{Problem}
use Rattle.problem.specs.Problem.{pins_in, filled, width_of, shape_of}
use Rattle.problem.proofs.Sizes.{width_in}
use Rattle.figures.specs.Figures.{across_of, figures_of}
use Rattle.ticket_bytes.specs.Bytes.{bytes_of}
use Rattle.ticket_bytes.proofs.ReadBack.{read_back}
use Rattle.survey.specs.Survey.{answered, surveyed, survey_of}
use Rattle.board_law.specs.Edits.{start_problem, Sound}
use Rattle.board_law.specs.Counts.{column_count, track_count, count_entries, Counted, stored_across, stored_up, stored_floor}
use Rattle.board_law.proofs.Start.{start_bare, start_sound}

-- ---- what is stored of a count: its figures from 1 to n, and 0 past n

-- what is 0 past n adds nothing to the greatest
most_past : (f : ℕ → ℕ) (n top : ℕ) → n ≤ top → ((c : ℕ) → n < c → c ≤ top → f c ≡ 0) → most f top ≡ most f n
unfolding most
most_past f n zero le z = let e : n ≡ 0 = omega arith in rw e
most_past f n (suc top) le z =
    by_cases (ℕ_discrete n (suc top))
    (λ e. ap (most f) (sym e))
    (λ ne. omega (arith, most_past f n top (omega arith) (λ c past i. z c past (omega arith)), z (suc top) (omega arith) (omega arith)))

stored_most : (f h : ℕ → ℕ) (n top : ℕ) → n ≤ top → ((c : ℕ) → In c n → f c ≡ h c) → ((c : ℕ) → n < c → c ≤ top → f c ≡ 0)
    → most f top ≡ most h n
stored_most f h n top le same z = most_past f n top le z ∙ most_same f h n same

stored_small : (f h : ℕ → ℕ) (n top b : ℕ) → ((c : ℕ) → In c n → f c ≡ h c) → ((c : ℕ) → n < c → c ≤ top → f c ≡ 0)
    → ((c : ℕ) → h c ≤ b) → (c : ℕ) → In c top → f c ≤ b
stored_small f h n top b same z small c i = elim (dec_le c n) [
  | yes on ↦ omega (arith, same c (i.0, on), small c)
  | no past ↦ omega (arith, z c (omega arith) i.1)
]

-- ---- by kind

-- what holds of each kind's count
of_kind : {kind : ℕ} → Known kind → (P : ℕ → Type 0) {r c b t : ℕ} → P r → P c → P b → P t → P (by_kind kind 0 r c b t)
of_kind is_row P r c b t = r
of_kind is_channel P r c b t = c
of_kind is_box P r c b t = b
of_kind is_two_layer P r c b t = t

kind_most : {kind : ℕ} → Known kind → (r c b t : ℕ → ℕ) (n : ℕ)
    → most (λ a. by_kind kind 0 (r a) (c a) (b a) (t a)) n ≡ by_kind kind 0 (most r n) (most c n) (most b n) (most t n)
kind_most is_row r c b t n = refl
kind_most is_channel r c b t n = refl
kind_most is_box r c b t n = refl
kind_most is_two_layer r c b t n = refl

-- a kind without up has no floor
kind_floor : {kind : ℕ} → Known kind → (x v u w n : ℕ)
    → by_kind kind 0 0 0 (floor (ceil (by_kind kind 0 x x v x) w) (ceil (by_kind kind 0 0 0 u 0) n)) 0
    ≡ by_kind kind 0 0 0 (floor (ceil v w) (ceil u n)) 0
kind_floor is_row x v u w n = refl
kind_floor is_channel x v u w n = refl
kind_floor is_box x v u w n = refl
kind_floor is_two_layer x v u w n = refl

-- ---- the counts of a problem

-- a net without pins is passed nowhere
module _ (g : Grid) (p : Pins) (m : ℕ) (bare : (s : Side) (a : ℕ) → eqb (p s a) m ≡ false) where
  none_on : (at : Node → ℕ) (t : ℕ → Bool) (s : Side) → pin_on g p at m t s ≡ false
  unfolding pin_on
  none_on at t s = some_none _ (places g s) (λ a i. rw (bare s a))

  none_has : (at : Node → ℕ) (t : ℕ → Bool) → has_pin g p at m t ≡ false
  unfolding has_pin
  none_has at t = rw (none_on at t north, none_on at t south, none_on at t west, none_on at t east)

  not_passed : (at : Node → ℕ) (c : ℕ) → passes_at g p at c m ≡ false
  unfolding passes_at
  not_passed at c = rw (none_has at (λ a. leb a c))

  none_alone : (s : Side) → all_on g p m s ≡ false
  unfolding all_on
  none_alone s = rw (some_none (λ a. eqb (p s a) m) (places g s) (λ a i. bare s a))

  not_passed_box : (at : Node → ℕ) (near far : Side) (last c : ℕ) → box_passes_at g p at near far last c m ≡ false
  unfolding box_passes_at
  not_passed_box at near far last c = simp (not_passed at c, none_alone near, none_alone far, and-false)

no_net_lem : (t : ℕ → Bool) → ((m : ℕ) → In m largest_net → t m ≡ false) → nets t ≡ 0
no_net_lem t none = sum_zero (λ m. bit (t m)) largest_net (λ m i. bit_zero (none m i))

most_none : (n : ℕ) → most (λ c. 0) n ≡ 0
most_none n = let le = most_le (λ c. 0) n 0 (λ c i. omega arith) in omega arith

abbrev up_of : Problem → ℕ
up_of q = by_kind q.kind 0 0 0 (up (shape_of q) (pins_in q.pins)) 0

kind_of : {q : Problem} → Sound q → Known q.kind
kind_of {q} sound = known q.kind sound.good.kind

module _ {q : Problem} (sound : Sound q) where
  abbrev p : Pins
  p = pins_in q.pins

  abbrev g : Grid
  g = shape_of q

  -- their greatest

  columns_most : most (column_count q) q.n.0 ≡ across_of q
  unfolding column_count across box_across
  columns_most =
      let plain : ℕ → ℕ = λ c. nets (passes g p c) in
      kind_most (kind_of sound) plain plain (λ c. nets (box_passes g p c)) plain q.n.0

  tracks_most : most (track_count q) (width_of q) ≡ up_of q
  unfolding track_count up
  tracks_most =
      let none = most_none (width_of q) in
      kind_most (kind_of sound) (λ c. 0) (λ c. 0) (λ c. nets (box_passes_track g p c)) (λ c. 0) (width_of q)
      ∙ (λ i. by_kind q.kind 0 (none i) (none i) (up g p) (none i))

  -- each is a number of nets

  column_small : (c : ℕ) → column_count q c ≤ largest_net
  unfolding column_count
  column_small c =
      let plain = count_le (passes g p c) largest_net in
      of_kind (kind_of sound) (λ (x : ℕ). x ≤ largest_net) plain plain (count_le (box_passes g p c) largest_net) plain

  track_small : (c : ℕ) → track_count q c ≤ largest_net
  unfolding track_count
  track_small c =
      let none : 0 ≤ largest_net = omega arith in
      of_kind (kind_of sound) (λ (x : ℕ). x ≤ largest_net) none none (count_le (box_passes_track g p c) largest_net) none

  -- each is 0 where there are no pins

  no_pin_of : ((s : Side) (a : ℕ) → p s a ≡ 0) → (m : ℕ) → In m largest_net → (s : Side) (a : ℕ) → eqb (p s a) m ≡ false
  no_pin_of bare m i s a = ne_eqb (p s a) m (λ e. omega (arith, bare s a))

  no_column : ((s : Side) (a : ℕ) → p s a ≡ 0) → (c : ℕ) → column_count q c ≡ 0
  unfolding column_count
  no_column bare c =
      let none = no_pin_of bare in
      let plain = no_net_lem (passes g p c) (λ m i. not_passed g p m (none m i) (column_of g) c) in
      let boxed = no_net_lem (box_passes g p c) (λ m i. not_passed_box g p m (none m i) (column_of g) west east g.n c) in
      of_kind (kind_of sound) (λ (x : ℕ). x ≡ 0) plain plain boxed plain

  no_track : ((s : Side) (a : ℕ) → p s a ≡ 0) → (c : ℕ) → track_count q c ≡ 0
  unfolding track_count
  no_track bare c =
      let none = no_pin_of bare in
      let boxed = no_net_lem (box_passes_track g p c) (λ m i. not_passed_box g p m (none m i) (track_of g) south north g.w c) in
      of_kind (kind_of sound) (λ (x : ℕ). x ≡ 0) refl refl boxed refl

-- ---- what is stored

pub survey_is : {q : Problem} → Sound q → survey_of (bytes_of q) ≡ answered q (figures_of q) (filled (pins_in q.pins))
unfolding survey_of
survey_is {q} sound = ap surveyed (read_back q sound.good sound.sized)

module _ {q : Problem} {columns tracks : List ℕ} (sound : Sound q) (counted : Counted q columns tracks) where
  across_stored : stored_across columns ≡ across_of q
  unfolding stored_across
  across_stored =
      stored_most (entry columns) (column_count q) q.n.0 count_entries (omega (arith, sound.good.columns)) counted.column
      counted.past_columns
      ∙ columns_most sound

  up_stored : stored_up tracks ≡ up_of q
  unfolding stored_up
  up_stored =
      stored_most (entry tracks) (track_count q) (width_of q) count_entries (omega (arith, width_in sound.good)) counted.track
      counted.past_tracks
      ∙ tracks_most sound

  pub stored_across_lem : stored_across columns ≡ (survey_of (bytes_of q)).across
  unfolding figures_of
  stored_across_lem = across_stored ∙ sym (ap (λ a. a.across) (survey_is sound))

  pub stored_up_lem : stored_up tracks ≡ (survey_of (bytes_of q)).up
  unfolding figures_of
  stored_up_lem = up_stored ∙ sym (ap (λ a. a.up) (survey_is sound))

  pub stored_floor_lem : stored_floor q columns tracks ≡ (survey_of (bytes_of q)).floor.0
  unfolding figures_of stored_floor
  stored_floor_lem =
      let g = shape_of q in
      let p = pins_in q.pins in
      (λ i. by_kind q.kind 0 0 0 (floor (ceil (across_stored i) (width_of q)) (ceil (up_stored i) q.n.0)) 0)
      ∙ kind_floor (kind_of sound) (across g p) (box_across g p) (up g p) (width_of q) q.n.0
      ∙ sym (ap (λ a. a.floor.0) (survey_is sound))

  -- each stored figure counts nets
  pub count_small : (c : ℕ) → In c count_entries → (entry columns c ≤ largest_net) × (entry tracks c ≤ largest_net)
  count_small c i = (
    stored_small (entry columns) (column_count q) q.n.0 count_entries largest_net counted.column counted.past_columns
        (column_small sound) c i,
    stored_small (entry tracks) (track_count q) (width_of q) count_entries largest_net counted.track counted.past_tracks
        (track_small sound) c i,
  )

  pub across_small : stored_across columns ≤ largest_net
  unfolding stored_across
  across_small = most_le (entry columns) count_entries largest_net (λ c i. (count_small c i).0)

  pub up_small : stored_up tracks ≤ largest_net
  unfolding stored_up
  up_small = most_le (entry tracks) count_entries largest_net (λ c i. (count_small c i).1)

-- ---- a fresh board

pub start_counted : (kind n byte2 : ℕ) {columns tracks : List ℕ} → ((c : ℕ) → entry columns c ≡ 0) → ((c : ℕ) → entry tracks c ≡ 0)
    → Counted (start_problem kind n byte2) columns tracks
start_counted kind n byte2 columns tracks =
    let sound = start_sound kind n byte2 in
    let bare = start_bare kind n byte2 in
    record {
      column = λ c i. columns c ∙ sym (no_column sound bare c);
      track = λ c i. tracks c ∙ sym (no_track sound bare c);
      past_columns = λ c past i. columns c;
      past_tracks = λ c past i. tracks c;
    }
