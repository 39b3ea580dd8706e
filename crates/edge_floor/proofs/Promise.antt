-- Both floors of a box, from what the functions give; and what the answer promises, whatever the ticket.
use Prim.Native.Nat.{ℕ, suc, ◌≤◌}
use mathlib.Core.Path.{◌≡◌, refl, sym, ap, ap₂, ◌∙◌, subst}
use mathlib.Core.Logic.{◌≢◌, by_cases}
use mathlib.Core.Bool.{true}
use mathlib.Core.List.{List}
use native.Mathlib.Decide.{ℕ_discrete}
use native.Mathlib.Omega.{arith}
use borrow.Author.Tests.{eq-eqb, ne_eqb}
use Rattle.std.specs.Int.{div_ceil}
use Rattle.counting.specs.Counting.{In, ceil}
use Rattle.counting.proofs.Sums.{split}
use Rattle.counting.proofs.Counts.{most_le, count_le}
use Rattle.terms.specs.Kinds.{north, south, west, east, box, by_kind, layers_bound}
use Rattle.terms.specs.Limits.{largest_net, longest_side, table_sum}
use Rattle.terms.specs.Refusals.{refusal, accepted}
use Rattle.terms.proofs.Laws.{of_box, boxes_only, is_of_box}
use Rattle.grid.specs.Grid.{Grid, upright}
use Rattle.grid.specs.Legal.{Wiring, Legal, GridOf, entry}
use Rattle.density.specs.Density.{box_passes, box_passes_track, box_across, up, floor, floor_of}
use Rattle.density.specs.EdgeFloor.{edge_floor}
use Rattle.density.proofs.EdgeBounds.{no_fewer, floor_le}
use Rattle.problem.specs.declared.Problem.{Problem}
use Rattle.problem.specs.Problem.{Good, pins_in, shape_of, width_of}
use Rattle.problem.proofs.Sizes as sizes
use Rattle.problem.proofs.Sizes.{box_shape}
use Rattle.nets.specs.declared.Spans.{Spans}
use Rattle.nets.specs.Tables.{pin_count_to, first_held, last_held, NetTable, SpansOf}
use Rattle.figures.specs.declared.Figures.{Figures}
use Rattle.figures.specs.Figures.{figures_of}
use Rattle.figures.proofs.Bounds.{rounded_up}
use Rattle.ticket.specs.declared.Reading.{Reading}
use Rattle.ticket.specs.Read.{ticket_of}
use Rattle.ticket.proofs.Good.{reading_good}
use Rattle.survey.specs.Survey.{surveyed, survey_of}
use Rattle.edge_floor.specs.declared.EdgeFloorAnswer.{EdgeFloorAnswer}
use Rattle.edge_floor.specs.Needs.{EndsOf, MostNeed}
use Rattle.edge_floor.specs.Floors.{answered, refused, told, floors_of, TellsFloors}

-- ---- a good box; n and w are its length and width as the code has them

module _ {q : Problem} (good : Good q) (e : q.kind ≡ box) {n w : ℕ} (en : n ≡ q.n.0) (ew : w ≡ width_of q) where
  width : width_of q ≡ w
  width = sym ew

  pub length_in : In n longest_side
  length_in = rw en good.columns

  pub width_in : In w longest_side
  width_in = rw ew (sizes.width_in good)

  module _ (t : Spans) (tables : SpansOf q t) where
    -- the tables' sides, by the sizes that the code has
    tabled : (f : ℕ → ℕ → ℕ) (list : List ℕ) → NetTable (f (width_of q)) list → NetTable (f w) list
    tabled f list = subst (λ (v : ℕ). NetTable (f v) list) width

    tabled_long : (f : ℕ → ℕ → ℕ) (list : List ℕ) → NetTable (f q.n.0) list → NetTable (f n) list
    tabled_long f list = subst (λ (v : ℕ). NetTable (f v) list) (sym en)

    pub column_ends : EndsOf q.pins.west q.pins.east t.tracks.one t.tracks.two n w
    column_ends = record {
      columns = length_in;
      places = width_in.1;
      on_a = record { small = λ i. good.numbered west (suc i) };
      on_b = record { small = λ i. good.numbered east (suc i) };
      nears = tabled (pin_count_to (entry q.pins.west)) _ tables.tracks.one;
      fars = tabled (pin_count_to (entry q.pins.east)) _ tables.tracks.two;
    }

    pub track_ends : EndsOf q.pins.south q.pins.north t.columns.two t.columns.one w n
    track_ends = record {
      columns = width_in;
      places = length_in.1;
      on_a = record { small = λ i. good.numbered south (suc i) };
      on_b = record { small = λ i. good.numbered north (suc i) };
      nears = tabled_long (pin_count_to (entry q.pins.south)) _ tables.columns.two;
      fars = tabled_long (pin_count_to (entry q.pins.north)) _ tables.columns.one;
    }

    same_grid : {A : Type 0} (f : Grid → A) → f (upright n w 1) ≡ f (shape_of q)
    same_grid f = ap₂ (λ (a b : ℕ). f (upright a b 1)) en (sym width)

    pub across_is : {a : ℕ} → a ≡ (figures_of q).across → a ≡ box_across (upright n w 1) (pins_in q.pins)
    unfolding figures_of
    across_is h = h ∙ of_box q.kind 0 _ _ _ _ e ∙ sym (same_grid (λ g. box_across g (pins_in q.pins)))

    pub up_is : {a : ℕ} → a ≡ (figures_of q).up → a ≡ up (upright n w 1) (pins_in q.pins)
    unfolding figures_of
    up_is h = h ∙ of_box q.kind 0 0 0 _ 0 e ∙ sym (same_grid (λ g. up g (pins_in q.pins)))

    pub across_few : {a : ℕ} → a ≡ (figures_of q).across → a ≤ table_sum
    unfolding box_across
    across_few h = let g = upright n w 1 in let p = pins_in q.pins in
        omega (arith, across_is h, most_le _ n largest_net (λ c i. count_le (box_passes g p c) largest_net))

    pub up_few : {a : ℕ} → a ≡ (figures_of q).up → a ≤ table_sum
    unfolding up
    up_few h = let g = upright n w 1 in let p = pins_in q.pins in
        omega (arith, up_is h, most_le _ w largest_net (λ c i. count_le (box_passes_track g p c) largest_net))

    module _ {f : Figures} (figures : f ≡ figures_of q) {columns tracks : ℕ}
        (c : MostNeed q.pins.west q.pins.east t.columns.first t.columns.last t.tracks.one t.tracks.two n w
        f.across columns)
        (d : MostNeed q.pins.south q.pins.north t.tracks.first t.tracks.last t.columns.two t.columns.one w n
        f.up tracks)
      where
        edge_is : floor (ceil columns w) (ceil tracks n) ≡ edge_floor (shape_of q) (pins_in q.pins)
        edge_is =
            let p = q.pins in
            let a = c.columns p.north p.south
            (tabled_long (first_held (entry p.north) (entry p.south)) _ tables.columns.first)
            (tabled_long (last_held (entry p.north) (entry p.south)) _ tables.columns.last)
            (across_is (ap (λ f. f.across) figures)) in
            let b = d.tracks p.west p.east (tabled (first_held (entry p.west) (entry p.east)) _ tables.tracks.first)
            (tabled (last_held (entry p.west) (entry p.east)) _ tables.tracks.last) (up_is (ap (λ f. f.up) figures)) in
            ap₂ floor (ap (λ (x : ℕ). ceil x w) a) (ap (λ (x : ℕ). ceil x n) b) ∙ same_grid (λ g. edge_floor g (pins_in p))

        rounded : floor (div_ceil columns w) (div_ceil tracks n) ≡ floor (ceil columns w) (ceil tracks n)
        rounded = ap₂ floor (rounded_up columns w width_in.0) (rounded_up tracks n length_in.0)

        pub box_answered : {x : ℕ} → x ≡ floor (div_ceil columns w) (div_ceil tracks n)
            → record { refusal = refusal 0 0; floor = f.floor; edge = record { 0 = x } } ≡ answered q
        box_answered {x} h =
            let edge : x ≡ by_kind q.kind 0 0 0 (edge_floor (shape_of q) (pins_in q.pins)) 0 =
            h ∙ rounded ∙ edge_is ∙ sym (of_box q.kind 0 0 0 _ 0 e) in
            λ i. record { refusal = refusal 0 0; floor = (figures i).floor; edge = record { 0 = edge i } }

-- ---- every answer

-- a kind that is no box has neither floor
pub no_box : (q : Problem) → q.kind ≢ box → refused (refusal 0 0) ≡ answered q
unfolding figures_of
no_box q ne = λ i. record {
  refusal = refusal 0 0;
  floor = record { 0 = sym (boxes_only q.kind 0 (floor_of (shape_of q) (pins_in q.pins)) ne) i };
  edge = record { 0 = sym (boxes_only q.kind 0 (edge_floor (shape_of q) (pins_in q.pins)) ne) i };
}

by_kind_le : (kind : ℕ) {a b : ℕ} → a ≤ b → by_kind kind 0 0 0 a 0 ≤ by_kind kind 0 0 0 b 0
by_kind_le kind {a} {b} h = by_cases (ℕ_discrete kind box)
    (λ e. omega (arith, of_box kind 0 0 0 a 0 e, of_box kind 0 0 0 b 0 e))
    (λ ne. omega (arith, boxes_only kind 0 a ne, boxes_only kind 0 b ne))

module _ (t : Reading) where
  demanded : (told t).floor ≡ (surveyed t).floor
  demanded = split (accepted t.refusal) (λ e. rw e refl) (λ e. rw e refl)

  sharper : (told t).floor.0 ≤ (told t).edge.0
  unfolding figures_of
  sharper = split (accepted t.refusal)
      (λ e. rw e (by_kind_le t.problem.kind (floor_le (shape_of t.problem) (pins_in t.problem.pins))))
      (λ e. rw e (omega arith))

  lowest : (t.refusal.number ≡ 0 → Good t.problem) → (told t).refusal.number ≡ 0 → let q = t.problem in layers_bound q.kind ≡ true
      → (g : Grid) (x : Wiring) → GridOf q.kind q.n.0 q.byte2 g → Legal g (pins_in q.pins) x → (told t).edge.0 ≤ g.k
  lowest good z b g x d y = by_cases (ℕ_discrete t.refusal.number 0)
      (λ e. let q = t.problem in
      let k = is_of_box q.kind b in
      rw (eq-eqb _ _ e, of_box q.kind 0 0 0 (edge_floor (shape_of q) (pins_in q.pins)) 0 k)
      (no_fewer (pins_in q.pins) x (box_shape (good e) k) (subst (λ (v : ℕ). GridOf v q.n.0 q.byte2 g) k d) (good e).several y))
      (λ ne. absurd (ne (rw (ne_eqb _ _ ne) at z)))

pub promised : (s : List ℕ) → TellsFloors s (floors_of s)
unfolding floors_of survey_of
promised s = record {
  answer = refl;
  demanded = demanded (ticket_of s);
  sharper = sharper (ticket_of s);
  lowest = lowest (ticket_of s) (reading_good s refl);
}

-- ---- what was read, and the answer to it

module _ (s : List ℕ) {t : Reading} {r : EdgeFloorAnswer} (read : t ≡ ticket_of s) where
  tells : r ≡ told t → TellsFloors s r
  unfolding floors_of
  tells e = subst (TellsFloors s) (sym (e ∙ ap told read)) (promised s)

  pub tells_refused : t.refusal.number ≢ 0 → r ≡ refused t.refusal → TellsFloors s r
  tells_refused ne e = tells (e ∙ rw (ne_eqb _ _ ne) refl)

  pub tells_good : t.refusal.number ≡ 0 → r ≡ answered t.problem → TellsFloors s r
  tells_good z e = tells (e ∙ rw (eq-eqb _ _ z) refl)
