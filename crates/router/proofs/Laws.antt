-- From what the drawing crates promise to what Lay promises: the grid that the answer speaks of is the one that is drawn, and its tracks
-- and floor are those that no rival beats.
use Prim.Native.Nat.{ℕ, zero, suc, ◌+◌, ◌*◌, ◌/◌, ◌≤◌, max, min}
use mathlib.Core.Path.{◌≡◌, refl, sym, ap, ap₂, ◌∙◌, subst, subst₂, fun_ext}
use mathlib.Core.Logic.{◌≢◌}
use mathlib.Core.Bool.{Bool, true, false, false≢true}
use mathlib.Core.List.{List, []}
use native.Mathlib.Omega.{arith}
use native.Mathlib.Decide.{ℕ_discrete}
use native.Mathlib.Nat.{mul_comm, mul-le-mul_left, mul-le-mul_right}
use lib.Dec.{ltb}
use lib.ListN.{length, get_or}
use Rattle.counting.specs.Counting.{In, ceil, bit}
use Rattle.counting.proofs.Counts.{ceil_le, round_up}
use Rattle.terms.specs.Kinds.{Side, north, south, west, east, row, channel, box, two_layer, is_kind, has_side, largest_byte2, layers_for}
use Rattle.terms.proofs.Laws.{Known, is_row, is_channel, is_box, is_two_layer, known}
use Rattle.terms.proofs.Laws.{Thin, thin_row, thin_channel, of_thin, of_box, of_two_layer, two_layers_only, no_west, no_east}
use Rattle.grid.specs.Grid.{Grid, upright}
use Rattle.terms.specs.Limits.{longest_side, most_layers, most_trunk_layers}
use Rattle.grid.specs.Legal.{Pins, Wiring, Legal, GridOf, entry, column_pins}
use Rattle.grid.proofs.Sizes.{Sized}
use Rattle.density.specs.Density.{across, horizontals, tracks_for, floor_of}
use Rattle.density.proofs.Layers.{horizontals_are}
use Rattle.density.proofs.Free.{across_free}
use Rattle.density.proofs.Bounds.{narrowest, lowest}
use Rattle.problem.specs.declared.Problem.{Problem}
use Rattle.problem.specs.Problem.{pins_in, width_of, shape_of, Good}
use Rattle.problem.proofs.Sizes.{box_shape}
use Rattle.figures.specs.declared.Figures.{Figures}
use Rattle.figures.specs.Figures.{tracks_of, figures_of}
use Rattle.grid.specs.Laid.{Laid}
use Rattle.channel.specs.Given.{Given}
use Rattle.switchbox.specs.Wired.{box_layers, box_grid, BoxPins}
use Rattle.router.specs.Lay.{first_of, laid_width, needed, is_solid, laid_answer, laid_grid}
use Rattle.two_layer_law.specs.Solid.{solid}
use Rattle.two_layer_law.specs.Moves.{width_for}
use Rattle.router.proofs.Few.{across_few}

abbrev pub sized : ℕ → ℕ → ℕ → Bool → Grid
sized n w k first = record { n = n; w = w; k = k; first = first }

pub same_grid : (n : ℕ) {w w' k k' : ℕ} {b b' : Bool} → w ≡ w' → k ≡ k' → b ≡ b' → sized n w k b ≡ sized n w' k' b'
same_grid n {w} {w'} {k} {k'} {b} {b'} e f h =
    ap (λ (u : ℕ). sized n u k b) e ∙ ap (λ (u : ℕ). sized n w' u b) f ∙ ap (λ (u : Bool). sized n w' k' u) h

-- a wiring that is laid in the grid that the answer speaks of
pub laid_in : {g h : Grid} {p : Pins} {before after : List ℕ} → g ≡ h → Laid g p before after → Laid h p before after
laid_in {p = p} {before = before} {after = after} e y = subst (λ (u : Grid). Laid u p before after) e y

module _ (q : Problem) where
  abbrev kind : ℕ
  kind = q.kind

  abbrev n : ℕ
  n = q.n.0

  abbrev byte2 : ℕ
  byte2 = q.byte2

  abbrev p : Pins
  p = pins_in q.pins

  abbrev tracks : ℕ
  tracks = laid_width q

  abbrev layers : ℕ
  layers = (figures_of q).layers.0

  -- ---- the figures, kind by kind

  -- without side nets
  abbrev thin_across : ℕ
  thin_across = across (shape_of q) p

  thin_tracks : Thin kind → tracks ≡ tracks_for byte2 thin_across
  unfolding figures_of
  thin_tracks h =
      of_thin h 0 (figures_of q).w.0 _ _ ∙ of_thin h 0 (tracks_of q) byte2 0 ∙ ap (tracks_for byte2) (of_thin h 0 thin_across _ thin_across)

  row_layers : kind ≡ row → layers ≡ 2 * byte2
  unfolding figures_of
  row_layers e = ap (λ (k : ℕ). layers_for k n byte2) e

  channel_layers : kind ≡ channel → layers ≡ 2 * byte2 + 1
  unfolding figures_of
  channel_layers e = ap (λ (k : ℕ). layers_for k n byte2) e

  box_tracks : kind ≡ box → tracks ≡ byte2
  unfolding figures_of
  box_tracks e = of_box kind 0 _ _ (figures_of q).w.0 _ e ∙ of_box kind 0 (tracks_of q) (tracks_of q) byte2 0 e

  box_layers_lem : kind ≡ box → layers ≡ box_layers n byte2
  unfolding figures_of
  box_layers_lem e = ap (λ (k : ℕ). layers_for k n byte2) e

  box_floor : kind ≡ box → (figures_of q).floor.0 ≡ floor_of (shape_of q) p
  unfolding figures_of
  box_floor e = of_box kind 0 0 0 (floor_of (shape_of q) p) 0 e

  thin_first : Thin kind → first_of q ≡ false
  thin_first h = of_thin h false false (ltb n byte2) false

  box_first : kind ≡ box → first_of q ≡ ltb n byte2
  box_first e = of_box kind false false false (ltb n byte2) false e

  box_width_lem : kind ≡ box → width_of q ≡ byte2
  box_width_lem e = of_box kind 1 1 1 byte2 1 e

  -- without west and east pins the pins are those of the two sides along the columns
  pub two_sided : ((a : ℕ) → p west a ≡ 0) → ((a : ℕ) → p east a ≡ 0) → column_pins q.pins.north q.pins.south ≡ p
  two_sided bw be = fun_ext each
    where
      none : (s : ℕ) → entry [] s ≡ 0
      none zero = refl
      none (suc s) = refl

      each : (s : Side) → column_pins q.pins.north q.pins.south s ≡ p s
      each north = refl
      each south = refl
      each west = fun_ext (λ a. none a ∙ sym (bw a))
      each east = fun_ext (λ a. none a ∙ sym (be a))

  -- every kind but one has its tracks among its figures, and none of these is solid
  pub figures_width : is_kind kind ≡ true → kind ≢ two_layer → tracks ≡ (figures_of q).w.0
  figures_width e other = by_kind_lem (known kind e) refl
    where
      by_kind_lem : {k : ℕ} → Known k → kind ≡ k → tracks ≡ (figures_of q).w.0
      by_kind_lem is_row e = of_thin (subst Thin (sym e) thin_row) 0 (figures_of q).w.0 _ _
      by_kind_lem is_channel e = of_thin (subst Thin (sym e) thin_channel) 0 (figures_of q).w.0 _ _
      by_kind_lem is_box e = of_box kind 0 _ _ (figures_of q).w.0 _ e
      by_kind_lem is_two_layer e = absurd (other e)

  pub never_solid : kind ≢ two_layer → is_solid q ≡ false
  never_solid other = two_layers_only kind false _ other

  pub solid_kind : is_solid q ≡ true → kind ≡ two_layer
  solid_kind e = elim (ℕ_discrete kind two_layer) [ yes t ↦ t | no t ↦ absurd (false≢true (sym (never_solid t) ∙ e)) ]

  -- ---- two-layer channels

  pub two_layer_solid : kind ≡ two_layer → is_solid q ≡ solid p n
  two_layer_solid e = of_two_layer kind false false false false _ e

  pub two_layer_tracks : kind ≡ two_layer → tracks ≡ width_for (p north) (p south) n
  two_layer_tracks e = of_two_layer kind 0 _ _ _ _ e

  pub two_layer_layers : kind ≡ two_layer → layers ≡ 2
  unfolding figures_of
  two_layer_layers e = ap (λ (k : ℕ). layers_for k n byte2) e

  pub two_layer_first : kind ≡ two_layer → first_of q ≡ false
  two_layer_first e = of_two_layer kind false _ _ _ false e

  module _ (good : Good q) where
    -- ---- the sizes are those of a grid that the calls take

    trunks : Thin kind → In byte2 most_trunk_layers
    trunks h = small h good.byte2
      where
        small : {k : ℕ} → Thin k → In byte2 (largest_byte2 k) → In byte2 most_trunk_layers
        small thin_row i = i
        small thin_channel i = i

    width : kind ≡ box → In byte2 longest_side
    width e = subst (λ (k : ℕ). In byte2 (largest_byte2 k)) e good.byte2

    bare_west : Thin kind → (a : ℕ) → p west a ≡ 0
    bare_west h = good.bare west (no_west h)

    bare_east : Thin kind → (a : ℕ) → p east a ≡ 0
    bare_east h = good.bare east (no_east h)

    thin_size : Thin kind → In tracks longest_side
    unfolding tracks_for
    thin_size h =
        let a : thin_across ≤ longest_side = omega (arith, across_few q good h, good.columns) in
        let c = ceil_le thin_across byte2 longest_side (omega (arith, mul-le-mul_right longest_side (trunks h).0)) in
        omega (arith, thin_tracks h)

    box_high : kind ≡ box → In layers most_layers
    box_high e =
        let w = width e in
        let r = ceil_le (max n byte2) (min n byte2) longest_side (omega (arith, good.columns, mul-le-mul_right longest_side (low w))) in
        omega (arith, box_layers_lem e)
      where
        low : In byte2 longest_side → 1 ≤ min n byte2
        low w = omega (arith, good.columns)

    -- what is computed from the figures is what the answer says
    module _ (other : kind ≢ two_layer) (f : Figures) (same : f ≡ figures_of q) where
      pub width_laid : f.w.0 ≡ tracks
      width_laid = ap (λ (u : Figures). u.w.0) same ∙ sym (figures_width good.kind other)

      pub size_needed : (size : ℕ) → size ≡ n * f.w.0 * f.layers.0 → size ≡ needed q
      size_needed size h = h ∙ ap₂ (λ (u v : ℕ). n * u * v) width_laid (ap (λ (u : Figures). u.layers.0) same)

    pub sizes : kind ≢ two_layer → Sized n tracks layers
    sizes other = by_kind_lem (known kind good.kind) refl
      where
        by_kind_lem : {k : ℕ} → Known k → kind ≡ k → Sized n tracks layers
        by_kind_lem is_row e =
            let h = subst Thin (sym e) thin_row in
            record { long = good.columns; wide = omega (arith, thin_size h); high = omega (arith, row_layers e, trunks h) }
        by_kind_lem is_channel e =
            let h = subst Thin (sym e) thin_channel in
            record { long = good.columns; wide = omega (arith, thin_size h); high = omega (arith, channel_layers e, trunks h) }
        by_kind_lem is_box e = record { long = good.columns; wide = omega (arith, box_tracks e, width e); high = box_high e }
        by_kind_lem is_two_layer e = absurd (other e)

    -- ---- rows and channels

    sides : Thin kind → column_pins q.pins.north q.pins.south ≡ p
    sides h = two_sided (bare_west h) (bare_east h)

    fits : Thin kind → (k : ℕ) → across (upright n tracks k) (column_pins q.pins.north q.pins.south) ≤ byte2 * tracks
    unfolding tracks_for
    fits h k =
        let a = across_free (upright n tracks k) (shape_of q) p refl (bare_west h) (bare_east h) in
        let r = round_up thin_across byte2 (trunks h).0 in
        let m = mul-le-mul_left {m = ceil thin_across byte2} {n = tracks} byte2 (omega (arith, thin_tracks h)) in
        rw (sides h, a) (omega (arith, mul_comm byte2 (ceil thin_across byte2)))

    module _ (w : ℕ) (same : w ≡ tracks) (wiring : List ℕ) (room : needed q ≤ length wiring) where
      drawable : (k : ℕ) → Thin kind → layers ≡ k → Given q.pins.north q.pins.south n w byte2 k wiring
      drawable k h e = subst (λ (u : ℕ). Given q.pins.north q.pins.south n u byte2 k wiring) (sym same) (record {
        columns = good.columns;
        tracks = thin_size h;
        trunks = trunks h;
        norths = λ a. good.numbered north (suc a);
        souths = λ a. good.numbered south (suc a);
        passed = fits h k;
        room = subst (λ (u : ℕ). n * tracks * u ≤ length wiring) e room;
      })

      pub given_row : kind ≡ row → Given q.pins.north q.pins.south n w byte2 (2 * byte2) wiring × ((a : ℕ) → get_or q.pins.south a 0 ≡ 0)
      given_row e = (
        drawable (2 * byte2) (subst Thin (sym e) thin_row) (row_layers e),
        λ a. good.bare south (ap (λ (k : ℕ). has_side k south) e) (suc a),
      )

      pub given_channel : kind ≡ channel → Given q.pins.north q.pins.south n w byte2 (2 * byte2 + 1) wiring
      given_channel e = drawable (2 * byte2 + 1) (subst Thin (sym e) thin_channel) (channel_layers e)

      pub given_box : kind ≡ box → BoxPins q.pins.north q.pins.south q.pins.west q.pins.east n w wiring
      given_box e = record {
        long = good.columns;
        wide = rw (same ∙ box_tracks e) (width e);
        norths = λ i h. good.numbered north (suc i);
        souths = λ i h. good.numbered south (suc i);
        wests = λ j h. good.numbered west (suc j);
        easts = λ j h. good.numbered east (suc j);
        room = subst₂ (λ (u v : ℕ). n * u * v ≤ length wiring) (sym same)
            (box_layers_lem e ∙ ap (box_layers n) (sym (same ∙ box_tracks e))) room;
      }

      pub box_wide : kind ≡ box → w ≡ width_of q
      box_wide e = same ∙ box_tracks e ∙ sym (box_width_lem e)

    module _ (w : ℕ) (same : w ≡ tracks) {before after : List ℕ} where
      thin_laid : (k : ℕ) → Thin kind → layers ≡ k → Laid (upright n w k) (column_pins q.pins.north q.pins.south) before after
          → Laid (laid_grid (laid_answer q)) p before after
      thin_laid k h e y =
          laid_in (same_grid n same (sym e) (sym (thin_first h))) (subst (λ (u : Pins). Laid (upright n w k) u before after) (sides h) y)

      pub row_laid : kind ≡ row → Laid (upright n w (2 * byte2)) (column_pins q.pins.north q.pins.south) before after
          → Laid (laid_grid (laid_answer q)) p before after
      row_laid e = thin_laid (2 * byte2) (subst Thin (sym e) thin_row) (row_layers e)

      pub channel_laid : kind ≡ channel → Laid (upright n w (2 * byte2 + 1)) (column_pins q.pins.north q.pins.south) before after
          → Laid (laid_grid (laid_answer q)) p before after
      channel_laid e = thin_laid (2 * byte2 + 1) (subst Thin (sym e) thin_channel) (channel_layers e)

      pub box_laid : kind ≡ box → Laid (box_grid n w) p before after → Laid (laid_grid (laid_answer q)) p before after
      box_laid e y =
          let b : w ≡ byte2 = same ∙ box_tracks e in
          laid_in (same_grid n same (ap (box_layers n) b ∙ sym (box_layers_lem e)) (ap (ltb n) b ∙ sym (box_first e))) y

    -- ---- against every rival

    pub flat : Thin kind → horizontals (laid_grid (laid_answer q)) ≡ byte2
    flat h = horizontals_are (laid_grid (laid_answer q)) ∙ ap (λ (b : Bool). (layers + bit b) / 2) (thin_first h) ∙ half h refl
      where
        half : {k : ℕ} → Thin k → kind ≡ k → (layers + 0) / 2 ≡ byte2
        half thin_row e = omega (arith, row_layers e)
        half thin_channel e = omega (arith, channel_layers e)

    pub no_narrower : Thin kind → (g : Grid) (x : Wiring) → GridOf kind n tracks g → Legal g p x → horizontals g ≤ byte2 → tracks ≤ g.w
    no_narrower h g x d y few =
        subst (λ (u : ℕ). u ≤ g.w) (sym (thin_tracks h))
        (narrowest (shape_of q) g byte2 p x (sym d.length) d.tracks (bare_west h) (bare_east h) y few)

    pub no_lower : kind ≡ box → (g : Grid) (x : Wiring) → GridOf kind n tracks g → Legal g p x → (figures_of q).floor.0 ≤ g.k
    no_lower e g x d y = subst (λ (u : ℕ). u ≤ g.k) (sym (box_floor e)) (lowest p x (box_shape good e) rival good.several y)
      where
        rival : GridOf box n byte2 g
        rival = subst₂ (λ (k u : ℕ). GridOf k n u g) e (box_tracks e) d
