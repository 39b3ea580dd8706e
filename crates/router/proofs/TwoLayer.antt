-- A good problem of a two-layer channel is one that the laws of two-layer channels speak of: so a solid one has no wiring, and every other
-- has few tracks.
use Prim.Native.Nat.{ℕ, ◌*◌, ◌≤◌, ◌<◌}
use mathlib.Core.Path.{◌≡◌, refl, sym, ap, ap₂, ◌∙◌, subst}
use mathlib.Core.Logic.{◌⊎◌, inl, inr, ◌≢◌}
use mathlib.Core.Bool.{true, false}
use Rattle.std.specs.Option.{is_none}
use mathlib.Core.List.{List}
use native.Mathlib.Omega.{arith}
use Rattle.counting.specs.Counting.{In}
use Rattle.terms.specs.Kinds.{Side, north, south, west, east, two_layer, has_side}
use Rattle.terms.specs.Limits.{widest_grid}
use Rattle.grid.specs.Grid.{Grid, pin, places, upright}
use Rattle.grid.specs.Legal.{Pins, Wiring, Legal, GridOf, column_pins}
use Rattle.grid.specs.Laid.{Laid}
use Rattle.problem.specs.declared.Problem.{Problem}
use Rattle.problem.specs.Problem.{pins_in, shape_of, Another, Good}
use Rattle.figures.specs.declared.Figures.{Figures}
use Rattle.figures.specs.Figures.{figures_of}
use Rattle.two_layer_law.specs.Solid.{solid}
use Rattle.two_layer_law.specs.Cuts.{op_tracks}
use Rattle.two_layer_law.specs.Moves.{solid_test, width_for}
use Rattle.two_layer_law.specs.Channels.{Channel}
use Rattle.two_layer_law.proofs.Solidity.{solid_test_lem}
use Rattle.two_layer_law.proofs.Unwired.{unwired}
use Rattle.two_layer_law.specs.Channels.{Several}
use Rattle.two_layer_law.proofs.Planning.{few_tracks}
use Rattle.two_layer_plan.specs.declared.Plan.{Plan}
use Rattle.two_layer_plan.specs.Plan.{Planned}
use Rattle.two_layer_plan.proofs.Promise.{solid_told}
use Rattle.two_layer.specs.Given.{from_north, from_south, Layable}
use Rattle.two_layer.proofs.Laying.{width}
use Rattle.router.specs.Lay.{laid_width, needed, laid_answer, laid_grid}
use Rattle.router.proofs.Laws.{same_grid, laid_in, two_sided, two_layer_tracks, two_layer_layers, two_layer_first}

module _ (q : Problem) (good : Good q) (two : q.kind ≡ two_layer) where
  abbrev p : Pins
  p = pins_in q.pins

  abbrev n : ℕ
  n = q.n.0

  bare_west : (a : ℕ) → p west a ≡ 0
  bare_west = good.bare west (ap (λ (k : ℕ). has_side k west) two)

  bare_east : (a : ℕ) → p east a ≡ 0
  bare_east = good.bare east (ap (λ (k : ℕ). has_side k east) two)

  ends : (s : Side) (a : ℕ) → n < a → p s a ≡ 0
  ends north a h = good.ends north a h
  ends south a h = good.ends south a h
  ends west a h = bare_west a
  ends east a h = bare_east a

  blank : (s : Side) → p s 0 ≡ 0
  blank north = refl
  blank south = refl
  blank west = refl
  blank east = refl

  pub channel_of : Channel n p
  channel_of = record {
    bare_west = bare_west;
    bare_east = bare_east;
    numbered = good.numbered;
    ends = ends;
    columns = good.columns;
    blank = blank;
  }

  -- another pin of a net is on the same side or on the other
  other : (s : Side) (c : ℕ) → p s c ≢ 0 → Another (shape_of q) p s c
      → ((d : ℕ) × In d n × (pin north d ≢ pin s c) × (p north d ≡ p s c))
      ⊎ ((d : ℕ) × In d n × (pin south d ≢ pin s c) × (p south d ≡ p s c))
  other s c nz o = by_side o.side o.place o.on o.net o.different
    where
      by_side : (t : Side) (d : ℕ) → In d (places (shape_of q) t) → p t d ≡ p s c → pin t d ≢ pin s c
          → ((d : ℕ) × In d n × (pin north d ≢ pin s c) × (p north d ≡ p s c))
          ⊎ ((d : ℕ) × In d n × (pin south d ≢ pin s c) × (p south d ≡ p s c))
      by_side north d i e ne = inl (d, i, ne, e)
      by_side south d i e ne = inr (d, i, ne, e)
      by_side west d i e ne = absurd (nz (sym e ∙ bare_west d))
      by_side east d i e ne = absurd (nz (sym e ∙ bare_east d))

  pub several_norths : Several n (p north) (p south)
  several_norths = record {
    again = λ c i nz. elim (other north c nz (good.several north c nz)) [
      | inl (d, j, ne, e) ↦ inl (d, j, λ z. ne (ap (pin north) z), e)
      | inr (d, j, ne, e) ↦ inr (d, j, e)
    ];
  }

  pub several_souths : Several n (p south) (p north)
  several_souths = record {
    again = λ c i nz. elim (other south c nz (good.several south c nz)) [
      | inl (d, j, ne, e) ↦ inr (d, j, e)
      | inr (d, j, ne, e) ↦ inl (d, j, λ z. ne (ap (pin south) z), e)
    ];
  }

  pub solid_is : solid p n ≡ solid_test (p north) (p south) n
  solid_is = solid_test_lem n p channel_of

  pub no_wiring : solid p n ≡ true → (g : Grid) (x : Wiring) → GridOf two_layer n 0 g → g.k ≡ 2 → ¬ (Legal g p x)
  no_wiring e g x d k = unwired n p g x channel_of e d.length d.tracks k

  pub few : solid p n ≡ false → 4 * width_for (p north) (p south) n ≤ 7 * n
  few e = few_tracks channel_of (sym solid_is ∙ e)

  pub some_track : 1 ≤ width_for (p north) (p south) n
  unfolding width_for
  some_track = omega arith

  pub narrow : solid p n ≡ false → width_for (p north) (p south) n ≤ widest_grid
  narrow e = omega (arith, few e, good.columns)

  -- what is computed from the plan is what the answer says
  module _ {plan : Plan} (found : Planned (p north) (p south) n plan) where
    pub solid_found : is_none plan.moves ≡ solid p n
    solid_found = solid_told found ∙ sym solid_is

    module _ (moved : is_none plan.moves ≡ false) where
      pub wirable : solid p n ≡ false
      wirable = sym solid_found ∙ moved

      pub given : Layable q.pins.north q.pins.south n plan
      given = record {
        channel = subst (Channel n) (sym (two_sided q bare_west bare_east)) channel_of;
        several_norths = several_norths;
        several_souths = several_souths;
        planned = found;
        wirable = sym solid_is ∙ wirable;
      }

      pub tracks_laid : (w : ℕ) → w ≡ op_tracks (from_north plan) (from_south plan) → w ≡ width_for (p north) (p south) n
      tracks_laid w e = e ∙ width given

  module _ (w : ℕ) (e : w ≡ width_for (p north) (p south) n) (f : Figures) (same : f ≡ figures_of q) where
    pub two_layers : f.layers.0 ≡ 2
    two_layers = ap (λ (u : Figures). u.layers.0) same ∙ two_layer_layers q two

    pub width_laid : w ≡ laid_width q
    width_laid = e ∙ sym (two_layer_tracks q two)

    pub size_needed : (size : ℕ) → size ≡ n * w * f.layers.0 → size ≡ needed q
    size_needed size h = h ∙ ap₂ (λ (u v : ℕ). n * u * v) width_laid (ap (λ (u : Figures). u.layers.0) same)

    pub laid_there : {before after : List ℕ} → Laid (upright n w 2) (column_pins q.pins.north q.pins.south) before after
        → Laid (laid_grid (laid_answer q)) p before after
    laid_there {before} {after} y =
        laid_in (same_grid n width_laid (sym (two_layer_layers q two)) (sym (two_layer_first q two)))
        (subst (λ (u : Pins). Laid (upright n w 2) u before after) (two_sided q bare_west bare_east) y)
