-- The operations that were found for a channel fit the arrays and the grid, and what they draw is legal, by the laws of two-layer channels.
use Prim.Native.Nat.{ℕ, ◌≤◌}
use mathlib.Core.Path.{◌≡◌, refl, sym, ◌∙◌, subst}
use mathlib.Core.Bool.{false≢true}
use mathlib.Core.List.{List}
use Rattle.std.specs.Prelude.{Option, None, Some}
use native.Mathlib.Omega.{arith}
use Rattle.terms.specs.Limits.{widest_grid}
use Rattle.grid.specs.Grid.{upright}
use Rattle.grid.specs.Legal.{Legal, entry, wiring_of, column_pins}
use Rattle.grid.specs.Laid.{Laid}
use Rattle.two_layer_law.specs.Cuts.{Ops, Same, Consistent, op_tracks}
use Rattle.two_layer_law.specs.Moves.{leads, Gathered, start_of, moves_of, most_moves, moves, width_for}
use Rattle.two_layer_law.proofs.Legality.{consistent_legal}
use Rattle.two_layer_law.proofs.Moving.{Brought, moving}
use Rattle.two_layer_law.proofs.Gathering.{gathered_runs}
use Rattle.two_layer_law.proofs.Planning.{movable, few_wrong, few_tracks, width_is, planned}
use Rattle.two_layer_cuts.specs.declared.list.Operations.{Operations}
use Rattle.two_layer_cuts.specs.Rows.{operations_in, ops_of}
use Rattle.two_layer_plan.specs.declared.Plan.{Plan}
use Rattle.two_layer_plan.specs.Plan.{MovesFound}
use Rattle.two_layer.specs.Drawing.{OpsFit, ChannelDrawn}
use Rattle.two_layer.specs.Given.{moves_in, from_north, from_south, Layable}

gathered_fits : {a b : ℕ → ℕ} {n : ℕ} {o : Ops} → Gathered a b n o → OpsFit n o
gathered_fits {a} {b} {n} {o} g = let r = gathered_runs g in record {
  column = r.column;
  ends = r.ends;
}

module _ {N S : List ℕ} {n : ℕ} {plan : Plan} (given : Layable N S n plan) where
  abbrev a : ℕ → ℕ
  a = entry N

  abbrev b : ℕ → ℕ
  b = entry S

  same : Same (ops_of (moves_in plan.moves)) (moves_of n (leads b a n) (start_of a b n) (moves a b n))
  same = found plan.moves given.planned.moves
    where
      found : (made : Option Operations) → MovesFound a b n made
          → Same (ops_of (moves_in made)) (moves_of n (leads b a n) (start_of a b n) (moves a b n))
      found None solid = absurd (false≢true (sym given.wirable ∙ solid))
      found (Some made) is = is.1

  made : Brought n (leads b a n) (start_of a b n) (moves a b n)
  unfolding moves
  made = moving n (leads b a n) (start_of a b n) most_moves (movable a b n refl given.wirable)
      (few_wrong a b n given.channel.columns.1)

  pub fits_norths : OpsFit n (ops_of (operations_in plan.norths))
  fits_norths = gathered_fits given.planned.norths

  pub fits_souths : OpsFit n (ops_of (operations_in plan.souths))
  fits_souths = gathered_fits given.planned.souths

  pub fits_moves : OpsFit n (ops_of (moves_in plan.moves))
  fits_moves = record {
    column = λ s h. subst (λ (t : ℕ). t ≤ n) (sym (same.tos s h)) (made.runs.column s (omega (arith, same.many)));
    ends = λ s h. let e = made.runs.ends s (omega (arith, same.many)) in (
      subst (λ (t : ℕ). 1 ≤ t) (sym (same.lows s h)) e.0,
      subst (λ (t : ℕ). t ≤ n) (sym (same.highs s h)) e.1,
    );
  }

  pub width : op_tracks (from_north plan) (from_south plan) ≡ width_for a b n
  width = width_is a b given.planned.norths same given.planned.souths

  pub narrow : width_for a b n ≤ widest_grid
  narrow = omega (arith, few_tracks given.channel given.wirable, given.channel.columns)

  consistent : Consistent n (column_pins N S) (from_north plan) (from_south plan)
  consistent = planned given.channel given.wirable given.planned.norths same given.planned.souths given.several_norths
      given.several_souths

  pub painted_legal : (w : ℕ) {before after : List ℕ} → w ≡ width_for a b n
      → ChannelDrawn N S n w (from_north plan) (from_south plan) before after
      → Laid (upright n w 2) (column_pins N S) before after
  painted_legal w {before} {after} e y = record {
    legal = subst (λ (u : ℕ). Legal (upright n u 2) (column_pins N S) (wiring_of (upright n w 2) after)) (width ∙ sym e)
        (consistent_legal given.channel.bare_west given.channel.bare_east consistent y.drawn);
    long = y.long;
    others = y.others;
  }
