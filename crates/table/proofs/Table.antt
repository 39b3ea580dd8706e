-- Document 01's proof table, computed row by row: a ticket by its net bytes (Tallied), and what Check answers by what is found in the wiring (Found).
use Prim.Native.Nat.{ℕ}
use mathlib.Core.Path.{◌≡◌, refl, ap}
use mathlib.Core.Bool.{false}
use mathlib.Core.List.{[], ◌∷◌}
use Rattle.counting.specs.Counting.{sum, some, most, ceil, least}
use Rattle.density.specs.Density.{pin_on, has_pin, passes_at, across, all_on, box_passes_at, box_across, up, tracks_for, floor}
use Rattle.problem.specs.Problem.{filled}
use Rattle.ticket.specs.declared.Reading.{Reading}
use Rattle.ticket_sides.specs.Format.{good_map, pin_net, values_from, side_nets}
use Rattle.ticket_sides.specs.Stages.{fields_of, header_of, nets_of, side_of, after, north_end, south_end, west_end, east_end}
use Rattle.ticket.specs.Read.{problem_of}
use Rattle.survey.specs.Survey.{survey_of}
use Rattle.figures.specs.Figures.{figures_of}
use Rattle.survey.specs.Line.{spelled, line_for}
use Rattle.checker.specs.Check.{check_refusal}
use Rattle.two_layer_law.specs.Moves.{leads, next, steps, moves, width_for}
use Rattle.table.specs.Tickets.{r1, r2, r3, c1, c2, c3, d1, d2, d3, d4, d5, d6, b1, b2, b3, t1, t2, t3, t4, longest, k1, k3, example}
use Rattle.table.specs.Decide.{tallied}
use Rattle.table.specs.Table.{nets_through, LayRefuses, LaidOn, ProofTable}
use Rattle.table.proofs.Tallied.{read_tallied, answers, lays}
use Rattle.table.proofs.TwoLayer.{by_test_lem, laid_by}
use Rattle.table.proofs.Found.{check_gives, found_legal}

d1_refused : LayRefuses d1 17 0
unfolding sum some least ceil good_map pin_net values_from side_nets fields_of header_of nets_of side_of after north_end south_end west_end east_end
    tallied figures_of leads next steps moves width_for
d1_refused = by_test_lem d1 refl refl

d3_laid : LaidOn d3 3 3
unfolding sum some least ceil good_map pin_net values_from side_nets fields_of header_of nets_of side_of after north_end south_end west_end east_end
    tallied figures_of leads next steps moves width_for
d3_laid = laid_by d3 refl refl 3 3

d4_laid : LaidOn d4 4 7
unfolding sum some least ceil good_map pin_net values_from side_nets fields_of header_of nets_of side_of after north_end south_end west_end east_end
    tallied figures_of leads next steps moves width_for
d4_laid = laid_by d4 refl refl 4 7

d5_laid : LaidOn d5 2 1
unfolding sum some least ceil good_map pin_net values_from side_nets fields_of header_of nets_of side_of after north_end south_end west_end east_end
    tallied figures_of leads next steps moves width_for
d5_laid = laid_by d5 refl refl 2 1

pub table : ProofTable
unfolding sum some most ceil pin_on has_pin passes_at across all_on box_passes_at box_across up tracks_for floor good_map pin_net values_from side_nets
    least fields_of header_of nets_of side_of after north_end south_end west_end east_end tallied figures_of filled survey_of spelled line_for
    check_refusal
table =
    record {
      R1 = (answers r1).1;
      R2 = (answers r2).1;
      R3 = (answers r3).1;
      C1 = (answers c1).1;
      C2 = ((answers c2).1, column 1, column 2, column 3);
      C3 = (answers c3).1;
      D1 = (d1_refused, (answers d1).1);
      D2 = (answers d2, lays d2);
      D3 = d3_laid;
      D4 = (d4_laid, (answers d4).1);
      D4_line = ap line_for (answers d4).1;
      D5 = d5_laid;
      D6 = answers d6;
      B1 = (answers b1).1;
      B2 = (answers b2).1;
      B3 = (answers b3).1;
      B3_line = ap line_for (answers b3).1;
      T1 = answers t1;
      T2 = answers t2;
      T3 = answers t3;
      T4 = (answers t4, (answers longest).0);
      K1 = (found_legal k1 1 2 false (1 ∷ 1 ∷ 1 ∷ 1 ∷ []) refl refl refl, check_gives k1 _ _ _ _ refl, check_gives k1 _ _ _ _ refl);
      K2 = check_gives k1 _ _ _ _ refl;
      K3 = check_gives k3 _ _ _ _ refl;
      example_figures = (answers example).1;
      example_line = ap line_for (answers example).1;
      R1_line = ap line_for (answers r1).1;
      T2_line = ap line_for (answers t2).1;
    }
  where
    column : (c : ℕ) → nets_through (problem_of c2) c ≡ nets_through (tallied c2).problem c
    column c = ap (λ (t : Reading). nets_through t.problem c) (read_tallied c2)
