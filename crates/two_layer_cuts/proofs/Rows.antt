-- One entry of a row is set.
use Rattle.std.proofs.Common.{ℕ, ◌≤◌, ◌≡◌, refl, List, length, set, arith, length-set, get_or-set_same, get_or-set_other, eq-eqb, ne_eqb}
use mathlib.Core.Logic.{by_cases}
use native.Mathlib.Decide.{ℕ_discrete}
use Rattle.terms.specs.Limits.{longest_side}
use Rattle.two_layer_law.specs.Cuts.{cut_with}
use Rattle.two_layer_cuts.specs.Rows.{column_entries, item, Row}

-- net x is set in column t of a cut
pub row_set : (x t i : ℕ) (cut : List ℕ) → i ≡ t → length cut ≡ column_entries → t ≤ longest_side
    → Row longest_side (cut_with x t (item cut)) (set cut i x)
row_set x t i cut e size l = rw e (record {
  size = simp length-set size;
  is = λ c h. by_cases (ℕ_discrete c t)
      (λ q. rw (q, eq-eqb t t refl) (get_or-set_same cut t x 0 (omega arith)))
      (λ ne. rw (ne_eqb c t ne) (get_or-set_other cut t c x 0 ne));
})
