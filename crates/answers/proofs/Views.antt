-- The entries that name a layer's part: those of a refusal, and those of a layer that is shown; and the part that they name, once stored.
use Prim.Native.Nat.{ℕ, ◌*◌}
use mathlib.Core.Path.{◌≡◌, ap, ◌∙◌}
use mathlib.Core.Logic.{◌≢◌}
use mathlib.Core.List.{List, [], ◌∷◌, ◌++◌}
use lib.ListN.{length, drop}
use Rattle.terms.specs.declared.Refusal.{Refusal}
use Rattle.grid.specs.Grid.{upright}
use Rattle.grid.specs.Legal.{index}
use Rattle.view.specs.View.{view_refusal, view_part}
use Rattle.view.proofs.Views.{start_refused, start_seen}
use Rattle.answers.specs.Answers.{view_entries, part_told}

module _ (x : List ℕ) (n w k l : ℕ) (r : Refusal) (given : r ≡ view_refusal x n w k l) where
  pub entries_refused : r.number ≢ 0 → r.number ∷ r.place ∷ 0 ∷ 0 ∷ [] ≡ view_entries x n w k l
  entries_refused h = let s = start_refused x n w k l r given h in simp (← given, s.0, s.1)

  pub entries_seen : (from size : ℕ) → r.number ≡ 0 → from ≡ index (upright n w k) 1 1 l → size ≡ n * w
      → r.number ∷ r.place ∷ from ∷ size ∷ [] ≡ view_entries x n w k l
  entries_seen from size h f e = let s = start_seen x n w k l r given h in simp (← given, s.0, s.1, f, e)

-- the part that four stored entries name
pub part_told_lem : (x d : List ℕ) (n w k l : ℕ) {t c : List ℕ} → t ≡ view_entries x n w k l → c ≡ t ++ drop (length t) d
    → part_told x c ≡ view_part x n w k l
part_told_lem x d n w k l e kept = ap (part_told x) (kept ∙ ap (λ (s : List ℕ). s ++ drop (length s) d) e)
