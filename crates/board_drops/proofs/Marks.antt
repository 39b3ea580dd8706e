-- A mark for each net that a list has had so far, so that a repeat is seen at once.
use Prim.Native.Nat.{ℕ, ◌≤◌}
use mathlib.Core.Path.{◌≡◌, refl, sym, ap, ◌∙◌}
use mathlib.Core.Bool.{Bool, true, false, ◌||◌, or-true, or-false}
use mathlib.Core.List.{List, [], ◌∷◌, ◌++◌}
use native.Mathlib.Decide.{ℕ_discrete}
use native.Mathlib.Omega.{arith}
use lib.ListN.{length, get_or, set, replicate, length-set, get_or-replicate}
use lib.Seq.{get_or-set_same, get_or-set_other}
use borrow.Author.Tests.{eq-eqb, ne_eqb}
use Rattle.terms.specs.Limits.{largest_net}
use Rattle.board_law.specs.Places.{listed}
use Rattle.board_law.proofs.Places.{listed_none, listed_last}

-- a place for each number up to the largest net's
abbrev pub mark_entries : ℕ
mark_entries = 181

pub record Marked (l : List ℕ) (seen : List Bool) : Type 0 where
  pub size : length seen ≡ mark_entries
  pub each : (x : ℕ) → x ≤ largest_net → get_or seen x false ≡ listed l x

pub marked_none : Marked [] (replicate mark_entries false)
marked_none = record { size = refl; each = λ x h. get_or-replicate mark_entries x false false (omega arith) ∙ sym (listed_none x) }

pub marked_next : (l : List ℕ) (seen : List Bool) (m : ℕ) → m ≤ largest_net → Marked l seen → Marked (l ++ (m ∷ [])) (set seen m true)
marked_next l seen m small marks =
    record {
      size = length-set seen m true ∙ marks.size;
      each = λ x h. elim (ℕ_discrete x m) [
        | yes e ↦
            ap (λ (k : ℕ). get_or (set seen m true) k false) e ∙ get_or-set_same seen m true false (omega (arith, marks.size))
            ∙ sym (listed_last l m x ∙ ap (λ (t : Bool). listed l x || t) (eq-eqb m x (sym e)) ∙ or-true (listed l x))
        | no ne ↦
            get_or-set_other seen m x true false ne ∙ marks.each x h
            ∙ sym (listed_last l m x ∙ ap (λ (t : Bool). listed l x || t) (ne_eqb m x (λ e. ne (sym e))) ∙ or-false (listed l x))
      ];
    }
