-- The definition of a flat ticket's bytes as code writes a side of them: the front of its list.
use Rattle.std.proofs.Common.{◌≡◌, ℕ, zero, suc, ◌+◌, ◌≤◌, List, [], ◌∷◌, ◌++◌, length, get_or, take, sym, ap, ◌∙◌, add-one, arith}
use Rattle.std.proofs.lemmas.List.{take_more}
use Rattle.grid.specs.Legal.{entry}
use Rattle.grid.proofs.Entries.{entry_next}
use Rattle.ticket_sides.specs.Format.{values_from}
use Rattle.ticket.proofs.Filled.{values_none, values_more}

pub places_listed : (l : List ℕ) (p : ℕ) → p ≤ length l → values_from (entry l) 1 p ≡ take p l
places_listed l zero h = values_none (entry l) 1
places_listed l (suc p) h =
    let next : p + 1 ≡ 1 + p = omega arith in
    let more = values_more (entry l) 1 p (sym (entry_next l p) ∙ ap (entry l) next) in
    let before = ap (λ (x : List ℕ). x ++ get_or l p 0 ∷ []) (places_listed l p (omega arith)) in
    rw (← add-one p) (more ∙ before ∙ sym (take_more l p 0 (omega arith)))
