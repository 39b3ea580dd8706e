-- The lists of the written box as code makes them, place by place, and the first nets of two of them exchanged.
use Prim.Native.Nat.{ℕ, suc, ◌+◌, ◌≤◌, ◌<◌}
use mathlib.Core.Path.{◌≡◌, refl, sym, ap, ap₂, ◌∙◌}
use mathlib.Core.Bool.{cond}
use mathlib.Core.List.{List, ◌∷◌}
use native.Mathlib.Omega.{arith}
use lib.Dec.{eqb}
use lib.ListN.{length, get_or, set}
use borrow.Author.Tests.{le-leb, ne_eqb}
use Rattle.counting.specs.Counting.{In}
use Rattle.terms.specs.Kinds.{south, west, box}
use Rattle.terms.specs.Limits.{longest_side}
use Rattle.grid.specs.declared.Column.{Column}
use Rattle.grid.specs.Legal.{entry}
use Rattle.grid.proofs.Entries.{entry_next}
use Rattle.problem.specs.declared.Pins.{Pins}
use Rattle.problem.specs.declared.Problem.{Problem}
use Rattle.ticket_sides.specs.Format.{values_from, side_list}
use Rattle.ticket.proofs.Filled.{up_to, fill_end, side_at_lem, values_same}
use Rattle.hardest_law.specs.Box.{rotated, net_at, hardest_box}

-- ---- a side

-- an array is a side's list by what it has at each place
pub side_listed : (f : ℕ → ℕ) (p : ℕ) {l : List ℕ} → p ≤ longest_side → length l ≡ longest_side
    → ((a : ℕ) → In a p → entry l a ≡ f a) → ((a : ℕ) → p < a → entry l a ≡ 0) → l ≡ side_list f p
side_listed f p {l} few size held empty =
    fill_end f p p l refl
    (record {
      size = size;
      done = λ k h. sym (entry_next l k) ∙ held (k + 1) (omega arith) ∙ sym (rw (le-leb (k + 1) p (omega arith)));
      rest = λ k h. sym (entry_next l k) ∙ empty (k + 1) (omega arith);
    })

-- ---- the exchange

pub first_net : (f : ℕ → ℕ) (p : ℕ) → In p longest_side → get_or (side_list f p) 0 0 ≡ f 1
first_net f p i = side_at_lem f p 1 i.1 (omega arith)

exchanged : (f : ℕ → ℕ) (p v m : ℕ) → 1 ≤ p
    → set (values_from (up_to f p) 1 (suc m)) 0 v ≡ values_from (up_to (λ a. cond (eqb a 1) v (f a)) p) 1 (suc m)
unfolding values_from
exchanged f p v m some =
    ap₂ (λ (x : ℕ) (l : List ℕ). x ∷ l) (rw (le-leb 1 p some))
    (values_same (up_to f p) (up_to (λ a. cond (eqb a 1) v (f a)) p) m 2 (λ a h lt. rw (ne_eqb a 1 (λ q. omega arith))))

first_set : (f : ℕ → ℕ) (p v : ℕ) → 1 ≤ p → set (side_list f p) 0 v ≡ side_list (λ a. cond (eqb a 1) v (f a)) p
unfolding side_list
first_set f p v some = exchanged f p v 89 some

-- ---- the box

abbrev box_with : Column → ℕ → ℕ → Pins → Problem
box_with n w k ps = record { kind = box; n = n; byte2 = w; nets = k; pins = ps }

-- the four lists, and their pins once south 1 and west 1 are exchanged
pub record BoxLists (n w : ℕ) (a b c d : List ℕ) : Type 0 where
  pub norths : a ≡ side_list (λ x. x) n
  pub souths : b ≡ side_list (rotated n) n
  pub wests : c ≡ side_list (λ x. n + x) w
  pub easts : d ≡ side_list (λ x. n + rotated w x) w

abbrev pub exchange : List ℕ → List ℕ → List ℕ → List ℕ → Pins
exchange a b c d = record { north = a; south = set b 0 (get_or c 0 0); west = set c 0 (get_or b 0 0); east = d }

module _ (n w : ℕ) (long : In n longest_side) (broad : In w longest_side) {a b c d : List ℕ} (l : BoxLists n w a b c d) where
  pins_made : exchange a b c d ≡ (hardest_box n w).pins
  pins_made =
      let one : get_or c 0 0 ≡ n + 1 = ap (λ (l : List ℕ). get_or l 0 0) l.wests ∙ first_net (λ a. n + a) w broad in
      let two : get_or b 0 0 ≡ rotated n 1 = ap (λ (l : List ℕ). get_or l 0 0) l.souths ∙ first_net (rotated n) n long in
      let souths' : set b 0 (get_or c 0 0) ≡ side_list (net_at n w south) n = ap₂ (λ (l : List ℕ) (v : ℕ). set l 0 v) l.souths one
      ∙ first_set (rotated n) n (n + 1) long.0 in
      let wests' : set c 0 (get_or b 0 0) ≡ side_list (net_at n w west) w = ap₂ (λ (l : List ℕ) (v : ℕ). set l 0 v) l.wests two
      ∙ first_set (λ a. n + a) w (rotated n 1) broad.0 in
      λ i. record { north = l.norths i; south = souths' i; west = wests' i; east = l.easts i }

-- the sizes as the code has them
pub box_made : (n : Column) (w : ℕ) {columns tracks : ℕ} {a b c d : List ℕ} → columns ≡ n.0 → tracks ≡ w → In n.0 longest_side
    → In w longest_side → BoxLists columns tracks a b c d
    → record { kind = box; n = n; byte2 = tracks; nets = columns + tracks; pins = exchange a b c d } ≡ hardest_box n.0 w
box_made n w {columns} {tracks} {a} {b} {c} {d} e f long broad l =
    ap (box_with n tracks (columns + tracks)) (pins_made columns tracks (rw e long) (rw f broad) l)
    ∙ ap (λ (x : ℕ). box_with (record { 0 = x }) tracks (columns + tracks) (hardest_box columns tracks).pins) (sym e) ∙ ap₂ hardest_box e f
