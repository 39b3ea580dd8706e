-- A side from whose padded list the nets of a list are taken away one after the other is the side without them: after i nets it is the
-- side without the first i.
use Prim.Native.Nat.{ℕ, ◌+◌, ◌-◌, ◌≤◌, ◌<◌}
use mathlib.Core.Path.{◌≡◌, sym, ap, ◌∙◌}
use mathlib.Core.Bool.{cond}
use mathlib.Core.List.{List, []}
use native.Mathlib.Omega.{arith}
use native.Mathlib.Numerals.{add-one}
use lib.Dec.{eqb}
use lib.ListN.{length, get_or, take}
use lib.Seq.{take-suc, take_all}
use Rattle.std.proofs.lemmas.List.{get_or-take}
use Rattle.counting.specs.Counting.{In}
use Rattle.terms.specs.Limits.{longest_side}
use Rattle.grid.specs.Legal.{entry}
use Rattle.grid.proofs.Entries.{entry_at}
use Rattle.board_law.proofs.Places.{listed_none}
use Rattle.board_law.proofs.Without.{leaves, left_next}

-- what stands at a place that holds x once a net is taken away
abbrev pub cleared : ℕ → ℕ → ℕ
cleared net x = cond (eqb x net) 0 x

pub record Left (l side long : List ℕ) : Type 0 where
  pub each : (i : ℕ) → i < longest_side → get_or long i 0 ≡ leaves l (get_or side i 0)

pub left_none : (side long : List ℕ) → ((i : ℕ) → i < longest_side → get_or long i 0 ≡ get_or side i 0) → Left [] side long
left_none side long same = record { each = λ i h. same i h ∙ sym (rw (listed_none (get_or side i 0))) }

module _ (side nets long : List ℕ) (i : ℕ) (w : Left (take i nets) side long) where
  pub left_more : (long' : List ℕ) → i < length nets
      → ((k : ℕ) → k < longest_side → get_or long' k 0 ≡ cleared (get_or nets i 0) (get_or long k 0)) → Left (take (i + 1) nets) side long'
  left_more long' h gone = rw (add-one i, take-suc nets i 0 h) (record {
    each = λ k j. gone k j ∙ ap (cleared (get_or nets i 0)) (w.each k j) ∙ sym (left_next (take i nets) (get_or nets i 0) (get_or side k 0));
  })

  pub left_all : (r : List ℕ) → length nets ≤ i → r ≡ take longest_side long
      → (a : ℕ) → In a longest_side → entry r a ≡ leaves nets (entry side a)
  left_all r end cut a j =
      let here : a - 1 < longest_side = omega arith in
      entry_at r a j.0 ∙ ap (λ (l : List ℕ). get_or l (a - 1) 0) cut ∙ get_or-take longest_side long (a - 1) 0 here ∙ w.each (a - 1) here
      ∙ (λ k. leaves (take_all i nets end k) (sym (entry_at side a j.0) k))
