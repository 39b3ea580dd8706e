-- Counts changed at the places of a run, one entry after the other; and the greatest of them.
use Rattle.std.proofs.Common.{◌≡◌, ℕ, ◌+◌, ◌-◌, ◌%◌, ◌<◌, ◌≤◌, max, Bool, true, false, ◌&&◌, ltb, leb, List, get_or, sym, refl, ◌∙◌, add-one, arith, le-ltb, lt-ltb, le-leb}
use native.Mathlib.Decide.{dec_le}
use borrow.Author.Tests.{lt-leb}
use Rattle.counting.specs.Counting.{In, most}
use Rattle.terms.specs.Limits.{longest_side, byte_values}
use Rattle.grid.specs.Legal.{entry}
use Rattle.grid.proofs.Entries.{entry_at}
use Rattle.board_law.specs.Counts.{count_entries}
use Rattle.board_law.specs.Runs.{shifted}
use Rattle.board_counts.proofs.InPlace.{Passed}

-- the places of a run of so many from `from` on
abbrev pub covers : ℕ → ℕ → ℕ → Bool
covers from size c = leb from c && ltb c (from + size)

-- modulo 256, no place before `from` is so near to it
module _ (from size at : ℕ) (f : from ≤ longest_side) (s : size ≤ longest_side + 1) (i : In at count_entries) where
  pub near_in : (at + (byte_values - from)) % byte_values < size → covers from size at ≡ true
  near_in near =
      let after : from ≤ at = omega arith in
      let before : at < from + size = omega arith in rw (le-leb from at after) (lt-ltb at (from + size) before)

  pub near_out : size ≤ (at + (byte_values - from)) % byte_values → covers from size at ≡ false
  near_out far = elim (dec_le from at) [
    | yes h ↦ rw (le-leb from at h) (le-ltb at (from + size) (omega arith))
    | no h ↦ rw (lt-leb from at (omega arith))
  ]

-- what becomes of entry k of the list, which is place k + 1
abbrev pub shifted_at : ℕ → ℕ → ℕ → ℕ → ℕ → ℕ
shifted_at from size step k x = shifted x (covers from size (k + 1)) step

pub shifted_all : (from size step i : ℕ) (list counts : List ℕ) → count_entries ≤ i
    → Passed (shifted_at from size step) count_entries i list counts
    → (c : ℕ) → In c count_entries → entry counts c ≡ shifted (entry list c) (covers from size c) step
shifted_all from size step i list counts all w c j =
    let here : c - 1 + 1 ≡ c = omega arith in
    entry_at counts c j.0 ∙ w.done (c - 1) (omega arith)
    ∙ (λ k. shifted (sym (entry_at list c j.0) k) (covers from size (here k)) step)

-- ---- the greatest entry

pub most_none : (f : ℕ → ℕ) → most f 0 ≡ 0
unfolding most
most_none f = refl

pub most_next : (list : List ℕ) (i : ℕ) → most (entry list) (i + 1) ≡ max (most (entry list) i) (get_or list i 0)
unfolding most
most_next list i = rw (add-one i)
