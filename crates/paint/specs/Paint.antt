-- What painting a part of a buffer leaves in it. No promise of a public call cites this.
-- Columns i and tracks j are counted from 0 here, as code counts them.
--
--   Striped before after n w f        a part of w rows of n bytes: row j's byte i is f i j
--   Lined before after n w value      the same, where byte i of row j is one of the values that `value i j` admits
--   Painted before after from n w f   the same of the part that starts at `from`, and every other byte is as it was
--   Block block row                   the block's first bytes are eight copies of the row; it has room for eight of the longest
--   Drawn n w before after top x      layers 1 to top, of n × w bytes each, hold the wiring x, and every byte past them is as it was
use Rattle.std.specs.Prelude.{ℕ, suc, ◌+◌, ◌*◌, ◌≤◌, ◌<◌, ◌≡◌, ◌⊎◌, List, length, get_or}
use Rattle.grid.specs.Legal.{Wiring}
use Rattle.terms.specs.Limits.{longest_side}

pub record Striped (before after : List ℕ) (n w : ℕ) (f : ℕ → ℕ → ℕ) : Type 0 where
  pub long : length after ≡ length before
  pub here : (i j : ℕ) → i < n → j < w → get_or after (j * n + i) 0 ≡ f i j

pub record Lined (before after : List ℕ) (n w : ℕ) (value : ℕ → ℕ → ℕ → Type 0) : Type 0 where
  pub long : length after ≡ length before
  pub here : (i j : ℕ) → i < n → j < w → value i j (get_or after (j * n + i) 0)

pub record Painted (before after : List ℕ) (from n w : ℕ) (f : ℕ → ℕ → ℕ) : Type 0 where
  pub long : length after ≡ length before
  pub here : (i j : ℕ) → i < n → j < w → get_or after (from + (j * n + i)) 0 ≡ f i j
  pub others : (b : ℕ) → (b < from) ⊎ (from + n * w ≤ b) → get_or after b 0 ≡ get_or before b 0

pub record Block (block row : List ℕ) : Type 0 where
  pub long : length block ≡ 8 * longest_side
  pub here : (i j : ℕ) → i < length row → j < 8 → get_or block (j * length row + i) 0 ≡ get_or row i 0

pub record Drawn (n w : ℕ) (before after : List ℕ) (top : ℕ) (x : Wiring) : Type 0 where
  pub long : length after ≡ length before
  pub here : (i j l : ℕ) → i < n → j < w → l < top → get_or after (l * (n * w) + (j * n + i)) 0 ≡ x (suc i) (suc j) (suc l)
  pub others : (b : ℕ) → top * (n * w) ≤ b → get_or after b 0 ≡ get_or before b 0
