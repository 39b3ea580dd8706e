-- Lists of nets and single nets: "the board after an accepted list is that of dropping them singly, in whichever order" (document 02,
-- job 9). The law is `any_order` of proofs/Orders.antt.
--
--   times_in l x       how often the number is in the list
--   Reordered l l'     the list l' has the numbers of l "in whichever order": each as often
--   singly l           "dropping them singly": for each net of the list a call that drops it alone
--   SameBoard b b'     two boards hold the same problem, and every stored figure is the same
--   AsSingly b l b'    b' is what comes of the board b by dropping the nets of the list l singly, whichever order they are taken in
use Rattle.std.specs.Prelude.{ℕ, ◌+◌, ◌≡◌, List, [], ◌∷◌, eqb}
use Rattle.counting.specs.Counting.{In, bit}
use Rattle.grid.specs.Legal.{entry}
use Rattle.board_law.specs.Counts.{count_entries}
use Rattle.board_law.specs.History.{Call, dropping, BoardState, LeadsTo}

unfoldable pub times_in : List ℕ → ℕ → ℕ
times_in [] x = 0
times_in (y ∷ l) x = bit (eqb y x) + times_in l x

abbrev pub Reordered : List ℕ → List ℕ → Type 0
Reordered l l' = (x : ℕ) → times_in l x ≡ times_in l' x

unfoldable pub singly : List ℕ → List Call
singly [] = []
singly (m ∷ l) = dropping (m ∷ []) ∷ singly l

pub record SameBoard (b b' : BoardState) : Type 0 where
  pub problem : b'.problem ≡ b.problem
  pub column : (c : ℕ) → In c count_entries → entry b'.columns c ≡ entry b.columns c
  pub track : (c : ℕ) → In c count_entries → entry b'.tracks c ≡ entry b.tracks c

pub record AsSingly (b : BoardState) (l : List ℕ) (b' : BoardState) : Type 0 where
  pub same : (l' : List ℕ) (b'' : BoardState) → Reordered l l' → LeadsTo b (singly l') b'' → SameBoard b' b''
