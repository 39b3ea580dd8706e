-- A two-layer channel as it is drawn. A cut says which net crosses between two tracks in each column; an operation is one track, which
-- brings all wires of one net together: into one column, or, at a net's end, into none. Operations lead down from the north pins and up
-- from the south pins, until both have the same cut.
--
--   Ops                       so many operations, counted from 0: the net of each, the column that it is brought to (0 for none), and
--                             the ends of its trunk
--   cut_with x t cut          what the vertical layer holds in the track: the cut, and net x in column t
--   cut_after x t cut         the cut past the track: net x in column t alone
--   cut_of o start s          the cut after s operations
--   row_of o start s          the vertical layer in the track of operation s
--   trunk_of o s              the horizontal layer in that track
--   Same o o'                 the same operations, as far as they are counted
--   followed o o'             the operations of o, and then those of o'
--   Runs n start o            each operation is of a net that the cut holds, brought to a column that it has or that is empty, and its
--                             trunk reaches all its columns
--   Alone o s x               of the operations only s, if any, is of net x
--   EndsOnce o o'             a net that is brought to no column by o has no other operation
--   Consistent n p down up    the operations from both sides lead to one cut, and a net without an operation has one column
--   op_tracks down up         "1 ≤ w": a track for each operation, and one where there is none
--   OpsDrawn n p down up x    the wiring of these operations: those from the north in the upper tracks, those from the south in the lower
use Rattle.std.specs.Prelude.{ℕ, zero, suc, ◌+◌, ◌-◌, ◌≤◌, ◌<◌, max, ◌≡◌, ◌⊎◌, ◌≢◌, cond, ◌&&◌, eqb, leb, ltb}
use Rattle.counting.specs.Counting.{In}
use Rattle.terms.specs.Kinds.{north, south}
use Rattle.grid.specs.Legal.{Pins, Wiring}

pub record Ops : Type 0 where
  pub count : ℕ
  pub net : ℕ → ℕ
  pub to : ℕ → ℕ
  pub low : ℕ → ℕ
  pub high : ℕ → ℕ

pub record Same (o o' : Ops) : Type 0 where
  pub many : o.count ≡ o'.count
  pub nets : (s : ℕ) → s < o.count → o.net s ≡ o'.net s
  pub tos : (s : ℕ) → s < o.count → o.to s ≡ o'.to s
  pub lows : (s : ℕ) → s < o.count → o.low s ≡ o'.low s
  pub highs : (s : ℕ) → s < o.count → o.high s ≡ o'.high s

abbrev pub followed : Ops → Ops → Ops
followed o o' =
    record {
      count = o.count + o'.count;
      net = λ s. cond (ltb s o.count) (o.net s) (o'.net (s - o.count));
      to = λ s. cond (ltb s o.count) (o.to s) (o'.to (s - o.count));
      low = λ s. cond (ltb s o.count) (o.low s) (o'.low (s - o.count));
      high = λ s. cond (ltb s o.count) (o.high s) (o'.high (s - o.count));
    }

abbrev pub cut_with : ℕ → ℕ → (ℕ → ℕ) → ℕ → ℕ
cut_with x t cut c = cond (eqb c t) x (cut c)

abbrev pub cut_after : ℕ → ℕ → (ℕ → ℕ) → ℕ → ℕ
cut_after x t cut c = cond (eqb c t) x (cond (eqb (cut c) x) 0 (cut c))

unfoldable pub cut_of : Ops → (ℕ → ℕ) → ℕ → ℕ → ℕ
cut_of o start zero c = start c
cut_of o start (suc s) c = cut_after (o.net s) (o.to s) (cut_of o start s) c

abbrev pub row_of : Ops → (ℕ → ℕ) → ℕ → ℕ → ℕ
row_of o start s c = cut_with (o.net s) (o.to s) (cut_of o start s) c

abbrev pub trunk_of : Ops → ℕ → ℕ → ℕ
trunk_of o s c = cond (leb (o.low s) c && leb c (o.high s)) (o.net s) 0

pub record Runs (n : ℕ) (start : ℕ → ℕ) (o : Ops) : Type 0 where
  pub named : (s : ℕ) → s < o.count → o.net s ≢ 0
  pub column : (s : ℕ) → s < o.count → o.to s ≤ n
  pub free : (s : ℕ) → s < o.count → 1 ≤ o.to s → (cut_of o start s (o.to s) ≡ 0) ⊎ (cut_of o start s (o.to s) ≡ o.net s)
  pub there : (s : ℕ) → s < o.count → (c : ℕ) × In c n × (cut_of o start s c ≡ o.net s)
  pub ends : (s : ℕ) → s < o.count → (1 ≤ o.low s) × (o.high s ≤ n)
  pub reaches : (s c : ℕ) → s < o.count → In c n → row_of o start s c ≡ o.net s → (o.low s ≤ c) × (c ≤ o.high s)

abbrev pub Alone : Ops → ℕ → ℕ → Type 0
Alone o s x = (r : ℕ) → r < o.count → o.net r ≡ x → r ≡ s

abbrev pub EndsOnce : Ops → Ops → Type 0
EndsOnce o o' = (s : ℕ) → s < o.count → o.to s ≡ 0 → Alone o s (o.net s) × ((r : ℕ) → r < o'.count → o'.net r ≢ o.net s)

pub record Consistent (n : ℕ) (p : Pins) (down up : Ops) : Type 0 where
  pub norths : Runs n (p north) down
  pub souths : Runs n (p south) up
  pub meet : (c : ℕ) → In c n → cut_of down (p north) down.count c ≡ cut_of up (p south) up.count c
  pub ended : EndsOnce down up
  pub straight : (m a b : ℕ) → m ≢ 0 → ((s : ℕ) → s < down.count → down.net s ≢ m) → ((s : ℕ) → s < up.count → up.net s ≢ m)
      → In a n → In b n → p north a ≡ m → p north b ≡ m → a ≡ b

abbrev pub op_tracks : Ops → Ops → ℕ
op_tracks down up = max 1 (down.count + up.count)

pub record OpsDrawn (n : ℕ) (p : Pins) (down up : Ops) (x : Wiring) : Type 0 where
  pub upper : (s c : ℕ) → s < down.count → In c n → x c (op_tracks down up - s) 1 ≡ row_of down (p north) s c
  pub upper_trunk : (s c : ℕ) → s < down.count → In c n → x c (op_tracks down up - s) 2 ≡ trunk_of down s c
  pub lower : (s c : ℕ) → s < up.count → In c n → x c (suc s) 1 ≡ row_of up (p south) s c
  pub lower_trunk : (s c : ℕ) → s < up.count → In c n → x c (suc s) 2 ≡ trunk_of up s c
  pub idle : (c : ℕ) → down.count + up.count ≡ 0 → In c n → x c 1 1 ≡ p north c
  pub idle_trunk : (c : ℕ) → down.count + up.count ≡ 0 → In c n → x c 1 2 ≡ 0
