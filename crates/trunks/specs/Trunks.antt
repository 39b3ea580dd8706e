-- What the trunk places promise to whoever draws them.
--
--   Trunks, trunks_of left right place
--                               the nets' leftmost and rightmost columns and trunk places, an entry for each net
--   SpanColumns north south n first last wests easts
--                               what is asked of the table of spans: the nets' first and last columns, and no pin to the west or the east
--   left_of, right_of, place_of net m's leftmost and rightmost column, 0 where it has no pin, and its trunk place
--   PinIn north south c m       net m has a pin in column c
--   Crosses t m c               net m lies in more than one column, and its span, leftmost to rightmost column, contains c
--   crossing t c                how many nets do
--   Placed north south n t      the spans are the nets', and the places are Gallai's: "two nets share a place only if their spans have no
--                               column in common", "A channel net with all its pins in one column takes no place", and no place is needed
--                               beyond the largest number of nets that cross one column
use Rattle.std.specs.Prelude.{ℕ, ◌≤◌, ◌<◌, ◌≡◌, ◌⊎◌, ◌≢◌, ◌&&◌, List, get_or, leb, ltb}
use Rattle.counting.specs.Counting.{In}
use Rattle.terms.specs.Limits.{largest_net}
use Rattle.grid.specs.Legal.{entry, nets}
use Rattle.nets.specs.Tables.{first_held, last_held, NetTable}

pub record Trunks : Type 0 where
  pub left : List ℕ
  pub right : List ℕ
  pub place : List ℕ

abbrev pub trunks_of : List ℕ → List ℕ → List ℕ → Trunks
trunks_of left right place = record { left = left; right = right; place = place }

pub record SpanColumns (north south : List ℕ) (n : ℕ) (first last wests easts : List ℕ) : Type 0 where
  pub firsts : NetTable (first_held (entry north) (entry south) n) first
  pub lasts : NetTable (last_held (entry north) (entry south) n) last
  pub no_west : NetTable (λ m. 0) wests
  pub no_east : NetTable (λ m. 0) easts

abbrev pub left_of : Trunks → ℕ → ℕ
left_of t m = get_or t.left m 0

abbrev pub right_of : Trunks → ℕ → ℕ
right_of t m = get_or t.right m 0

abbrev pub place_of : Trunks → ℕ → ℕ
place_of t m = get_or t.place m 0

abbrev pub PinIn : List ℕ → List ℕ → ℕ → ℕ → Type 0
PinIn north south c m = (entry north c ≡ m) ⊎ (entry south c ≡ m)

abbrev pub Crosses : Trunks → ℕ → ℕ → Type 0
Crosses t m c = (left_of t m < right_of t m) × (left_of t m ≤ c) × (c ≤ right_of t m)

abbrev pub crossing : Trunks → ℕ → ℕ
crossing t c = nets (λ m. leb (left_of t m) c && leb c (right_of t m) && ltb (left_of t m) (right_of t m))

pub record Placed (north south : List ℕ) (n : ℕ) (t : Trunks) : Type 0 where
  pub all : (c m : ℕ) → In c n → m ≢ 0 → PinIn north south c m → (left_of t m ≤ c) × (c ≤ right_of t m)
  pub first : (m : ℕ) → left_of t m < right_of t m → In (left_of t m) n × PinIn north south (left_of t m) m
  pub last : (m : ℕ) → left_of t m < right_of t m → In (right_of t m) n × PinIn north south (right_of t m) m
  pub few : (m : ℕ) → left_of t m < right_of t m → In m largest_net
  pub apart : (m m' c : ℕ) → Crosses t m c → Crosses t m' c → place_of t m ≡ place_of t m' → m ≡ m'
  pub within : (most : ℕ) → most ≤ largest_net → ((c : ℕ) → crossing t c ≤ most) → (m : ℕ) → left_of t m < right_of t m
      → place_of t m < most
