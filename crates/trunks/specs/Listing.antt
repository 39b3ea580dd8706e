-- The listing of spans, as the code runs it: what its loop has found once the first q pins are passed, the north and the south pin of each
-- column in turn. The promise is in Trunks; these are the predicates that the inner functions' contracts cite.
--
--   pin_number north south q     the net of pin q, counted from 0, or 0
--   column q                     the column of pin q
--   starts_at north first last m q
--                                whether net m, which has pin q, is listed there: its first column is this one, its last column is a later
--                                one, and pin q is not the south pin of a column whose north pin is the net's too
--   Ordered ss                   each span is followed by spans of other nets only, none of which starts further left
--   SpansListed pin span q ss    ss lists the spans of the nets that have one of the first q pins and lie in more than one column
use Rattle.std.specs.Prelude.{ℕ, ◌+◌, ◌/◌, ◌%◌, ◌≤◌, ◌<◌, ◌≡◌, ◌≢◌, Bool, ◌&&◌, ◌||◌, not, get_or, eqb, ltb}
use mathlib.Core.List.{List, [], ◌∷◌, Memᴰ}
use Rattle.nets.specs.declared.Span.{Span}
use Rattle.trunks.specs.Packing.{pick}

abbrev pub pin_number : List ℕ → List ℕ → ℕ → ℕ
pin_number north south q = pick (eqb (q % 2) 0) (get_or north (q / 2) 0) (get_or south (q / 2) 0)

abbrev pub column : ℕ → ℕ
column q = q / 2 + 1

abbrev pub starts_at : List ℕ → List ℕ → List ℕ → ℕ → ℕ → Bool
starts_at north first last m q =
    (eqb (get_or first m 0) (column q) && ltb (column q) (get_or last m 0)) && (eqb (q % 2) 0 || not (eqb (get_or north (q / 2) 0) m))

abbrev pub Ordered : List Span → Type 0
Ordered [] = Unit {0}
Ordered (s ∷ ss) = ((t : Span) → Memᴰ t ss → (s.left ≤ t.left) × (s.net ≢ t.net)) × Ordered ss

pub record SpansListed (pin : ℕ → ℕ) (span : ℕ → Span) (q : ℕ) (ss : List Span) : Type 0 where
  pub each : (s : Span) → Memᴰ s ss → (s ≡ span s.net) × (1 ≤ s.left) × (s.left < s.right)
  pub met : (s : Span) → Memᴰ s ss → (e : ℕ) × (e < q) × (pin e ≡ s.net)
  pub all : (e : ℕ) → e < q → (span (pin e)).left < (span (pin e)).right → Memᴰ (span (pin e)) ss
  pub ordered : Ordered ss
