-- The table of spans as the code keeps it, figure by figure: an entry for each net, and 0 at entry 0. No promise of a public call cites it.
--
--   pin_count_to a n m         how many of the places 1 to n of side a hold m
--   first_held, last_held a b n m
--                              the first and the last place from 1 to n at which one of two sides across from each other holds m, or 0
--   NetTable f list            entry m of the list is f m, for each net m
--   blank_table, blank_spans   the tables of no pins
--   Tabled a b n t             what two sides of n places each tell of each net
--   SpansOf q t                the table of a problem's spans
--   Spanned q ..               the lists of it that tell a span: first and last column, and the pins on each side
--   pin_sum a b c d m          net m's pins, from the lists of how many each side holds
--   pins_of_net t m            net m's pins, by the table of spans
--   net_or_none m              net m, and None for 0
--   low_of, high_of            the least and the greatest place along the grid, from the first and the last between its ends and from how
--                              many pins are on the near side, at 0, and on the far side, at `past`
--   span_from .. m n           net m's span, read from these lists
--   Numbered side              the side holds nets or 0
use Rattle.std.specs.Prelude.{ℕ, zero, suc, ◌+◌, ◌≤◌, ◌≡◌, Bool, cond, ◌||◌, List, eqb, length, get_or, replicate, Option, Some, None}
use Rattle.counting.specs.Counting.{In, count, least}
use Rattle.terms.specs.Limits.{largest_net, net_entries}
use Rattle.terms.specs.Kinds.{north, south, west, east}
use Rattle.problem.specs.declared.Problem.{Problem}
use Rattle.problem.specs.Problem.{pins_in, width_of}
use Rattle.nets.specs.declared.PinTable.{PinTable}
use Rattle.nets.specs.declared.Span.{Span}
use Rattle.nets.specs.declared.Spans.{Spans}

abbrev pub pin_count_to : (ℕ → ℕ) → ℕ → ℕ → ℕ
pin_count_to a n m = count (λ c. eqb (a c) m) n

abbrev pub holds_at : (ℕ → ℕ) → (ℕ → ℕ) → ℕ → ℕ → Bool
holds_at a b m c = eqb (a c) m || eqb (b c) m

abbrev pub first_held : (ℕ → ℕ) → (ℕ → ℕ) → ℕ → ℕ → ℕ
first_held a b n m = least (holds_at a b m) n

unfoldable pub last_held : (ℕ → ℕ) → (ℕ → ℕ) → ℕ → ℕ → ℕ
last_held a b zero m = 0
last_held a b (suc n) m = cond (holds_at a b m (suc n)) (suc n) (last_held a b n m)

pub record NetTable (f : ℕ → ℕ) (list : List ℕ) : Type 0 where
  pub size : length list ≡ net_entries
  pub none : get_or list 0 0 ≡ 0
  pub is : (m : ℕ) → In m largest_net → get_or list m 0 ≡ f m

abbrev pub blank_table : PinTable
blank_table =
    record { one = replicate net_entries 0; two = replicate net_entries 0; first = replicate net_entries 0; last = replicate net_entries 0 }

abbrev pub blank_spans : Spans
blank_spans = record { columns = blank_table; tracks = blank_table }

pub record Tabled (a b : ℕ → ℕ) (n : ℕ) (t : PinTable) : Type 0 where
  pub one : NetTable (pin_count_to a n) t.one
  pub two : NetTable (pin_count_to b n) t.two
  pub first : NetTable (first_held a b n) t.first
  pub last : NetTable (last_held a b n) t.last

pub record SpansOf (q : Problem) (t : Spans) : Type 0 where
  pub columns : Tabled (pins_in q.pins north) (pins_in q.pins south) q.n.0 t.columns
  pub tracks : Tabled (pins_in q.pins west) (pins_in q.pins east) (width_of q) t.tracks

pub record Spanned (q : Problem) (first last norths souths wests easts : List ℕ) : Type 0 where
  pub firsts : NetTable (first_held (pins_in q.pins north) (pins_in q.pins south) q.n.0) first
  pub lasts : NetTable (last_held (pins_in q.pins north) (pins_in q.pins south) q.n.0) last
  pub on_north : NetTable (pin_count_to (pins_in q.pins north) q.n.0) norths
  pub on_south : NetTable (pin_count_to (pins_in q.pins south) q.n.0) souths
  pub on_west : NetTable (pin_count_to (pins_in q.pins west) (width_of q)) wests
  pub on_east : NetTable (pin_count_to (pins_in q.pins east) (width_of q)) easts

abbrev pub pin_sum : List ℕ → List ℕ → List ℕ → List ℕ → ℕ → ℕ
pin_sum a b c d m = get_or a m 0 + get_or b m 0 + get_or c m 0 + get_or d m 0

abbrev pub pins_of_net : Spans → ℕ → ℕ
pins_of_net t = pin_sum t.columns.one t.columns.two t.tracks.one t.tracks.two

abbrev pub net_or_none : ℕ → Option ℕ
net_or_none zero = None
net_or_none (suc m) = Some (suc m)

abbrev pub low_of : ℕ → ℕ → ℕ → ℕ → ℕ
low_of first near far past = cond (eqb near 0) (cond (eqb first 0) (cond (eqb far 0) 0 past) first) 0

abbrev pub high_of : ℕ → ℕ → ℕ → ℕ
high_of last far past = cond (eqb far 0) last past

abbrev pub span_from : List ℕ → List ℕ → List ℕ → List ℕ → List ℕ → List ℕ → ℕ → ℕ → Span
span_from first last norths souths wests easts m n =
    record {
      net = m;
      left = low_of (get_or first m 0) (get_or wests m 0) (get_or easts m 0) (n + 1);
      right = high_of (get_or last m 0) (get_or easts m 0) (n + 1);
      north = get_or norths m 0;
      south = get_or souths m 0;
      west = get_or wests m 0;
      east = get_or easts m 0;
    }

pub record Numbered (side : List ℕ) : Type 0 where
  pub small : (i : ℕ) → get_or side i 0 ≤ largest_net
