-- What the functions that compute across and up keep: where each net that crosses columns begins and ends. No promise of a public call
-- cites it; proofs/Across ties it to `across` and `up`.
--
--   at list i                entry i of a list, counted from 0 as the code does
--   nowhere                  past every column: where a net that stays in one place begins and ends, and so does an empty place, entry 0
--   PerNet v f k list        entry 0 is v, and entry m is f m, for the nets 1 to k
--   stays_at first last near far
--                            of a net's first and last column and of how many pins it has on the near and the far side: it has pins at
--                            one of the columns 1 to n alone, or none
--   begin_of, end_of first last near far past
--                            the net's least and greatest place along the grid, or nowhere where it stays. So one whose pins are all on the
--                            near side, at 0, begins and ends at 0, and one whose pins are all on the far side, at `past`, at `past`
--   Way n x y                what a net that begins at x and ends at y does
--   comes_to from to m       net m begins on the near side and goes on from there
--   EndsCounted from to past k coming near far
--                            of the nets 1 to k: how many do, how many begin on the near side, and how many end on the far side
--   EndsAt a b n from to     a net that begins or ends at one of the columns 1 to n has a pin there, and goes a way
--   goes_over from to c m    net m begins at column c or before it, and ends there or past it
--   box_over from to n c m   the same of a box: at column 1 also a net that ends on the near side, at column n one that begins on the far
--                            side
--   now_at list m k c        how many of the nets m and k have the entry c; if they are one net, it is counted once
--   AlongSides a b first last n  two sides of n places hold nets, and the lists have the first and the last place of each
--   Crossed boxed a b near far n r
--                            r is across, where a and b are north and south, and near and far have the pins of each net on west and east;
--                            of a box, if boxed; and then it is up, where they are west and east, and south and north
--   UpFor kind a b near far n r
--                            r is up of a box, where a and b are west and east, and near and far have the pins on south and north
use Rattle.std.specs.Prelude.{ℕ, ◌+◌, ◌≤◌, ◌<◌, max, ◌≡◌, Bool, true, cond, not, ◌&&◌, ◌||◌, List, eqb, leb, length, get_or}
use Rattle.counting.specs.Counting.{In, bit, count}
use Rattle.terms.specs.Kinds.{by_kind}
use Rattle.terms.specs.Limits.{largest_net, longest_side, net_entries}
use Rattle.grid.specs.Grid.{upright}
use Rattle.grid.specs.Legal.{entry, pins_of}
use Rattle.density.specs.Density.{across, box_across, up}
use Rattle.nets.specs.Tables.{pin_count_to, holds_at, first_held, last_held, high_of, NetTable, Numbered}

abbrev pub at : List ℕ → ℕ → ℕ
at list i = get_or list i 0

abbrev pub nowhere : ℕ
nowhere = 255

pub record PerNet (v : ℕ) (f : ℕ → ℕ) (k : ℕ) (list : List ℕ) : Type 0 where
  pub size : length list ≡ net_entries
  pub none : at list 0 ≡ v
  pub is : (m : ℕ) → In m k → at list m ≡ f m

abbrev pub stays_at : ℕ → ℕ → ℕ → ℕ → Bool
stays_at first last near far = eqb first last && eqb (max near far) 0

abbrev pub begin_of : ℕ → ℕ → ℕ → ℕ → ℕ → ℕ
begin_of first last near far past = cond (stays_at first last near far) nowhere (cond (eqb near 0) (cond (eqb first 0) past first) 0)

abbrev pub end_of : ℕ → ℕ → ℕ → ℕ → ℕ → ℕ
end_of first last near far past = cond (stays_at first last near far) nowhere (high_of last far past)

pub data Way (n : ℕ) : ℕ → ℕ → Type 0 where
  crosses : {x y : ℕ} → x < y → y ≤ n + 1 → Way n x y
  all_near : Way n 0 0
  all_far : Way n (n + 1) (n + 1)
  nowhere_at_all : Way n nowhere nowhere

abbrev pub comes_to : List ℕ → List ℕ → ℕ → Bool
comes_to from to m = eqb (at from m) 0 && not (eqb (at to m) 0)

pub record EndsCounted (from to : List ℕ) (past k coming near far : ℕ) : Type 0 where
  pub comes : coming ≡ count (comes_to from to) k
  pub begin : near ≡ count (λ m. eqb (at from m) 0) k
  pub end : far ≡ count (λ m. eqb (at to m) past) k

pub record EndsAt (a b : List ℕ) (n : ℕ) (from to : List ℕ) : Type 0 where
  pub begins : (m c : ℕ) → In m largest_net → In c n → at from m ≡ c → holds_at (entry a) (entry b) m c ≡ true
  pub ends : (m c : ℕ) → In m largest_net → In c n → at to m ≡ c → holds_at (entry a) (entry b) m c ≡ true
  pub way : (m : ℕ) → In m largest_net → Way n (at from m) (at to m)
  pub empty : (n < at from 0) × (n < at to 0)

abbrev pub goes_over : List ℕ → List ℕ → ℕ → ℕ → Bool
goes_over from to c m = leb (at from m) c && leb c (at to m)

abbrev pub box_over : List ℕ → List ℕ → ℕ → ℕ → ℕ → Bool
box_over from to n c m = goes_over from to c m || (eqb c 1 && eqb (at to m) 0) || (eqb c n && eqb (at from m) (n + 1))

abbrev pub now_at : List ℕ → ℕ → ℕ → ℕ → ℕ
now_at list m k c = bit (eqb (at list m) c) + bit (not (eqb m k) && eqb (at list k) c)

pub record AlongSides (a b first last : List ℕ) (n : ℕ) : Type 0 where
  pub fits : In n longest_side
  pub on_a : Numbered a
  pub on_b : Numbered b
  pub firsts : NetTable (first_held (entry a) (entry b) n) first
  pub lasts : NetTable (last_held (entry a) (entry b) n) last

pub record Crossed (boxed : Bool) (a b near far : List ℕ) (n r : ℕ) : Type 0 where
  pub small : r ≤ largest_net
  pub columns : (c d : List ℕ) (w : ℕ) → NetTable (pin_count_to (entry c) w) near → NetTable (pin_count_to (entry d) w) far
      → let g = upright n w 1 in let p = pins_of a b c d in r ≡ cond boxed (box_across g p) (across g p)
  pub tracks : boxed ≡ true → (c d : List ℕ) (w : ℕ) → NetTable (pin_count_to (entry c) w) near → NetTable (pin_count_to (entry d) w) far
      → r ≡ up (upright w n 1) (pins_of d c a b)

pub record UpFor (kind : ℕ) (a b near far : List ℕ) (n r : ℕ) : Type 0 where
  pub small : r ≤ largest_net
  pub tracks : (c d : List ℕ) (w : ℕ) → NetTable (pin_count_to (entry c) w) near → NetTable (pin_count_to (entry d) w) far
      → r ≡ by_kind kind 0 0 0 (up (upright w n 1) (pins_of d c a b)) 0
