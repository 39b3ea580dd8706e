-- The laying under way, as the inner functions' contracts cite it. The promise is in Laid.
--
--   plan_of t w                     the trunk places as tracks of layers: place p is track p mod w + 1 of trunk layer p div w
--   comb a b l i                    what a vertical layer l holds in column i: layers 1, 5, 9.. the pins a, layers 3, 7, 11.. the pins b
--   base a b                        the wiring with its combs and without its trunks
--   Seated plan g                   each trunk lies on a horizontal layer of the grid, and no two share a point
--   Crossed plan g before after t   the trunks of nets 1 to t are laid: the horizontal layers hold them and nothing else,
--                                   the vertical ones what they held
--   Combed north south b n w k before after
--                                   the combs of the north pins and of the pins b are laid, and the trunks of the nets across them
use Rattle.std.specs.Prelude.{ℕ, ◌+◌, ◌*◌, ◌/◌, ◌%◌, ◌≤◌, ◌≡◌, cond, List, length, get_or, take, eqb}
use Rattle.grid.specs.Grid.{Grid, upright, point, Inside}
use Rattle.grid.specs.Legal.{Wiring, wiring_of, entry}
use Rattle.terms.specs.Limits.{largest_net}
use Rattle.paint.specs.Paint.{Drawn}
use Rattle.trunks.specs.Trunks.{Trunks, left_of, right_of, place_of, Placed}
use Rattle.channel_law.specs.Drawing.{Plan, Claims, Trunks as TrunksIn}

abbrev pub plan_of : Trunks → ℕ → Plan
plan_of t w = record { left = left_of t; right = right_of t; track = λ m. place_of t m % w + 1; layer = λ m. 2 * (place_of t m / w) + 2 }

abbrev pub comb : List ℕ → List ℕ → ℕ → ℕ → ℕ
comb a b l i = cond (eqb (l % 4) 1) (entry a i) (entry b i)

abbrev pub base : List ℕ → List ℕ → Wiring
base a b i j l = cond (eqb (l % 2) 1) (comb a b l i) 0

pub record Seated (plan : Plan) (g : Grid) : Type 0 where
  pub inside : (m i j l : ℕ) → Claims plan m i j l → Inside g (point i j l)
  pub flat : (m i j l : ℕ) → Claims plan m i j l → l % 2 ≡ 0
  pub apart : (m m' i j l : ℕ) → Claims plan m i j l → Claims plan m' i j l → m ≡ m'

pub record Crossed (plan : Plan) (g : Grid) (before after : List ℕ) (t : ℕ) : Type 0 where
  pub trunks : TrunksIn plan g (wiring_of g after) t
  pub combs : (i j l : ℕ) → Inside g (point i j l) → l % 2 ≡ 1 → wiring_of g after i j l ≡ wiring_of g before i j l
  pub long : length after ≡ length before
  pub others : (b : ℕ) → g.n * g.w * g.k ≤ b → get_or after b 0 ≡ get_or before b 0

pub record Combed (north south b : List ℕ) (n w k : ℕ) (before after : List ℕ) : Type 0 where
  pub trunks : Trunks
  pub placed : Placed north south n trunks
  -- the wiring with its combs alone
  pub bare : List ℕ
  pub combs : Drawn n w before bare k (base (take n north) (take n b))
  pub crossed : Crossed (plan_of trunks w) (upright n w k) bare after largest_net
