-- How the operations of a two-layer channel are drawn, as `draw` promises it and as the inner functions' contracts cite it.
--
--   trunk x low high                 what layer 2 holds in a track: net x from column low to column high, 0 elsewhere
--   OpsFit n o                       operations whose columns are those of a side of n places
--   track_from down first s          the track of operation s: that of operation 0 is `first`, the next ones go down or up from it
--   OwnTracks w top track            each of operations 0 to top - 1 has a track of its own, of w tracks
--   TrackDrawn g j f h before after  track j holds f on layer 1 and h on layer 2, and every other byte of the buffer is as it was
--   ListDrawn g o start track top before after      the tracks of operations 0 to top - 1 are drawn, the first from the cut `start`, and
--                                    every other byte is as it was
--   ChannelDrawn north south n w down up before after    the operations are drawn, and "Bytes past n × w × k are untouched"
use Rattle.std.specs.Prelude.{ℕ, ◌+◌, ◌-◌, ◌*◌, ◌≤◌, ◌<◌, ◌≡◌, ◌≢◌, Bool, cond, ◌&&◌, List, length, get_or, leb}
use Rattle.counting.specs.Counting.{In}
use Rattle.grid.specs.Grid.{Grid, upright, point, Inside}
use Rattle.grid.specs.Legal.{wiring_of, column_pins}
use Rattle.two_layer_law.specs.Cuts.{Ops, row_of, trunk_of, OpsDrawn}

abbrev pub trunk : ℕ → ℕ → ℕ → ℕ → ℕ
trunk x low high c = cond (leb low c && leb c high) x 0

pub record OpsFit (n : ℕ) (o : Ops) : Type 0 where
  pub column : (s : ℕ) → s < o.count → o.to s ≤ n
  pub ends : (s : ℕ) → s < o.count → (1 ≤ o.low s) × (o.high s ≤ n)

abbrev pub track_from : Bool → ℕ → ℕ → ℕ
track_from down first s = cond down (first - s) (first + s)

pub record OwnTracks (w top : ℕ) (track : ℕ → ℕ) : Type 0 where
  pub inside : (s : ℕ) → s < top → In (track s) w
  pub apart : (s r : ℕ) → s < r → r < top → track s ≢ track r

pub record TrackDrawn (g : Grid) (j : ℕ) (f h : ℕ → ℕ) (before after : List ℕ) : Type 0 where
  pub vertical : (c : ℕ) → In c g.n → wiring_of g after c j 1 ≡ f c
  pub horizontal : (c : ℕ) → In c g.n → wiring_of g after c j 2 ≡ h c
  pub kept : (c i l : ℕ) → Inside g (point c i l) → i ≢ j → wiring_of g after c i l ≡ wiring_of g before c i l
  pub long : length after ≡ length before
  pub others : (b : ℕ) → g.n * g.w * g.k ≤ b → get_or after b 0 ≡ get_or before b 0

pub record ListDrawn (g : Grid) (o : Ops) (start track : ℕ → ℕ) (top : ℕ) (before after : List ℕ) : Type 0 where
  pub rows : (s c : ℕ) → s < top → In c g.n → wiring_of g after c (track s) 1 ≡ row_of o start s c
  pub trunks : (s c : ℕ) → s < top → In c g.n → wiring_of g after c (track s) 2 ≡ trunk_of o s c
  pub kept : (c j l : ℕ) → Inside g (point c j l) → ((s : ℕ) → s < top → j ≢ track s) → wiring_of g after c j l ≡ wiring_of g before c j l
  pub long : length after ≡ length before
  pub others : (b : ℕ) → g.n * g.w * g.k ≤ b → get_or after b 0 ≡ get_or before b 0

pub record ChannelDrawn (north south : List ℕ) (n w : ℕ) (down up : Ops) (before after : List ℕ) : Type 0 where
  pub drawn : OpsDrawn n (column_pins north south) down up (wiring_of (upright n w 2) after)
  pub long : length after ≡ length before
  pub others : (b : ℕ) → n * w * 2 ≤ b → get_or after b 0 ≡ get_or before b 0
