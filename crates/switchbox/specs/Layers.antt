-- Layers of a box in the buffer, seen upright: where the box was turned its columns are the buffer's tracks.
-- No promise of a public call cites this.
--
--   StripedAs turned before after n w f         the layer's part holds f i j in column i and track j, counted from 0
--   DrawnAs turned n w before after top x       layers 1 to top hold the wiring x, and every byte past them is as it was
--   Combed own k part                           the part has a line of length k for each place of the side `own`
--   CombAs by_track o a b c d s k before after  the layer is the comb of the moved box's side s: on each of the ticket's lines, of length
--                                               k, stands the pin there; its lines are tracks where by_track, else columns
--   track_lines w q p tracks                    the wiring of the combs of north and south, whose pins are p, and of the tracks
--   Lined o a b c d n w tracks q wiring         the box has n columns and w tracks when moved, and as many lanes as the q track layers
--                                               have tracks; the buffer is long enough for 2q layers
--   box_lines w q p tracks columns              the wiring of a box whose pins are p
--   Drawable o a b c d n w tracks columns q wiring    there are n columns too, and the buffer is long enough
--   LaidAs o n w p before after                 a wiring of the box is drawn on the ticket's lines, its lanes assigned by the rules; n and
--                                               w are those of the moved box
use Rattle.std.specs.Prelude.{ℕ, suc, ◌+◌, ◌*◌, ◌≤◌, ◌≡◌, List, Bool, true, false, length}
use Rattle.grid.specs.Legal.{Pins, Wiring, entry, pins_of}
use Rattle.grid.specs.Motion.{Orientation}
use Rattle.terms.specs.Kinds.{Side}
use Rattle.terms.specs.Limits.{longest_side}
use Rattle.counting.specs.Counting.{In, ceil}
use Rattle.orientation.specs.Lookup.{own_list, on_lines}
use Rattle.switchbox_law.specs.Drawing.{BoxLaid, full_lines}
use Rattle.switchbox.specs.Box.{Sides}
use Rattle.paint.specs.Paint.{Striped, Drawn}

abbrev pub StripedBy : Bool → List ℕ → List ℕ → ℕ → ℕ → (ℕ → ℕ → ℕ) → Type 0
StripedBy false before after n w f = Striped before after n w f
StripedBy true before after n w f = Striped before after w n (λ i j. f j i)

abbrev pub DrawnBy : Bool → ℕ → ℕ → List ℕ → List ℕ → ℕ → Wiring → Type 0
DrawnBy false n w before after top x = Drawn n w before after top x
DrawnBy true n w before after top x = Drawn w n before after top (λ i j l. x j i l)

pub record StripedAs (turned : Bool) (before after : List ℕ) (n w : ℕ) (f : ℕ → ℕ → ℕ) : Type 0 where
  pub is : StripedBy turned before after n w f

pub record DrawnAs (turned : Bool) (n w : ℕ) (before after : List ℕ) (top : ℕ) (x : Wiring) : Type 0 where
  pub is : DrawnBy turned n w before after top x

pub record Combed (own : List ℕ) (k : ℕ) (part : List ℕ) : Type 0 where
  pub short : In (length own) longest_side
  pub some : 1 ≤ k
  pub size : length part ≡ length own * k

abbrev pub CombAs : Bool → Orientation → List ℕ → List ℕ → List ℕ → List ℕ → Side → ℕ → List ℕ → List ℕ → Type 0
CombAs by_track o a b c d s k before after =
    StripedAs by_track before after (length (own_list o a b c d s)) k (λ i j. on_lines o (pins_of a b c d) s (suc i))

abbrev pub track_lines : ℕ → ℕ → Pins → List ℕ → Wiring
track_lines w q p tracks = full_lines w q p (entry tracks) (λ i. 0)

pub record Lined (o : Orientation) (a b c d : List ℕ) (n w : ℕ) (tracks : List ℕ) (q : ℕ) (wiring : List ℕ) : Type 0 where
  pub sides : Sides o a b c d n w
  pub long : In n longest_side
  pub wide : In w longest_side
  pub lanes : length tracks ≡ q * w
  pub few : q ≤ longest_side
  pub room : 2 * q * (n * w) ≤ length wiring

abbrev pub box_lines : ℕ → ℕ → Pins → List ℕ → List ℕ → Wiring
box_lines w q p tracks columns = full_lines w q p (entry tracks) (entry columns)

pub record Drawable (o : Orientation) (a b c d : List ℕ) (n w : ℕ) (tracks columns : List ℕ) (q : ℕ) (wiring : List ℕ) : Type 0 where
  pub lined : Lined o a b c d n w tracks q wiring
  pub posts : length columns ≡ n
  pub room : (2 * q + 4) * (n * w) ≤ length wiring

pub record LaidAs (o : Orientation) (n w : ℕ) (p : Pins) (before after : List ℕ) : Type 0 where
  pub tracks : ℕ → ℕ
  pub columns : ℕ → ℕ
  pub wiring : Wiring
  pub laid : BoxLaid n w (ceil n w) (on_lines o p) wiring tracks columns
  pub drawn : DrawnAs o.turned n w before after (2 * ceil n w + 4) wiring
