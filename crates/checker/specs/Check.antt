-- Check: what it answers, for every input.
--
--   width_fits q w            w is one that the ticket's wirings have; "w outside 1 to 90, or not a box's own w"; "157 for this
--                             kind", two-layer channels (document 02, job 1)
--   check_refusal t w k x y   the refusals before the wiring is looked at, by the reading t, the wiring's length x and the scratch's
--                             length y: "Those of Read; 11, w outside 1 to 90, or not a box's own w, or k outside 1 to 255 (0); 12,
--                             wiring length not n × w × k (the right length); 13, scratch shorter than that (the length needed)"
--   check_grid q w k first    the grid: the ticket's n, and the counts and the direction that Check is given
--   Foreign g p x q           "a nonzero point that holds no net of the ticket", byte q of the buffer
--   FirstForeign g p x q      "14, .. (the first point, in buffer order)"
--   OnePiece g p x m          all that holds net m is linked; "for each net, its pins and points form one joined piece"
--   Broken g p x m            two nodes that hold net m and are not linked
--   FirstBroken g p x m       "15, a net not in one piece (the smallest such net)"; no point is foreign
--   Judged g p x r            what Check finds of a wiring: "accepts a wiring of a ticket .. exactly when it is legal", else 14 or else 15
--   Checked t .. r            Check's whole outcome, where t is what the ticket's bytes say; "Scratch is untouched by 1 to 13 and free
--                             otherwise"
use Rattle.std.specs.Prelude.{ℕ, ◌*◌, ◌<◌, ◌≡◌, ◌⊎◌, ◌≢◌, ◌↔◌, Bool, true, cond, ◌&&◌, List, eqb, leb, length, get_or}
use Rattle.counting.specs.Counting.{In}
use Rattle.terms.specs.Kinds.{Side, has_own_width, widest}
use Rattle.terms.specs.Limits.{most_layers, within}
use Rattle.terms.specs.declared.Refusal.{Refusal}
use Rattle.terms.specs.Refusals.{refusal, accepted, unless}
use Rattle.grid.specs.Grid.{Grid, Node, places}
use Rattle.grid.specs.Legal.{Pins, Wiring, Held, Linked, Legal, GridOf, wiring_of}
use Rattle.problem.specs.declared.Problem.{Problem}
use Rattle.problem.specs.Problem.{pins_in}
use Rattle.ticket.specs.declared.Reading.{Reading}

-- ---- before the wiring is looked at

abbrev pub width_fits : Problem → ℕ → Bool
width_fits q w = within w (widest q.kind) && cond (has_own_width q.kind) (eqb w q.byte2) true

unfoldable pub check_refusal : Reading → ℕ → ℕ → ℕ → ℕ → Refusal
check_refusal t w k x y =
    unless (accepted t.refusal) t.refusal
    (unless (width_fits t.problem w && within k most_layers) (refusal 11 0)
    (unless (eqb x (t.problem.n.0 * w * k)) (refusal 12 (t.problem.n.0 * w * k))
    (unless (leb (t.problem.n.0 * w * k) y) (refusal 13 (t.problem.n.0 * w * k)) (refusal 0 0))))

abbrev pub check_grid : Problem → ℕ → ℕ → Bool → Grid
check_grid q w k first = record { n = q.n.0; w = w; k = k; first = first }

-- ---- what is found in it

pub record Foreign (g : Grid) (p : Pins) (x : List ℕ) (q : ℕ) : Type 0 where
  pub metal : get_or x q 0 ≢ 0
  pub no_pin : (s : Side) (a : ℕ) → In a (places g s) → p s a ≢ get_or x q 0

pub record FirstForeign (g : Grid) (p : Pins) (x : List ℕ) (q : ℕ) : Type 0 where
  pub point : q < length x
  pub foreign : Foreign g p x q
  pub first : (r : ℕ) → r < q → Foreign g p x r → ⊥

abbrev pub OnePiece : Grid → Pins → Wiring → ℕ → Type 0
OnePiece g p x m = (u v : Node) → Held g p x m u → Held g p x m v → Linked g p x m u v

pub record Broken (g : Grid) (p : Pins) (x : Wiring) (m : ℕ) : Type 0 where
  pub one : Node
  pub other : Node
  pub held_one : Held g p x m one
  pub held_other : Held g p x m other
  pub apart : Linked g p x m one other → ⊥

pub record FirstBroken (g : Grid) (p : Pins) (x : List ℕ) (m : ℕ) : Type 0 where
  pub known : (q : ℕ) → q < length x → Foreign g p x q → ⊥
  pub net : m ≢ 0
  pub broken : Broken g p (wiring_of g x) m
  pub first : (o : ℕ) → o ≢ 0 → o < m → OnePiece g p (wiring_of g x) o

pub record Judged (g : Grid) (p : Pins) (x : List ℕ) (r : Refusal) : Type 0 where
  pub accepts : (r.number ≡ 0) ↔ Legal g p (wiring_of g x)
  pub number : (r.number ≡ 0) ⊎ ((r.number ≡ 14) ⊎ (r.number ≡ 15))
  pub place : r.number ≡ 0 → r.place ≡ 0
  pub foreign : r.number ≡ 14 → FirstForeign g p x r.place
  pub broken : r.number ≡ 15 → FirstBroken g p x r.place

-- ---- the call: t is what the ticket says, x the wiring, y the scratch as it was and y' as it is left

pub record Checked (t : Reading) (w k : ℕ) (first : Bool) (x y y' : List ℕ) (r : Refusal) : Type 0 where
  pub kept : length y' ≡ length y
  pub refused : (check_refusal t w k (length x) (length y)).number ≢ 0 → (r ≡ check_refusal t w k (length x) (length y)) × (y' ≡ y)
  pub grid : (check_refusal t w k (length x) (length y)).number ≡ 0
      → GridOf t.problem.kind t.problem.n.0 t.problem.byte2 (check_grid t.problem w k first)
  pub judged : (check_refusal t w k (length x) (length y)).number ≡ 0 → Judged (check_grid t.problem w k first)
      (pins_in t.problem.pins) x r
