-- "Layer view, given wiring, n, w, k and layer."
--
--   view_refusal x n w k l   "11, n or w outside 1 to 90 or k outside 1 to 255 (0); 12, as above; 16, layer outside 1 to k (that layer)";
--                            the limit on w is 157 "in Layer view always" (document 02, job 1); 12 as above is "wiring length not
--                            n × w × k (the right length)"
--   view_accepted x n w k l  nothing is refused
--   view_start, view_length  where the layer's part starts in the wiring, at the layer's first point, and its length; 0 and 0 when refused
--   view_part x n w k l      the "part of n × w bytes for the layer, and an empty part when refused"
--   OwnPart x start size r   "the wiring's own part": r is no copy, but lies in the memory of x, start bytes after the first byte of x, and
--                            has size bytes. A slice's value has beside its bytes its place, a block of memory and an offset in it
--                            (ref_ptr)
use Rattle.std.specs.Prelude.{ℕ, ◌+◌, ◌*◌, ◌≡◌, Bool, cond, ◌&&◌, List, eqb, length, take, drop}
use Rattle.std.specs.Borrow.{Bor}
use Rattle.terms.specs.declared.Refusal.{Refusal}
use Rattle.grid.specs.Grid.{upright}
use Rattle.terms.specs.Refusals.{refusal, unless}
use Rattle.terms.specs.Limits.{longest_side, widest_grid, most_layers, within}
use Rattle.grid.specs.Legal.{index}

unfoldable pub view_refusal : List ℕ → ℕ → ℕ → ℕ → ℕ → Refusal
view_refusal x n w k l =
    unless (within n longest_side && within w widest_grid && within k most_layers) (refusal 11 0)
    (unless (eqb (length x) (n * w * k)) (refusal 12 (n * w * k))
    (unless (within l k) (refusal 16 l) (refusal 0 0)))

abbrev pub view_accepted : List ℕ → ℕ → ℕ → ℕ → ℕ → Bool
view_accepted x n w k l = eqb (view_refusal x n w k l).number 0

unfoldable pub view_start : List ℕ → ℕ → ℕ → ℕ → ℕ → ℕ
view_start x n w k l = cond (view_accepted x n w k l) (index (upright n w k) 1 1 l) 0

unfoldable pub view_length : List ℕ → ℕ → ℕ → ℕ → ℕ → ℕ
view_length x n w k l = cond (view_accepted x n w k l) (n * w) 0

abbrev pub view_part : List ℕ → ℕ → ℕ → ℕ → ℕ → List ℕ
view_part x n w k l = take (view_length x n w k l) (drop (view_start x n w k l) x)

pub record OwnPart (x : Bor (List ℕ)) (start size : ℕ) (r : Bor (List ℕ)) : Type 0 where
  pub block : r.ref_ptr.0 ≡ x.ref_ptr.0
  pub offset : r.ref_ptr.1 ≡ x.ref_ptr.1 + start
  pub extent : length r.now ≡ size
