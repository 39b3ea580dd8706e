-- What a layer view that is not refused may rely on, where its part lies, and that such a part is the one promised.
use Prim.Native.Nat.{ℕ, ◌+◌, ◌*◌, ◌≤◌}
use mathlib.Core.Path.{◌≡◌, refl, sym, ap, ◌∙◌}
use mathlib.Core.Bool.{Bool, true, false, ◌&&◌}
use mathlib.Core.List.{List}
use mathlib.Core.Logic.{◌≢◌}
use native.Mathlib.Omega.{arith}
use denote.Ref.{Bor}
use lib.Dec.{eqb}
use lib.ListN.{length, length-drop, take, drop}
use lib.Seq.{length-take-le}
use borrow.Author.Tests.{eqb-true, eq-eqb, ne_eqb}
use Rattle.counting.specs.Counting.{In}
use Rattle.terms.specs.declared.Refusal.{Refusal}
use Rattle.grid.specs.Grid.{upright}
use Rattle.terms.specs.Refusals.{refusal, unless}
use Rattle.terms.specs.Limits.{longest_side, widest_grid, most_layers, within}
use Rattle.terms.proofs.Laws.{within_in, passed}
use Rattle.grid.specs.Legal.{index}
use Rattle.grid.proofs.Buffer.{layer_in}
use Rattle.grid.proofs.Sizes.{Sized, sized}
use Rattle.view.specs.View.{view_refusal, view_start, view_length, OwnPart}

pub record Viewed (x : List ℕ) (n w k l : ℕ) : Type 0 where
  pub grid : Sized n w k
  pub whole : length x ≡ n * w * k
  pub level : In l k

pub viewed : (x : List ℕ) (n w k l : ℕ) → (view_refusal x n w k l).number ≡ 0 → Viewed x n w k l
unfolding view_refusal
viewed x n w k l e =
    let (a, f) = passed (within n longest_side && within w widest_grid && within k most_layers) (refusal 11 0)
    (unless (eqb (length x) (n * w * k)) (refusal 12 (n * w * k)) (unless (within l k) (refusal 16 l) (refusal 0 0))) (λ z. omega arith) e in
    let (b, d) = passed (eqb (length x) (n * w * k)) (refusal 12 (n * w * k)) (unless (within l k) (refusal 16 l) (refusal 0 0)) (λ z. omega arith) f in
    let (c, _) = passed (within l k) (refusal 16 l) (refusal 0 0) (λ z. omega arith) d in
    record { grid = sized n w k a; whole = eqb-true _ _ b; level = within_in l k c }

module _ (x : List ℕ) (n w k l : ℕ) (r : Refusal) (given : r ≡ view_refusal x n w k l) where
  pub seen : r.number ≡ 0 → Viewed x n w k l
  seen h = viewed x n w k l (rw given at h)

  pub start_refused : r.number ≢ 0 → (view_start x n w k l ≡ 0) × (view_length x n w k l ≡ 0)
  unfolding view_start view_length
  start_refused h = (simp (← given, ne_eqb r.number 0 h), simp (← given, ne_eqb r.number 0 h))

  pub start_seen : r.number ≡ 0 → (view_start x n w k l ≡ index (upright n w k) 1 1 l) × (view_length x n w k l ≡ n * w)
  unfolding view_start view_length
  start_seen h = (simp (← given, eq-eqb r.number 0 h), simp (← given, eq-eqb r.number 0 h))

  -- the layer's part ends within the wiring
  pub part_in : r.number ≡ 0 → index (upright n w k) 1 1 l + n * w ≤ length x
  part_in h = let v = seen h in omega (arith, layer_in (upright n w k) l v.level, v.whole)

-- a part that starts where the view starts and has its length is the view's
pub shown : (x r : Bor (List ℕ)) {start size : ℕ} (from count : ℕ)
    → r.now ≡ take count (drop from x.now) → r.ref_ptr.0 ≡ x.ref_ptr.0 → r.ref_ptr.1 ≡ x.ref_ptr.1 + from
    → start ≡ from → size ≡ count → from + count ≤ length x.now
    → (r.now ≡ take size (drop start x.now)) × OwnPart x start size r
shown x r from count bytes block offset s e fits =
    let many = length-take-le count (drop from x.now) (omega (arith, length-drop from x.now)) in
    (rw (s, e) bytes, record { block = block; offset = omega (arith, offset, s); extent = ap length bytes ∙ many ∙ sym e })
