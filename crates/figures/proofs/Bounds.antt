-- A good problem's sides along the grid are few places that hold nets; and the figures from what the functions give.
use Prim.Native.Nat.{ℕ, suc, ◌≤◌}
use mathlib.Core.Path.{◌≡◌, refl, ap, ap₂, ◌∙◌}
use mathlib.Core.Bool.{cond}
use mathlib.Core.List.{List}
use native.Mathlib.Omega.{arith}
use lib.Dec.{eqb}
use Rattle.std.specs.Int.{div_ceil}
use Rattle.std.proofs.lemmas.Grind.{common_steps}
use Rattle.counting.specs.Counting.{In, ceil}
use Rattle.grid.specs.Grid.{upright}
use Rattle.grid.specs.Legal.{entry}
use Rattle.terms.specs.Kinds.{box, by_kind, layers_for}
use Rattle.terms.specs.Limits.{largest_net, longest_side}
use Rattle.density.specs.Density.{across, box_across, up, tracks_for, floor, floor_of}
use Rattle.problem.specs.declared.Problem.{Problem}
use Rattle.problem.specs.Problem.{Good, pins_in, shape_of, width_of}
use Rattle.problem.proofs.Sizes.{width_in}
use Rattle.nets.specs.Tables.{first_held, last_held, NetTable}
use Rattle.figures.specs.Crossings.{AlongSides}
use Rattle.figures.specs.Figures.{across_of, tracks_of, figures_of}
use Rattle.terms.proofs.Laws.{Known, is_row, is_channel, is_box, is_two_layer, known}

-- the quotient rounded up, as the code has it
pub rounded_up : (a b : ℕ) → 1 ≤ b → div_ceil a b ≡ ceil a b
unfolding ceil
rounded_up a b one = grind (arith, common_steps)

pub sides : {a b first last : List ℕ} {k : ℕ} (n : ℕ) → k ≡ n → In n longest_side → ((i : ℕ) → entry a i ≤ largest_net)
    → ((i : ℕ) → entry b i ≤ largest_net) → NetTable (first_held (entry a) (entry b) n) first → NetTable (last_held (entry a) (entry b) n) last
    → AlongSides a b first last k
sides n e i ha hb f l =
    rw e record { fits = i; on_a = record { small = λ v. ha (suc v) }; on_b = record { small = λ v. hb (suc v) }; firsts = f; lasts = l }

-- the sizes as the code has them: length, width and byte 2
pub record Sizes (q : Problem) (long w b : ℕ) : Type 0 where
  pub length : long ≡ q.n.0
  pub width : w ≡ width_of q
  pub byte2 : b ≡ q.byte2

-- a is across, u is up
module _ {q : Problem} (good : Good q) {long w b a u t l f x y : ℕ} (z : Sizes q long w b)
    (e_a : let g = upright long (width_of q) 1 in
    a ≡ cond (eqb q.kind box) (box_across g (pins_in q.pins)) (across g (pins_in q.pins)))
    (e_u : u ≡ by_kind q.kind 0 0 0 (up (upright q.n.0 w 1) (pins_in q.pins)) 0)
    (e_t : t ≡ tracks_for b a) (e_l : l ≡ layers_for q.kind q.n.0 b) (e_f : f ≡ floor (div_ceil a w) (div_ceil u long))
    (e_x : x ≡ by_kind q.kind 0 t t b 0) (e_y : y ≡ by_kind q.kind 0 0 0 f 0) where
  same_a : a ≡ across_of q
  same_a =
      e_a
      ∙ ap (λ (m : ℕ). let g = upright m (width_of q) 1 in let p = pins_in q.pins in cond (eqb q.kind box) (box_across g p) (across g p))
      z.length
      ∙ for_kind (known q.kind good.kind) (box_across (shape_of q) (pins_in q.pins)) (across (shape_of q) (pins_in q.pins))
    where
      for_kind : {kind : ℕ} → Known kind → (x y : ℕ) → cond (eqb kind box) x y ≡ by_kind kind 0 y y x y
      for_kind is_row x y = refl
      for_kind is_channel x y = refl
      for_kind is_box x y = refl
      for_kind is_two_layer x y = refl

  same_u : u ≡ by_kind q.kind 0 0 0 (up (shape_of q) (pins_in q.pins)) 0
  same_u = e_u ∙ ap (λ (v : ℕ). by_kind q.kind 0 0 0 (up (upright q.n.0 v 1) (pins_in q.pins)) 0) z.width

  same_t : t ≡ tracks_of q
  same_t = e_t ∙ ap₂ tracks_for z.byte2 same_a

  rounded : floor (div_ceil a w) (div_ceil u long) ≡ floor (ceil a w) (ceil u long)
  rounded = ap₂ floor (rounded_up a w (rw z.width (width_in good).0)) (rounded_up u long (rw z.length good.columns.0))

  -- a kind without up has no floor
  floors : {kind : ℕ} → Known kind → (x v p m : ℕ)
      → by_kind kind 0 0 0 (floor (ceil (by_kind kind 0 x x v x) m) (ceil (by_kind kind 0 0 0 p 0) q.n.0)) 0
      ≡ by_kind kind 0 0 0 (floor (ceil v m) (ceil p q.n.0)) 0
  floors is_row x v p m = refl
  floors is_channel x v p m = refl
  floors is_box x v p m = refl
  floors is_two_layer x v p m = refl

  same_y : y ≡ by_kind q.kind 0 0 0 (floor_of (shape_of q) (pins_in q.pins)) 0
  same_y =
      e_y ∙ ap (λ (v : ℕ). by_kind q.kind 0 0 0 v 0) (e_f ∙ rounded ∙ (λ i. floor (ceil (same_a i) (z.width i)) (ceil (same_u i) (z.length i))))
      ∙ floors (known q.kind good.kind) (across (shape_of q) (pins_in q.pins)) (box_across (shape_of q) (pins_in q.pins))
      (up (shape_of q) (pins_in q.pins)) (width_of q)

  pub figures_are : record { w = record { 0 = x }; across = a; up = u; layers = record { 0 = l }; floor = record { 0 = y } } ≡ figures_of q
  unfolding figures_of
  figures_are =
      let same_x : x ≡ by_kind q.kind 0 (tracks_of q) (tracks_of q) q.byte2 0 = e_x ∙ ap₂ (λ (v p : ℕ). by_kind q.kind 0 v v p 0) same_t z.byte2 in
      let same_l : l ≡ layers_for q.kind q.n.0 q.byte2 = e_l ∙ ap (layers_for q.kind q.n.0) z.byte2 in
      λ i. record { w = record { 0 = same_x i }; across = same_a i; up = same_u i; layers = record { 0 = same_l i }; floor = record { 0 = same_y i } }
