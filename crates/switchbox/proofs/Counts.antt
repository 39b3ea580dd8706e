-- The tables of counts say how many pins each net has on each side, and so how many nets there are of each corner kind.
use Prim.Native.Nat.{ℕ}
use mathlib.Core.Path.{◌≡◌, sym, ap, ap₂, subst₂, ◌∙◌}
use mathlib.Core.List.{List}
use mathlib.Core.Bool.{Bool, true, false, ◌&&◌}
use lib.Dec.{ltb, eqb}
use lib.ListN.{length, get_or}
use Rattle.counting.specs.Counting.{In, count}
use Rattle.counting.proofs.Counts.{count_same}
use Rattle.terms.specs.Kinds.{Side, north, south, west, east}
use Rattle.terms.specs.Limits.{largest_net}
use Rattle.grid.specs.Grid.{Grid, places}
use Rattle.grid.specs.Legal.{Pins, entry, nets, pins_of}
use Rattle.grid.specs.Motion.{Orientation}
use Rattle.orientation.specs.Lookup.{by_side}
use Rattle.orientation.proofs.Looks.{side_pins}
use Rattle.switchbox_law.specs.Rules.{tally, opposite, corner, corners}
use Rattle.switchbox_law.specs.Drawing.{Top}
use Rattle.nets.specs.Tables.{pin_count_to, NetTable}
use Rattle.switchbox.specs.Box.{corner_at}

-- counts is the table of side s
abbrev Table : Grid → Pins → Side → List ℕ → Type 0
Table g p s counts = (m : ℕ) → In m largest_net → get_or counts m 0 ≡ tally g p m s

corner_count : (g : Grid) (p : Pins) (a b : Side) (la lb lc ld : List ℕ) → Table g p a la → Table g p b lb
    → Table g p (opposite a) lc → Table g p (opposite b) ld → nets (corner_at la lb lc ld) ≡ corners g p a b
unfolding corner
corner_count g p a b la lb lc ld ha hb hc hd =
    count_same _ _ largest_net (λ m k. ap₂ (λ (u v : Bool). u && v)
    (ap₂ (λ (u v : Bool). u && v) (ap₂ (λ (x y : ℕ). ltb 0 x && ltb 0 y) (ha m k) (hb m k)) (ap (λ (x : ℕ). eqb x 0) (hc m k)))
    (ap (λ (x : ℕ). eqb x 0) (hd m k)))

pub top_same : (a b c d a' b' c' d' : ℕ) (o : Orientation) → a ≡ a' → b ≡ b' → c ≡ c' → d ≡ d' → Top a b c d o → Top a' b' c' d' o
top_same a b c d a' b' c' d' o ea eb ec ed h =
    subst₂ (λ (x y : ℕ). Top x y c' d' o) ea eb (subst₂ (λ (x y : ℕ). Top a b x y o) ec ed h)

-- ---- the choice

abbrev flips : Bool → Bool → Bool → Orientation
flips τ φ ψ = record { turned = τ; columns_reversed = φ; tracks_reversed = ψ }

-- the turn exchanges the corners north-west and south-east, and columns with tracks
pub top_turned : (ne nw se sw : ℕ) (τ τ' φ ψ : Bool) → Top ne se nw sw (flips τ φ ψ) → Top ne nw se sw (flips τ' ψ φ)
top_turned ne nw se sw τ τ' false false h = (h.0, h.2, h.1, h.3)
top_turned ne nw se sw τ τ' true false h = (h.0, h.2, h.1, h.3)
top_turned ne nw se sw τ τ' false true h = (h.0, h.2, h.1, h.3)
top_turned ne nw se sw τ τ' true true h = (h.0, h.2, h.1, h.3)

-- ---- by the tables

module _ {a b c d ca cb cc' cd : List ℕ} (g : Grid) (long : (s : Side) → length (by_side a b c d s) ≡ places g s)
    (counts : (s : Side) → NetTable (pin_count_to (entry (by_side a b c d s)) (length (by_side a b c d s))) (by_side ca cb cc' cd s)) where
  table : (s : Side) → Table g (pins_of a b c d) s (by_side ca cb cc' cd s)
  table s m h = (counts s).is m h ∙ ap (λ (k : ℕ). count (λ i. eqb (entry (by_side a b c d s) i) m) k) (long s)
      ∙ ap (λ (f : ℕ → ℕ). count (λ i. eqb (f i) m) (places g s)) (sym (side_pins a b c d s))

  pub chosen : (o : Orientation) → Top (nets (corner_at ca cd cb cc')) (nets (corner_at ca cc' cb cd)) (nets (corner_at cb cd ca cc'))
      (nets (corner_at cb cc' ca cd)) o
      → Top (corners g (pins_of a b c d) north east) (corners g (pins_of a b c d) north west) (corners g (pins_of a b c d) south east)
      (corners g (pins_of a b c d) south west) o
  chosen o h =
      let p = pins_of a b c d in
      let tn = table north in
      let ts = table south in
      let tw = table west in
      let te = table east in
      top_same _ _ _ _ _ _ _ _ o
      (corner_count g p north east ca cd cb cc' tn te ts tw) (corner_count g p north west ca cc' cb cd tn tw ts te)
      (corner_count g p south east cb cd ca cc' ts te tn tw) (corner_count g p south west cb cc' ca cd ts tw tn te) h
