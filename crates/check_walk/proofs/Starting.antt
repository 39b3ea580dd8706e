-- Where a walk starts: at a marked pin, in the cell that it touches, which is reached because it is joined to the pin.
use Prim.Native.Nat.{ℕ, ◌+◌, ◌*◌, ◌<◌}
use mathlib.Core.Path.{◌≡◌, refl, sym, ap, ◌∙◌}
use mathlib.Core.Logic.{◌⊎◌, inl, inr, ◌≢◌, ⊎_elim}
use mathlib.Core.Bool.{Bool}
use mathlib.Core.List.{List}
use native.Mathlib.Omega.{arith}
use lib.ListN.{length, set}
use lib.Seq.{get_or-set_same}
use Rattle.grid.specs.Grid.{Grid}
use Rattle.check_link.specs.Marks.{at}
use Rattle.check_link.specs.Edges.{horizontal}
use Rattle.check_link.proofs.Zeros.{elsewhere}
use Rattle.check_sweep.specs.Reached.{Spot, a_pin, a_point, val, two, here, on, Grown}
use Rattle.check_sweep.specs.Pins.{Edges}
use Rattle.check_step.specs.declared.Cell.{Cell}
use Rattle.check_step.specs.Step.{On, Claimed}
use Rattle.check_step.proofs.Steps.{tip_edge}
use Rattle.check_step.proofs.Growing.{grown_mark, claimed_point}
use Rattle.check_walk.specs.Walk.{Pinned}

-- a point of layer l + 1
pub on_layer : {g : Grid} {i j l each n tried : ℕ} → each ≡ g.n * g.w → n ≡ g.n → i < g.n → j < g.w → l < g.k
    → On g (record { q = l * each + (j * n + i); i = i; j = j; l = l; tried = tried })
on_layer {g} {i} {j} {l} e f a b c =
    record { column = a; track = b; layer = c; is = omega (arith, ap (λ (u : ℕ). l * u) e, ap (λ (u : ℕ). j * u) f) }

-- another mark where there was one
pub remarked : (p s x m : List ℕ) {E : Spot → Spot → Type 0} {a d : ℕ} → a < length s → at s a ≢ 0 → d ≢ 0
    → Grown (val p x) (two s m) (two (set s a d) m) E
remarked p s x m {a = a} {d = d} h k nz = grown_mark (a_pin a) rest (λ z. nz (sym (get_or-set_same s a d 0 h) ∙ z)) (here k)
  where
    rest : (c : Spot) → (c ≡ a_pin a) ⊎ (val (set s a d) m c ≡ val s m c)
    rest (a_pin b) = ⊎_elim (λ e. inl (ap a_pin e)) inr (elsewhere s a d b)
    rest (a_point q) = inr refl

-- from a pin to the cell that it touches
pub begun : {g : Grid} (p : List ℕ) {s x m m' : List ℕ} {a : ℕ} {c : Cell} {flat r : Bool} → Pinned g s a c flat → horizontal g.first c.l ≡ flat
    → Claimed x m m' c.q (at p a) 5 r → c.q < length m → Grown (val p x) (two s m) (two s m') (Edges g)
begun {g} p {s} {x} {m} {m'} {a} {c} {flat} {r} h e t l =
    claimed_point p s x m m' c.q (at p a) 5 r t l (λ z. omega arith) (λ q. on (here h.marked) (tip_edge h.cell a flat e h.tip) (sym q))
