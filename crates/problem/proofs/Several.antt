-- Each net has at least two pins: so it is in every grid of the same sides, and after every motion.
use Prim.Native.Nat.{ℕ}
use mathlib.Core.Path.{◌≡◌, sym, ap, ◌∙◌, subst}
use mathlib.Core.Logic.{◌≢◌}
use Rattle.counting.specs.Counting.{In}
use Rattle.terms.specs.Kinds.{Side}
use Rattle.grid.specs.Grid.{Grid, Node, pin, places, Inside}
use Rattle.grid.specs.Legal.{Pins, holds}
use Rattle.grid.specs.Motion.{moved_pins}
use Rattle.grid.proofs.Motions.{Carries}
use Rattle.problem.specs.Problem.{Another}

abbrev pub Several : Grid → Pins → Type 0
Several g p = (s : Side) (a : ℕ) → p s a ≢ 0 → Another g p s a

pub several_same : {g g' : Grid} {p : Pins} → ((s : Side) → places g s ≡ places g' s) → Several g p → Several g' p
several_same same h s a nz =
    let o = h s a nz in
    record {
      side = o.side;
      place = o.place;
      on = subst (In o.place) (same o.side) o.on;
      net = o.net;
      different = o.different;
    }

module _ {g g' : Grid} {f b : Node → Node} (c : Carries g g' f b) (d : Carries g' g b f) (p : Pins) where
  abbrev seen : Node → ℕ
  seen = holds p (λ i j l. 0)

  pub moved_several : Several g p → Several g' (moved_pins b p)
  moved_several h s a nz =
      let (t, e, q) = d.pins s a in
      let o = h t e (λ z. nz (ap seen q ∙ z)) in
      let other : Node = pin o.side o.place in
      let (u, v, r) = c.pins o.side o.place in
      let again : b (pin u v) ≡ other = ap b (sym r) ∙ c.again other o.on in
      record {
        side = u;
        place = v;
        on = subst (Inside g') r (c.there other o.on);
        net = ap seen again ∙ o.net ∙ sym (ap seen q);
        different = λ same. o.different (sym again ∙ ap b same ∙ q);
      }
