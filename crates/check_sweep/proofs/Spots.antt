-- A new mark on a pin or on a point is one of the two together, and a sweep of the points alone is one of both that leaves the pins.
use Prim.Native.Nat.{ℕ, ◌<◌}
use mathlib.Core.Path.{◌≡◌, refl, ap}
use mathlib.Core.Logic.{◌⊎◌, inl, inr, ⊎_elim}
use mathlib.Core.List.{List}
use native.Mathlib.Omega.{arith}
use lib.ListN.{length, set}
use lib.Seq.{get_or-set_same}
use Rattle.check_link.specs.Marks.{at, one, Shut, Added, Swept}
use Rattle.check_link.proofs.Zeros.{zeros_set, elsewhere}
use Rattle.check_link.proofs.Sweeping.{Marked, only_first, only_second}
use Rattle.check_link.specs.Edges.{Only}
use Rattle.check_sweep.specs.Reached.{Spot, a_pin, a_point, val, two}
use Rattle.check_sweep.specs.Pins.{Inner}

pub marked_pin : (s m : List ℕ) (i : ℕ) → i < length s → at s i ≡ 0 → Marked (two s m) (two (set s i 2) m) (a_pin i)
marked_pin s m i h z = record { was = z; is = get_or-set_same s i 2 0 h; rest = rest; fewer = omega (arith, zeros_set s i 1 h z) }
  where
    rest : (c : Spot) → (c ≡ a_pin i) ⊎ (val (set s i 2) m c ≡ val s m c)
    rest (a_pin c) = ⊎_elim (λ e. inl (ap a_pin e)) inr (elsewhere s i 2 c)
    rest (a_point c) = inr refl

pub marked_point : (s m : List ℕ) (i : ℕ) → i < length m → at m i ≡ 0 → Marked (two s m) (two s (set m i 2)) (a_point i)
marked_point s m i h z = record { was = z; is = get_or-set_same m i 2 0 h; rest = rest; fewer = omega (arith, zeros_set m i 1 h z) }
  where
    rest : (c : Spot) → (c ≡ a_point i) ⊎ (val s (set m i 2) c ≡ val s m c)
    rest (a_pin c) = inr refl
    rest (a_point c) = ⊎_elim (λ e. inl (ap a_point e)) inr (elsewhere m i 2 c)

-- one edge between a pin and a point, of which the other end was reached before
pub pin_marked : (p x s m : List ℕ) (a b : ℕ) → at p a ≡ at x b → at s a ≡ 0 → at m b ≡ 1 → a < length s
    → Swept (val p x) (two s m) (two (set s a 2) m) (Only (a_pin a) (a_point b)) 1
pin_marked p x s m a b e z o h = only_first (a_pin a) (a_point b) e o (marked_pin s m a h z)

pub point_marked : (p x s m : List ℕ) (a b : ℕ) → at p a ≡ at x b → at s a ≡ 1 → at m b ≡ 0 → b < length m
    → Swept (val p x) (two s m) (two s (set m b 2)) (Only (a_pin a) (a_point b)) 1
point_marked p x s m a b e o z h = only_second (a_pin a) (a_point b) e o (marked_point s m b h z)

-- a sweep of the points alone, seen with the pins
pub inner : (p x s m m' : List ℕ) {E : ℕ → ℕ → Type 0} {c : ℕ} → Swept (at x) (one m) (one m') E c → Swept (val p x) (two s m) (two s m') (Inner E) c
inner p x s m m' {E} {c} r = record { each = each; full = full; still = still; less = omega (arith, r.less) }
  where
    there : (q : ℕ) → Added (at x) (one m) (one m') E q → Added (val p x) (two s m) (two s m') (Inner E) (a_point q)
    there q n = record { was = n.was; is = n.is; from = a_point n.from; edge = n.edge; same = n.same; old = n.old }

    each : (a : Spot) → (val s m' a ≡ val s m a) ⊎ Added (val p x) (two s m) (two s m') (Inner E) a
    each (a_pin a) = inl refl
    each (a_point q) = ⊎_elim inl (λ n. inr (there q n)) (r.each q)

    full : (a b : Spot) → Inner E a b → Shut (val p x a) (val p x b) (val s m a) (val s m b) (val s m' a) (val s m' b)
    full (a_point a) (a_point b) e = r.full a b e
    full (a_point a) (a_pin b) e = absurd e
    full (a_pin a) b e = absurd e

    still : c ≡ 0 → (a : Spot) → val s m' a ≡ val s m a
    still z (a_pin a) = refl
    still z (a_point q) = r.still z q
