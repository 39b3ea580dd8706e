-- A trunk is a run of bytes: the points that it claims are those whose bytes lie in the run.
use Prim.Native.Nat.{ℕ, suc, ◌+◌, ◌*◌, ◌-◌, ◌/◌, ◌%◌, ◌≤◌, ◌<◌}
use native.Mathlib.Omega.{arith}
use native.Mathlib.Nat.{zero-mul, mul-one}
use native.Mathlib.Decide.{dec_le, dec_lt}
use mathlib.Core.Path.{◌≡◌, refl, sym, ap, subst, ◌∙◌}
use mathlib.Core.Logic.{inl, inr}
use mathlib.Core.List.{List}
use lib.ListN.{length, get_or}
use borrow.Rule.Slice.PartMut.{mid_of, put_mid}
use Rattle.grid.specs.Grid.{Grid, upright, point, Inside}
use Rattle.grid.specs.Legal.{index, wiring_of}
use Rattle.grid.proofs.Buffer.{index_is, index_in, index_once, layer_from, layer_in}
use Rattle.paint.specs.Paint.{Painted}
use Rattle.paint.proofs.Laws.{put_painted}
use Rattle.channel_law.specs.Drawing.{Plan, Claims}
use Rattle.channel_law.proofs.Laying.{lay}
use Rattle.trunks.specs.Trunks.{Trunks, left_of, right_of, place_of}
use Rattle.channel.specs.Laying.{plan_of, Seated, Crossed}

-- a run of points of one track is a run of bytes, and lies in the buffer
pub run_in : (g : Grid) (left right j l : ℕ) → left ≤ right → right ≤ g.n → Inside g (point left j l)
    → index g left j l + (right - left + 1) ≤ g.n * g.w * g.k
run_in g left right j l h k i = omega (arith, index_in g right j l (omega arith, i.1, i.2))

-- it lies in its layer's part too, which is a grid of one layer
module _ {n w k left right j l : ℕ} (h : left ≤ right) (r : right ≤ n) (i : Inside (upright n w k) (point left j l)) where
  pub run_in_layer : index (upright n w 1) left j 1 + (right - left + 1) ≤ n * w
  run_in_layer = omega (arith, run_in (upright n w 1) left right j 1 h r (i.0, i.1, omega arith), mul-one (n * w))

  -- the run is painted in the layer's part, and that is put back
  pub run_put : {from to : ℕ} {f : ℕ → ℕ → ℕ} (xs ys : List ℕ) → from ≡ index (upright n w k) 1 1 l → to ≡ from + n * w → n * w * k ≤ length xs
      → Painted (mid_of from (to - from) xs) ys (index (upright n w 1) left j 1) (right - left + 1) 1 f
      → Painted xs (put_mid from (to - from) xs ys) (index (upright n w k) left j l) (right - left + 1) 1 f
  run_put {from} {to} {f} xs ys start end room p =
      let at : from + index (upright n w 1) left j 1 ≡ index (upright n w k) left j l
      = omega (
        arith,
        start,
        layer_from (upright n w k) l,
        index_is (upright n w k) left j l (omega arith),
        index_is (upright n w 1) left j 1
            (omega arith),
      ) in
      subst (λ (u : ℕ). Painted xs (put_mid from (to - from) xs ys) u (right - left + 1) 1 f) at
      (put_painted xs ys (omega arith) (omega (arith, layer_in (upright n w k) l i.2)) (omega (arith, run_in_layer, mul-one (right - left + 1))) p)

module _ {plan : Plan} {g : Grid} {before now : List ℕ} {t : ℕ} (s : Seated plan g) (c : Crossed plan g before now t) where
  -- a net that lies in one column has no trunk
  pub cross_none : {m : ℕ} → m ≡ suc t → plan.right m ≤ plan.left m → Crossed plan g before now m
  cross_none {m} e h = record {
    trunks = rw e (lay s.inside s.apart c.trunks (λ i j l k. absurd (none k.0)) (λ i j l i' k. refl));
    combs = c.combs;
    long = c.long;
    others = c.others;
  }
    where
      none : plan.left (suc t) < plan.right (suc t) → ⊥
      none lt = omega (arith, ap plan.left e, ap plan.right e)

  abbrev from : ℕ → ℕ
  from m = index g (plan.left m) (plan.track m) (plan.layer m)

  abbrev count : ℕ → ℕ
  count m = plan.right m - plan.left m + 1

  module _ (m : ℕ) (lt : plan.left m < plan.right m) {after : List ℕ} (p : Painted now after (from m) (count m) 1 (λ i j. m)) where
    inside : Inside g (point (plan.left m) (plan.track m) (plan.layer m))
    inside = s.inside m _ _ _ (lt, refl, refl, omega arith, omega arith)

    last : Inside g (point (plan.right m) (plan.track m) (plan.layer m))
    last = s.inside m _ _ _ (lt, refl, refl, omega arith, omega arith)

    new : (i j l : ℕ) → Claims plan m i j l → wiring_of g after i j l ≡ m
    new i j l (lt, ej, el, lo, hi) =
        rw (← ej, ← el) (ap (λ (u : ℕ). get_or after u 0) (omega (arith, zero-mul (count m), inside)) ∙ p.here (i - plan.left m) 0 (omega arith)
        (omega arith))

    -- a byte of the run is one of these points
    found : (i j l : ℕ) → Inside g (point i j l) → from m ≤ index g i j l → index g i j l < from m + count m → Claims plan m i j l
    found i j l h lo hi =
        let i₀ = plan.left m + (index g i j l - from m) in
        let within : Inside g (point i₀ (plan.track m) (plan.layer m)) = (omega (arith, inside, last), inside.1, inside.2) in
        let (ei, ej, el) = index_once g i j l i₀ (plan.track m) (plan.layer m) h within (omega (arith, inside)) in
        (lt, sym ej, sym el, omega arith, omega arith)

    old : (i j l : ℕ) → Inside g (point i j l) → ¬ (Claims plan m i j l) → wiring_of g after i j l ≡ wiring_of g now i j l
    old i j l h free = elim (dec_lt (index g i j l) (from m)) [
      | yes under ↦ p.others (index g i j l) (inl under)
      | no over ↦ elim (dec_le (from m + count m * 1) (index g i j l)) [
        | yes past ↦ p.others (index g i j l) (inr past)
        | no within ↦ absurd (free (found i j l h (omega arith) (omega arith)))
      ]
    ]

    pub laid : m ≡ suc t → Crossed plan g before after m
    laid e = record {
      trunks = rw e (lay s.inside s.apart c.trunks (rw e at new) (rw e at old));
      combs = λ i j l h odd. old i j l h (λ k. absurd (omega (arith, s.flat m i j l k))) ∙ c.combs i j l h odd;
      long = p.long ∙ c.long;
      others = λ b h. p.others b (inr (omega (
        arith,
        run_in g (plan.left m) (plan.right m) (plan.track m) (plan.layer m) (omega arith)
            last.0.1 inside,
      ))) ∙ c.others b h;
    }

-- the same of trunk places as code has them
module _ (t : Trunks) (w m : ℕ) {g : Grid} {left right place : ℕ} (s : Seated (plan_of t w) g) (el : left ≡ left_of t m) (er : right ≡ right_of t m)
    (ep : place ≡ place_of t m) (lt : left < right) where
  pub seats : (left ≤ right) × (right ≤ g.n) × Inside g (point left (place % w + 1) (2 * (place / w) + 2))
  seats =
      let lt' : left_of t m < right_of t m = omega arith in
      let last = s.inside m (right_of t m) (place_of t m % w + 1) (2 * (place_of t m / w) + 2) (lt', refl, refl, omega arith, omega arith) in
      (omega arith, omega arith, rw (el, ep) (s.inside m _ _ _ (lt', refl, refl, omega arith, omega arith)))

pub cross_at : (t : Trunks) (w : ℕ) {k m left right place : ℕ} {g : Grid} {before now after : List ℕ} → Seated (plan_of t w) g
    → Crossed (plan_of t w) g before now k → m ≡ suc k → left ≡ left_of t m → right ≡ right_of t m → place ≡ place_of t m → left < right
    → Painted now after (index g left (place % w + 1) (2 * (place / w) + 2)) (right - left + 1) 1 (λ i j. m)
    → Crossed (plan_of t w) g before after m
cross_at t w {m = m} s c next el er ep lt p = laid s c m (omega arith) (rw (el, er, ep) at p) next
