-- Combs and trunks that are laid make the drawing of a row or a channel, which is legal.
use Prim.Native.Nat.{ℕ, zero, suc, ◌+◌, ◌*◌, ◌%◌, ◌≤◌}
use native.Mathlib.Omega.{arith}
use native.Mathlib.Nat.{mul_comm}
use native.Mathlib.Decide.{dec_le}
use mathlib.Core.Path.{◌≡◌, refl, sym, ◌∙◌}
use mathlib.Core.List.{List}
use lib.ListN.{get_or, take}
use lib.Seq.{get_or-take}
use borrow.Author.Tests.{eq-eqb, ne_eqb}
use Rattle.counting.specs.Counting.{In}
use Rattle.terms.specs.Limits.{largest_net}
use Rattle.grid.specs.Grid.{upright, point, Inside}
use Rattle.grid.specs.Legal.{wiring_of, entry, column_pins}
use Rattle.paint.specs.Paint.{Drawn}
use Rattle.grid.specs.Laid.{Laid}
use Rattle.paint.proofs.Laws.{drawn_wiring}
use Rattle.trunks.specs.Trunks.{Trunks, Placed}
use Rattle.channel_law.specs.Drawing.{Plan, Trunks as TrunksIn}
use Rattle.channel_law.proofs.Legality.{row_legal, channel_legal}
use Rattle.channel.specs.Given.{Given}
use Rattle.channel.specs.Laying.{plan_of, base, Seated, Crossed, Combed}
use Rattle.channel.proofs.Plans.{none, spans, seated}

-- the pins that a comb takes from an array's first n entries
taken : (n : ℕ) (xs : List ℕ) (i : ℕ) → In i n → entry (take n xs) i ≡ entry xs i
taken n xs zero h = absurd (omega arith)
taken n xs (suc i) h = get_or-take n xs i 0 (omega arith)

bare_list : (xs : List ℕ) → ((a : ℕ) → get_or xs a 0 ≡ 0) → (a : ℕ) → entry xs a ≡ 0
bare_list xs h zero = refl
bare_list xs h (suc a) = h a

module _ {plan : Plan} {n w k : ℕ} {mid : List ℕ} (a b : List ℕ) {before : List ℕ} (d : Drawn n w before mid k (base a b)) where
  -- the trunk layers are empty
  pub no_trunks : TrunksIn plan (upright n w k) (wiring_of (upright n w k) mid) 0
  no_trunks = record {
    filled = λ m i j l h. absurd (omega arith);
    only = λ m i j l nz h v e. absurd (nz (sym e ∙ drawn_wiring (upright n w k) d i j l h ∙ rw (ne_eqb (l % 2) 1 (omega arith))));
  }

  module _ {after : List ℕ} (c : Crossed plan (upright n w k) mid after largest_net) where
    comb_one : (i j l : ℕ) → Inside (upright n w k) (point i j l) → l % 4 ≡ 1 → wiring_of (upright n w k) after i j l ≡ entry a i
    comb_one i j l h e = c.combs i j l h (omega arith) ∙ drawn_wiring (upright n w k) d i j l h ∙ rw (eq-eqb (l % 2) 1 (omega arith), eq-eqb (l % 4) 1 e)

    comb_three : (i j l : ℕ) → Inside (upright n w k) (point i j l) → l % 4 ≡ 3 → wiring_of (upright n w k) after i j l ≡ entry b i
    comb_three i j l h e =
        c.combs i j l h (omega arith) ∙ drawn_wiring (upright n w k) d i j l h ∙ rw (eq-eqb (l % 2) 1 (omega arith), ne_eqb (l % 4) 1 (omega arith))

    untouched : (o : ℕ) → n * w * k ≤ o → get_or after o 0 ≡ get_or before o 0
    untouched o h = c.others o h ∙ d.others o (omega (arith, mul_comm k (n * w)))

-- what the trunks ask, once the combs are laid
pub may_cross : {norths souths x mid : List ℕ} {n w h k : ℕ} (a b : List ℕ) (t : Trunks) → Given norths souths n w h k x → 2 * h ≤ k
    → Placed norths souths n t → Drawn n w x mid k (base a b)
    → Seated (plan_of t w) (upright n w k) × TrunksIn (plan_of t w) (upright n w k) (wiring_of (upright n w k) mid) 0
may_cross {norths} {souths} {n = n} {w = w} {h = h} {k = k} a b t given two placed d =
    (seated norths souths n w h k t placed given.tracks.0 given.passed two, no_trunks a b d)

module _ {norths souths : List ℕ} {n w h : ℕ} {before after : List ℕ} where
  pub channel_laid : Given norths souths n w h (2 * h + 1) before → Combed norths souths souths n w (2 * h + 1) before after
      → Laid (upright n w (2 * h + 1)) (column_pins norths souths) before after
  channel_laid given m = record {
    legal = channel_legal {h = h} given.tracks.0 given.trunks.0 none none
        (spans norths souths n w h (2 * h + 1) m.trunks m.placed given.tracks.0 given.passed (omega arith))
        (record {
          norths = λ i j l i' e. comb_one (take n norths) (take n souths) m.combs m.crossed i j l i' e ∙ taken n norths i i'.0;
          souths = λ i j l i' e. comb_three (take n norths) (take n souths) m.combs m.crossed i j l i' e ∙ taken n souths i i'.0;
          trunks = m.crossed.trunks;
        });
    long = m.crossed.long ∙ m.combs.long;
    others = untouched (take n norths) (take n souths) m.combs m.crossed;
  }

  pub row_laid : ((a : ℕ) → get_or souths a 0 ≡ 0) → Given norths souths n w h (2 * h) before
      → Combed norths souths norths n w (2 * h) before after → Laid (upright n w (2 * h)) (column_pins norths souths) before after
  row_laid bare given m = record {
    legal = row_legal {h = h} given.tracks.0 given.trunks.0 none none (bare_list souths bare)
        (spans norths souths n w h (2 * h) m.trunks m.placed given.tracks.0 given.passed (omega arith))
        (record { norths = comb; trunks = m.crossed.trunks });
    long = m.crossed.long ∙ m.combs.long;
    others = untouched (take n norths) (take n norths) m.combs m.crossed;
  }
    where
      comb : (i j l : ℕ) → Inside (upright n w (2 * h)) (point i j l) → l % 2 ≡ 1 → wiring_of (upright n w (2 * h)) after i j l ≡ entry norths i
      comb i j l i' odd = elim (dec_le (l % 4) 1) [
        | yes one ↦ comb_one (take n norths) (take n norths) m.combs m.crossed i j l i' (omega arith) ∙ taken n norths i i'.0
        | no three ↦ comb_three (take n norths) (take n norths) m.combs m.crossed i j l i' (omega arith) ∙ taken n norths i i'.0
      ]
