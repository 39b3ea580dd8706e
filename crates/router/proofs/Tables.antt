-- What the drawing crates ask of the table of spans: the tables of a problem's spans, with none to the west or the east of a row or a
-- channel.
use Prim.Native.Nat.{ℕ}
use mathlib.Core.Path.{◌≡◌, sym, ◌∙◌, subst}
use mathlib.Core.Bool.{false}
use mathlib.Core.List.{List}
use native.Mathlib.Omega.{arith}
use lib.Dec.{eqb}
use borrow.Author.Tests.{ne_eqb}
use Rattle.counting.specs.Counting.{bit}
use Rattle.counting.proofs.Sums.{bit_zero, sum_zero}
use Rattle.terms.specs.Kinds.{Side, west, east, has_side}
use Rattle.terms.proofs.Laws.{Thin, no_west, no_east}
use Rattle.problem.specs.declared.Problem.{Problem}
use Rattle.problem.specs.Problem.{pins_in, Good, width_of}
use Rattle.nets.specs.declared.Spans.{Spans}
use Rattle.nets.specs.Tables.{pin_count_to, NetTable, SpansOf}
use Rattle.trunks.specs.Trunks.{SpanColumns}

module _ (q : Problem) (good : Good q) where
  bare_table : (s : Side) (n : ℕ) {list : List ℕ} → has_side q.kind s ≡ false → NetTable (pin_count_to (pins_in q.pins s) n) list
      → NetTable (λ m. 0) list
  bare_table s n e t = record {
    size = t.size;
    none = t.none;
    is = λ m i. t.is m i ∙ sum_zero (λ a. bit (eqb (pins_in q.pins s a) m)) n
        (λ a h. bit_zero (ne_eqb (pins_in q.pins s a) m (λ z. omega (arith, good.bare s e a))));
  }

  module _ {t : Spans} (is : SpansOf q t) where
    pub thin_tables : Thin q.kind → SpanColumns q.pins.north q.pins.south q.n.0 t.columns.first t.columns.last t.tracks.one t.tracks.two
    thin_tables h = record {
      firsts = is.columns.first;
      lasts = is.columns.last;
      no_west = bare_table west (width_of q) (no_west h) is.tracks.one;
      no_east = bare_table east (width_of q) (no_east h) is.tracks.two;
    }

    -- a box's own width
    pub wide_table : (s : Side) {list : List ℕ} {w : ℕ} → w ≡ width_of q → NetTable (pin_count_to (pins_in q.pins s) (width_of q)) list
        → NetTable (pin_count_to (pins_in q.pins s) w) list
    wide_table s {list} e t = subst (λ (k : ℕ). NetTable (pin_count_to (pins_in q.pins s) k) list) (sym e) t
