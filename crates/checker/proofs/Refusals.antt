-- Where none of the refusals 1 to 13 applies each of their tests was passed, so the buffers fit the grid and Check's outcome is what is found.
use Prim.Native.Nat.{ℕ, ◌*◌, ◌≤◌}
use mathlib.Core.Path.{◌≡◌, refl, sym, ap, ◌∙◌, subst}
use mathlib.Core.Logic.{◌≢◌}
use mathlib.Core.Bool.{Bool, true, false, cond, ◌&&◌, and-eq-true_iff}
use mathlib.Core.List.{List}
use native.Mathlib.Omega.{arith}
use native.Mathlib.Decide.{ℕ_discrete}
use borrow.Author.Tests.{eq-eqb, ne_eqb, eqb-true, leb-true}
use lib.Dec.{eqb, leb}
use lib.ListN.{length}
use Rattle.counting.specs.Counting.{In}
use Rattle.terms.specs.Kinds.{box, has_own_width, widest}
use Rattle.terms.proofs.Laws.{within_in, passed, boxes_only, Known, is_row, is_channel, is_box, is_two_layer, known}
use Rattle.terms.specs.Limits.{widest_grid, most_layers, within}
use Rattle.terms.specs.declared.Refusal.{Refusal}
use Rattle.terms.specs.Refusals.{refusal}
use Rattle.problem.specs.declared.Problem.{Problem}
use Rattle.problem.specs.Problem.{pins_in, Good}
use Rattle.ticket.specs.Read.{ticket_of}
use Rattle.ticket.proofs.Good.{reading_good}
use Rattle.ticket.specs.declared.Reading.{Reading}
use Rattle.check_link.specs.Edges.{Shape}
use Rattle.checker.specs.Check.{width_fits, check_refusal, check_grid, Checked}
use Rattle.check_scan.specs.Scan.{PinList}
use Rattle.checker.specs.Marking.{Judges}
use Rattle.checker.proofs.Lists.{listed}

small : {kind w : ℕ} → Known kind → In w (widest kind) → In w widest_grid
small is_row h = omega arith
small is_channel h = omega arith
small is_box h = omega arith
small is_two_layer h = h

pub counts : (q : Problem) (w k : ℕ) → width_fits q w && within k most_layers ≡ true → Known q.kind → (w ≤ widest_grid) × (k ≤ most_layers)
counts q w k e known =
    let h = (and-eq-true_iff (width_fits q w) (within k most_layers)).0 e in
    let i = (and-eq-true_iff (within w (widest q.kind)) _).0 h.0 in
    ((small known (within_in w (widest q.kind) i.0)).1, (within_in k most_layers h.1).1)

module _ (q : Problem) (w : ℕ) (b : Bool) (is : within w (widest q.kind) ≡ b) where
  pub own_width : b ≡ true → q.kind ≡ box → width_fits q w ≡ eqb w q.byte2
  own_width e k = simp (is ∙ e, ap has_own_width k)

  pub any_width : b ≡ true → q.kind ≢ box → width_fits q w ≡ true
  any_width e k = simp (is ∙ e, boxes_only q.kind false true k)

  pub no_width : b ≡ false → width_fits q w ≡ false
  no_width e = simp (is ∙ e)

-- ---- no refusal

pub record Passed (t : Reading) (w k x y : ℕ) : Type 0 where
  pub read : t.refusal.number ≡ 0
  pub width : In w (widest t.problem.kind)
  pub own : t.problem.kind ≡ box → w ≡ t.problem.byte2
  pub layers : In k most_layers
  pub size : x ≡ t.problem.n.0 * w * k
  pub room : t.problem.n.0 * w * k ≤ y

pub no_refusal : (t : Reading) (w k x y : ℕ) → (check_refusal t w k x y).number ≡ 0 → Passed t w k x y
unfolding check_refusal
no_refusal t w k x y e = elim (ℕ_discrete t.refusal.number 0) [ yes z ↦ rest z | no n ↦ absurd (n (simp (ne_eqb t.refusal.number 0 n) at e)) ]
  where
    rest : t.refusal.number ≡ 0 → Passed t w k x y
    rest z =
        let size = t.problem.n.0 * w * k in
        let kind = t.problem.kind in
        let p = passed (width_fits t.problem w && within k most_layers) (refusal 11 0) _ (λ q. omega arith)
        (simp (eq-eqb t.refusal.number 0 z) at e) in
        let q = passed (eqb x size) (refusal 12 size) _ (λ q. omega arith) p.1 in
        let r = passed (leb size y) (refusal 13 size) _ (λ q. omega arith) q.1 in
        let h = (and-eq-true_iff (width_fits t.problem w) (within k most_layers)).0 p.0 in
        let i = (and-eq-true_iff (within w (widest kind)) (cond (has_own_width kind) (eqb w t.problem.byte2) true)).0 h.0 in
        record {
          read = z;
          width = within_in w (widest kind) i.0;
          own = λ b. eqb-true w t.problem.byte2 (simp (ap has_own_width b) at i.1);
          layers = within_in k most_layers h.1;
          size = eqb-true x size q.0;
          room = leb-true size y r.0;
        }

pub room : (t : Reading) (w k x y : ℕ) {r : Refusal} → r ≡ check_refusal t w k x y → r.number ≡ 0 → x ≤ y
room t w k x y is none =
    let p = no_refusal t w k x y (sym (ap (λ (a : Refusal). a.number) is) ∙ none) in
    omega (arith, p.size, p.room)

-- ---- the call: t is what the bytes s say, and r is the refusal found

module _ (s : List ℕ) (t : Reading) (e : t ≡ ticket_of s) (w k : ℕ) (first : Bool) (x y : List ℕ) (r : Refusal)
    (is : r ≡ check_refusal t w k (length x) (length y)) where
  number_is : r.number ≡ (check_refusal t w k (length x) (length y)).number
  number_is = ap (λ (a : Refusal). a.number) is

  pub refused : r.number ≢ 0 → Checked (ticket_of s) w k first x y y r
  refused ne =
      subst (λ (u : Reading). Checked u w k first x y y r) e
      (record {
        kept = refl;
        refused = λ z. (is, refl);
        grid = λ z. absurd (ne (number_is ∙ z));
        judged = λ z. absurd (ne (number_is ∙ z));
      })

  module _ (none : r.number ≡ 0) where
    all_passed : Passed t w k (length x) (length y)
    all_passed = no_refusal t w k (length x) (length y) (sym number_is ∙ none)

    good : Good t.problem
    good = reading_good s e all_passed.read

    wide : In w widest_grid
    wide = small (known t.problem.kind good.kind) all_passed.width

    pub shape : Shape (check_grid t.problem w k first)
    shape = record { long = good.columns; wide = wide; deep = all_passed.layers }

    pub size : length x ≡ t.problem.n.0 * w * k
    size = all_passed.size

    pub accepted : {y' list : List ℕ} {a : Refusal} → length y' ≡ length y → PinList t.problem.pins list
        → Judges (check_grid t.problem w k first) list x a → Checked (ticket_of s) w k first x y y' a
    accepted {y'} {list} {a} h l j =
        subst (λ (u : Reading). Checked u w k first x y y' a) e
        (record {
          kept = h;
          refused = λ ne. absurd (ne (sym number_is ∙ none));
          grid = λ z. record { length = refl; width = all_passed.own; columns = good.columns.0; tracks = wide.0; layers = all_passed.layers.0 };
          judged = λ z. j.judged (pins_in t.problem.pins)
              (listed t.problem good list l (check_grid t.problem w k first) refl wide all_passed.own);
        })
