-- Lay's promise at each of its ways out: turned down by Read; solid, the buffer too short, or laid, which the outcome of a problem says.
use Prim.Native.Nat.{ℕ, ◌≤◌, ◌<◌}
use mathlib.Core.Path.{◌≡◌, refl, sym, ap, ◌∙◌, subst}
use mathlib.Core.Logic.{◌≢◌}
use mathlib.Core.Bool.{true, false}
use mathlib.Core.List.{List}
use native.Mathlib.Omega.{arith}
use lib.Dec.{leb}
use lib.ListN.{length}
use borrow.Author.Tests.{eq-eqb, ne_eqb, le-leb, lt-leb}
use Rattle.counting.proofs.Sums.{split}
use Rattle.terms.specs.Refusals.{refusal}
use Rattle.terms.specs.Kinds.{two_layer}
use Rattle.terms.proofs.Laws.{thin, is_of_box}
use Rattle.problem.specs.declared.Problem.{Problem}
use Rattle.problem.specs.Problem.{pins_in, Good}
use Rattle.figures.specs.declared.Figures.{Figures}
use Rattle.figures.specs.Figures.{figures_of}
use Rattle.ticket.specs.declared.Reading.{Reading}
use Rattle.ticket.specs.Read.{ticket_of, ticket_pins}
use Rattle.ticket.proofs.Good.{read_good}
use Rattle.grid.specs.Grid.{Grid}
use Rattle.grid.specs.Legal.{Wiring, Legal, GridOf}
use Rattle.grid.specs.Laid.{Laid}
use Rattle.router.specs.declared.LayAnswer.{LayAnswer}
use Rattle.router.specs.Lay.{first_of, laid_width, needed, is_solid, answered, laid_answer, refused, lay_good, lay_of, laid_grid}
use Rattle.router.specs.Lay.{Lays, Outcome}
use Rattle.router.proofs.Laws.{flat, no_narrower, no_lower, two_layer_tracks, two_layer_layers, two_layer_first, two_layer_solid}
use Rattle.router.proofs.Laws.{solid_kind}
use Rattle.router.proofs.TwoLayer.{no_wiring, few, some_track}

abbrev number : LayAnswer → ℕ
number a = a.refusal.number

-- ---- the outcome of a problem, way by way

module _ (q : Problem) (before : List ℕ) (r : LayAnswer) where
  stays : r.refusal.number ≢ 0 → r ≡ lay_good q (length before) → Outcome q before before r
  stays ne e = record { answer = e; untouched = λ z. refl; laid = λ z. absurd (ne z) }

  pub turned_solid : is_solid q ≡ true → r ≡ refused (refusal 17 0) → Outcome q before before r
  turned_solid s e = stays (λ z. omega (arith, ap number e)) (rw s e)

  pub too_short : (size : ℕ) → is_solid q ≡ false → size ≡ needed q → length before < size → r ≡ refused (refusal 10 size)
      → Outcome q before before r
  too_short size s h lt e = stays (λ z. omega (arith, ap number e))
      (rw (s, lt-leb (needed q) (length before) (omega arith)) (e ∙ ap (λ (k : ℕ). refused (refusal 10 k)) h))

  pub drawn : (after : List ℕ) → is_solid q ≡ false → needed q ≤ length before
      → Laid (laid_grid (laid_answer q)) (pins_in q.pins) before after → r ≡ laid_answer q → Outcome q before after r
  drawn after s room y e = subst (Outcome q before after) (sym e) (record {
    answer = rw (s, le-leb (needed q) (length before) room);
    untouched = λ ne. absurd (ne refl);
    laid = λ z. y;
  })

-- the answer, from what its parts were computed to be
pub answer_is : (q : Problem) {f : Figures} {w : ℕ} → f ≡ figures_of q → w ≡ laid_width q
    → answered (refusal 0 0) q f w (first_of q) ≡ laid_answer q
answer_is q h g = λ i. answered (refusal 0 0) q (h i) (g i) (first_of q)

-- ---- the answer's number tells the way

data Way (q : Problem) (size : ℕ) : LayAnswer → Type 0 where
  solid_way : is_solid q ≡ true → Way q size (refused (refusal 17 0))
  short_way : is_solid q ≡ false → Way q size (refused (refusal 10 (needed q)))
  laid_way : is_solid q ≡ false → Way q size (laid_answer q)

way : (q : Problem) (size : ℕ) → Way q size (lay_good q size)
way q size = split (is_solid q) (λ s. rw s (solid_way s)) (λ s. split (leb (needed q) size)
    (λ h. rw (s, h) (laid_way s)) (λ h. rw (s, h) (short_way s)))

-- a buffer of the length needed is long enough
enough_for : (q : Problem) (size : ℕ) → is_solid q ≡ false → needed q ≤ size → number (lay_good q size) ≡ 0
enough_for q size s h = rw (s, le-leb (needed q) size h) refl

module _ (s : List ℕ) (z : (ticket_of s).refusal.number ≡ 0) (before after : List ℕ) where
  abbrev q : Problem
  q = (ticket_of s).problem

  good : Good q
  good = read_good s z

  asked : (size : ℕ) → lay_of s size ≡ lay_good q size
  unfolding lay_of
  asked size = rw (eq-eqb (ticket_of s).refusal.number 0 z)

  no_wirings : is_solid q ≡ true → (g : Grid) (x : Wiring) → GridOf two_layer q.n.0 0 g → g.k ≡ 2 → ¬ (Legal g (ticket_pins s) x)
  no_wirings h = let two = solid_kind q h in no_wiring q good two (sym (two_layer_solid q two) ∙ h)

  by_way : {r : LayAnswer} → Way q (length before) r → r ≡ lay_of s (length before) → (r.refusal.number ≢ 0 → after ≡ before)
      → (r.refusal.number ≡ 0 → Laid (laid_grid r) (ticket_pins s) before after) → Lays s before after r
  by_way (solid_way h) e u l = record {
    answer = e;
    untouched = u;
    laid = l;
    narrowest = λ n. absurd (omega arith);
    lowest = λ n. absurd (omega arith);
    bounded = λ n. absurd (omega arith);
    unwirable = λ a. no_wirings;
    enough = λ a n. absurd (omega arith);
  }
  by_way (short_way h) e u l = record {
    answer = e;
    untouched = u;
    laid = l;
    narrowest = λ n. absurd (omega arith);
    lowest = λ n. absurd (omega arith);
    bounded = λ n. absurd (omega arith);
    unwirable = λ a. no_wirings;
    enough = λ a n size room. ap number (asked size) ∙ enough_for q size h room;
  }
  by_way (laid_way h) e u l = record {
    answer = e;
    untouched = u;
    laid = l;
    narrowest = λ a b. let t = thin q.kind b in (flat q good t, no_narrower q good t);
    lowest = λ a b. no_lower q good (is_of_box q.kind b);
    bounded = λ n two. let open_channel = sym (two_layer_solid q two) ∙ h in let w = two_layer_tracks q two in (
      rw w (some_track q good two),
      rw w (few q good two open_channel),
      two_layer_layers q two,
      two_layer_first q two,
    );
    unwirable = λ a. no_wirings;
    enough = λ a n. absurd (omega arith);
  }

  kept : {r : LayAnswer} → Outcome q before after r → Lays s before after r
  kept {r} o = by_way (subst (Way q (length before)) (sym o.answer) (way q (length before))) (o.answer ∙ sym (asked (length before)))
      o.untouched o.laid

module _ (s : List ℕ) (t : Reading) (read : t ≡ ticket_of s) (before : List ℕ) (r : LayAnswer) where
  pub turned_down : t.refusal.number ≢ 0 → r ≡ refused t.refusal → Lays s before before r
  unfolding lay_of
  turned_down = subst (λ (u : Reading). u.refusal.number ≢ 0 → r ≡ refused u.refusal → Lays s before before r) (sym read)
      (λ ne e. let none : number r ≢ 0 = λ z. ne (sym (ap number e) ∙ z) in record {
        answer = rw (ne_eqb (ticket_of s).refusal.number 0 ne) e;
        untouched = λ n. refl;
        laid = λ n. absurd (none n);
        narrowest = λ n. absurd (none n);
        lowest = λ n. absurd (none n);
        bounded = λ n. absurd (none n);
        unwirable = λ z. absurd (ne z);
        enough = λ z. absurd (ne z);
      })

  pub promised : (after : List ℕ) → t.refusal.number ≡ 0 → Outcome t.problem before after r → Lays s before after r
  promised after = subst (λ (u : Reading). u.refusal.number ≡ 0 → Outcome u.problem before after r → Lays s before after r) (sym read)
      (λ z. kept s z before after)
