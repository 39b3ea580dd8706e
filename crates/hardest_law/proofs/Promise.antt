-- The call's whole promise, for each of its ways out: a side outside 1 to 90; or the bytes of the written box, whose reading is that box.
use Prim.Native.Nat.{ℕ, ◌+◌, ◌≤◌}
use mathlib.Core.Path.{◌≡◌, refl, sym, ap, ap₂, ◌∙◌, subst}
use mathlib.Core.Logic.{◌≢◌}
use mathlib.Core.Bool.{true, false, and-eq-true_iff}
use mathlib.Core.List.{List}
use native.Mathlib.Omega.{arith}
use lib.Dec.{leb}
use lib.ListN.{length}
use borrow.Author.Tests.{eq-eqb}
use Rattle.counting.specs.Counting.{In}
use Rattle.terms.specs.Kinds.{Side, box, layers_for}
use Rattle.terms.specs.Limits.{longest_side, within}
use Rattle.terms.specs.Refusals.{refusal, unless}
use Rattle.terms.proofs.Laws.{within_in, of_box}
use Rattle.grid.specs.Grid.{places}
use Rattle.density.specs.Density.{floor_of}
use Rattle.problem.specs.declared.Problem.{Problem}
use Rattle.problem.proofs.Sizes.{byte2_in}
use Rattle.problem.specs.Problem.{pins_in, shape_of, Good}
use Rattle.figures.specs.Figures.{figures_of}
use Rattle.ticket.specs.declared.Reading.{Reading}
use Rattle.ticket.specs.Read.{accepted_reading, ticket_of, problem_of}
use Rattle.ticket.proofs.Good.{read_good}
use Rattle.survey.specs.Survey.{surveyed, survey_of}
use Rattle.std.specs.Prelude.{Result, Ok, Err, OnOk}
use Rattle.terms.specs.declared.Refusal.{Refusal}
use Rattle.output.specs.Writing.{written_for, written_in, Wrote}
use Rattle.output.proofs.Laws.{wrote_untouched, wrote_past, wrote_front}
use Rattle.ticket_bytes.specs.Bytes.{bytes_of}
use Rattle.ticket_bytes.proofs.ReadBack.{read_back}
use Rattle.hardest_law.specs.Box.{hardest_box}
use Rattle.hardest_law.specs.Hardest.{BoxOf, FullBox, survey_floor, survey_layers, hardest_floor, is_shape, full_length, hardest_answer}
use Rattle.hardest_law.specs.Hardest.{WritesHardest}
use Rattle.hardest_law.proofs.GoodBox.{hardest_sized, hardest_full, hardest_good}
use Rattle.hardest_law.proofs.Lengths.{full_length_lem}
use Rattle.hardest_law.proofs.Ceilings.{box_floor, box_layers_lem}
use Rattle.hardest_law.proofs.Floors.{hardest_floor_lem}

-- ---- Survey's figures of an accepted box

module _ (t : Reading) (z : t.refusal.number ≡ 0) (boxy : t.problem.kind ≡ box) where
  floor_read : (surveyed t).floor.0 ≡ floor_of (shape_of t.problem) (pins_in t.problem.pins)
  unfolding figures_of
  floor_read =
      rw (eq-eqb t.refusal.number 0 z)
      (of_box t.problem.kind 0 0 0 (floor_of (shape_of t.problem) (pins_in t.problem.pins)) 0 boxy)

  layers_read : (surveyed t).layers.0 ≡ layers_for box t.problem.n.0 t.problem.byte2
  unfolding figures_of
  layers_read = rw (eq-eqb t.refusal.number 0 z) (ap (λ (k : ℕ). layers_for k t.problem.n.0 t.problem.byte2) boxy)

-- ---- every box of the shape

module _ (n w : ℕ) (s : List ℕ) (b : BoxOf n w s) where
  good : Good (problem_of s)
  good = read_good s b.accepted

  highest : survey_floor s ≤ hardest_floor n w
  unfolding survey_of
  highest =
      subst (λ (f : ℕ). f ≤ hardest_floor n w) (sym (floor_read (ticket_of s) b.accepted b.kind))
      (subst (λ (h : ℕ). floor_of (shape_of (problem_of s)) (pins_in (problem_of s).pins) ≤ h) (ap₂ hardest_floor b.columns b.tracks)
      (box_floor (problem_of s) good b.kind))

  layers : survey_layers s ≤ hardest_floor n w + 3
  unfolding survey_of
  layers =
      let long : In n longest_side = rw b.columns at good.columns in
      let broad : In w longest_side = rw b.tracks at (byte2_in good) in
      omega (
        arith,
        layers_read (ticket_of s) b.accepted b.kind,
        ap₂ (layers_for box) b.columns b.tracks,
        box_layers_lem n w long broad,
      )

-- ---- the written box

abbrev pub ticket : ℕ → ℕ → List ℕ
ticket n w = bytes_of (hardest_box n w)

module _ (n w : ℕ) (long : In n longest_side) (broad : In w longest_side) where
  read : ticket_of (ticket n w) ≡ accepted_reading (hardest_box n w)
  read = read_back (hardest_box n w) (hardest_good n w long broad) (hardest_sized n w)

  full : FullBox n w (ticket n w)
  full =
      let q = ap (λ (t : Reading). t.problem) read in
      record {
        shape =
            record {
              accepted = ap (λ (t : Reading). t.refusal.number) read;
              kind = ap (λ (x : Problem). x.kind) q;
              columns = ap (λ (x : Problem). x.n.0) q;
              tracks = ap (λ (x : Problem). x.byte2) q;
            };
        everywhere = subst (λ (x : Problem). (side : Side) (a : ℕ) → In a (places (shape_of x) side) → pins_in x.pins side a ≢ 0) (sym q)
            (hardest_full n w long broad);
      }

  floor : survey_floor (ticket n w) ≡ hardest_floor n w
  unfolding survey_of
  floor = ap (λ (t : Reading). (surveyed t).floor.0) read ∙ floor_read (accepted_reading (hardest_box n w)) refl refl
      ∙ hardest_floor_lem n w long broad (hardest_good n w long broad)

-- ---- the ways out

-- what a call answers that writes so many bytes
abbrev answer_for : ℕ → ℕ → Result ℕ Refusal
answer_for k size = unless (leb k size) (Err (refusal 19 k)) (Ok k)

-- where the call is accepted, what is written is these bytes: what holds of them holds of it
of_written : (r : Result ℕ Refusal) (after bytes : List ℕ) (P : List ℕ → Type 0) → OnOk r (written_in r after ≡ bytes) → P bytes
    → OnOk r (P (written_in r after))
of_written (Ok k) after bytes P same holds = subst P (sym same) holds
of_written (Err e) after bytes P same holds = tt

pub shape_in : (n w : ℕ) → is_shape n w ≡ true → In n longest_side × In w longest_side
shape_in n w e =
    let both = (and-eq-true_iff (within n longest_side) (within w longest_side)).0 e in
    (within_in n longest_side both.0, within_in w longest_side both.1)

module _ (n w : ℕ) (before : List ℕ) where
  pub shape_refused : is_shape n w ≡ false → WritesHardest n w before before (Err (refusal 18 0))
  shape_refused e =
      record { answer = rw e; untouched = refl; past = refl; full = tt; floor = tt; highest = highest n w; near = tt }

  module _ (shape : is_shape n w ≡ true) where
    long : In n longest_side
    long = (shape_in n w shape).0

    broad : In w longest_side
    broad = (shape_in n w shape).1

    size : length (ticket n w) ≡ full_length n w
    size = full_length_lem n w long broad

    answered : answer_for (length (ticket n w)) (length before) ≡ hardest_answer n w (length before)
    answered = rw shape (ap (λ (k : ℕ). answer_for k (length before)) size)

    near_written : (t : List ℕ) → BoxOf n w t → survey_layers t ≤ survey_floor (ticket n w) + 3
    near_written t b = omega (arith, layers n w t b, floor n w long broad)

    pub box_written : {after : List ℕ} {r : Result ℕ Refusal} → Wrote (ticket n w) before after r → WritesHardest n w before after r
    unfolding written_for
    box_written {after} {r} wrote =
        let front = wrote_front wrote in
        record {
          answer = wrote.answer ∙ answered;
          untouched = wrote_untouched wrote;
          past = wrote_past wrote;
          full = of_written r after (ticket n w) (FullBox n w) front (full n w long broad);
          floor = of_written r after (ticket n w) (λ (t : List ℕ). survey_floor t ≡ hardest_floor n w) front (floor n w long broad);
          highest = highest n w;
          near = of_written r after (ticket n w) (λ (u : List ℕ). (t : List ℕ) → BoxOf n w t → survey_layers t ≤ survey_floor u + 3) front
              near_written;
        }
