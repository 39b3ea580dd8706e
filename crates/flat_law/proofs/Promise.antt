-- The calls' whole promise, for each of their ways out and both directions: the first form's refusal; or the second form's bytes of what
-- was read. In both forms bytes and reading are inverse to each other, so what is written states what was read, and converted back it is
-- the same bytes.
use Prim.Native.Nat.{ℕ}
use mathlib.Core.Path.{◌≡◌, refl, sym, ap, ◌∙◌, subst}
use mathlib.Core.Logic.{◌≢◌}
use mathlib.Core.List.{List}
use lib.ListN.{length}
use borrow.Author.Tests.{eq-eqb, ne_eqb}
use Rattle.problem.specs.declared.Problem.{Problem}
use Rattle.problem.specs.Problem.{Good}
use Rattle.std.specs.Prelude.{Result, Err, OnOk}
use Rattle.terms.specs.declared.Refusal.{Refusal}
use Rattle.output.specs.Writing.{written_for, written_in, Wrote}
use Rattle.output.proofs.Laws.{wrote_untouched, wrote_past, wrote_front}
use Rattle.ticket.specs.declared.Reading.{Reading}
use Rattle.ticket.specs.Read.{accepted_reading}
use Rattle.ticket.proofs.Good.{passed, read_good}
use Rattle.ticket_bytes.specs.Bytes.{Bytes, Sized}
use Rattle.ticket_bytes.proofs.ReadBack.{read_back}
use Rattle.ticket_bytes.proofs.BytesBack.{bytes_back}
use Rattle.flat_reader.proofs.Passed.{flat_passed, flat_good}
use Rattle.flat_law.specs.Conversion.{Form, ticket_form, flat_form, converted, Converts}
use Rattle.flat_law.proofs.FlatReadBack.{flat_read_back}
use Rattle.flat_law.proofs.FlatBytesBack.{flat_bytes_back}
use Rattle.flat_law.proofs.Sizes.{ticket_sized, flat_sized}

-- ---- the two forms

-- what is read of a form is good, and its bytes and its reading are inverse to each other
pub record Faithful (f : Form) : Type 0 where
  pub whole : (s : List ℕ) → (f.reading s).refusal.number ≡ 0 → f.reading s ≡ accepted_reading (f.reading s).problem
  pub good : (s : List ℕ) → (f.reading s).refusal.number ≡ 0 → Good (f.reading s).problem
  pub sized : (s : List ℕ) → (f.reading s).refusal.number ≡ 0 → Sized (f.reading s).problem
  pub read_as : (q : Problem) → Good q → Sized q → f.reading (f.bytes q) ≡ accepted_reading q
  pub written_as : (s : List ℕ) → Bytes s → (f.reading s).refusal.number ≡ 0 → f.bytes (f.reading s).problem ≡ s

settled : {t : Reading} {q : Problem} → t ≡ accepted_reading q → t ≡ accepted_reading t.problem
settled e = e ∙ sym (ap (λ (u : Reading). accepted_reading u.problem) e)

pub ticket_faithful : Faithful ticket_form
ticket_faithful =
    record {
      whole = λ s z. settled (passed s z).whole;
      good = read_good;
      sized = ticket_sized;
      read_as = read_back;
      written_as = bytes_back;
    }

pub flat_faithful : Faithful flat_form
flat_faithful =
    record {
      whole = λ s z. settled (flat_passed s z).whole;
      good = flat_good;
      sized = flat_sized;
      read_as = flat_read_back;
      written_as = λ s b. flat_bytes_back s;
    }

abbrev number : Reading → ℕ
number t = t.refusal.number

-- of what a reader answered
pub reads_good : {f : Form} → Faithful f → (s : List ℕ) {t : Reading} → t ≡ f.reading s → t.refusal.number ≡ 0 → Good t.problem
reads_good f s e z =
    subst (λ (u : Reading). Good u.problem) (sym e) (f.good s (sym (ap number e) ∙ z))

-- ---- what is converted states the same, and converted back it is the same bytes

module _ {from to : Form} (f : Faithful from) (t : Faithful to) (s : List ℕ) (z : (from.reading s).refusal.number ≡ 0) where
  converted_same : to.reading (converted from to s) ≡ from.reading s
  converted_same = t.read_as _ (f.good s z) (f.sized s z) ∙ sym (f.whole s z)

  converted_back : Bytes s → converted to from (converted from to s) ≡ s
  converted_back b = ap (λ (r : Reading). from.bytes r.problem) converted_same ∙ f.written_as s b z

-- ---- the ways out

module _ {from to : Form} (s before : List ℕ) {t : Reading} (e : t ≡ from.reading s) where
  pub convert_refused : t.refusal.number ≢ 0 → Converts from to s before before (Err t.refusal)
  convert_refused n =
      let no : (from.reading s).refusal.number ≢ 0 = λ z. n (ap number e ∙ z) in
      record {
        answer = sym (rw (← e, ne_eqb t.refusal.number 0 n));
        untouched = refl;
        past = refl;
        bytes = tt;
        same = λ z. absurd (no z);
        back = λ z. absurd (no z);
      }

  pub convert_written : {after : List ℕ} {r : Result ℕ Refusal} → Faithful from → Faithful to → Bytes s → t.refusal.number ≡ 0
      → Wrote (to.bytes t.problem) before after r → Converts from to s before after r
  convert_written {after} {r} ff ft b z w =
      let done : (from.reading s).refusal.number ≡ 0 = sym (ap number e) ∙ z in
      record {
        answer = rw (eq-eqb _ 0 done) (w.answer ∙ ap (λ (u : Reading). written_for (to.bytes u.problem) (length before)) e);
        untouched = wrote_untouched w;
        past = wrote_past w;
        bytes = subst (λ (u : Reading). OnOk r (written_in r after ≡ to.bytes u.problem)) e (wrote_front w);
        same = converted_same ff ft s;
        back = λ y. converted_back ff ft s y b;
      }
