-- An array whose first entries have been stored, one by one; and the two ways in which a call answers.
use Prim.Native.Nat.{ℕ, ◌+◌, ◌≤◌, ◌<◌}
use mathlib.Core.Path.{◌≡◌, refl, sym}
use mathlib.Core.Bool.{Bool, true, false}
use mathlib.Core.List.{List, ◌++◌}
use native.Mathlib.Nat.{zero-add}
use native.Mathlib.Numerals.{add-one}
use native.Mathlib.Omega.{arith}
use lib.ListN.{length, get_or, set, take, drop}
use lib.Seq.{paste-suc, length-paste, take-length}
use borrow.Author.Tests.{le-leb, lt-leb}
use Rattle.ticket.specs.declared.Reading.{Reading}
use Rattle.terms.specs.declared.Refusal.{Refusal}
use Rattle.checker.specs.Check.{Checked}
use Rattle.answers.specs.Answers.{check_entries, Answered, Tells}

-- the first i of s, and past those what d has
abbrev pub front : List ℕ → List ℕ → ℕ → List ℕ
front d s i = take i s ++ drop i d

module _ (d s : List ℕ) (fits : length s ≤ length d) where
  pub front_next : (i : ℕ) → i < length s → set (front d s i) i (get_or s i 0) ≡ front d s (i + 1)
  front_next i here = rw add-one (simp zero-add at (paste-suc d 0 s i 0 (omega arith) here))

  pub front_length : (i : ℕ) → i ≤ length s → length (front d s i) ≡ length d
  front_length i here = simp zero-add at (length-paste d 0 s i (omega arith) here)

  pub front_whole : front d s (length s) ≡ s ++ drop (length s) d
  front_whole = rw take-length

pub unanswered : (s d : List ℕ) → length d < length s → Answered s d false d
unanswered s d short = record { room = sym (lt-leb (length s) (length d) short); stored = refl }

-- what was stored, t, are the entries that the call promises
pub answered : {s t d a : List ℕ} → t ≡ s → length s ≤ length d → a ≡ t ++ drop (length t) d → Answered s d true a
answered {s} {t} {d} {a} e fits kept =
    record { room = sym (le-leb (length s) (length d) fits); stored = rw e at kept }

-- a call does not return both
pub not_both : {A : Type 0} → false ≡ true → A
not_both e = let z : ◌≡◌ {A = ℕ} 0 1 = cc in absurd (omega arith)

module _ {t : Reading} {w k : ℕ} {first : Bool} {x y y' b : List ℕ} where
  -- an array without room for two entries is left as it was; no answer is promised then
  pub untold : length b < 2 → Tells t w k first x y y' b false b
  untold short =
      let none : Refusal = record { number = 0; place = 0 } in
      record { told = none; entries = unanswered (check_entries none) b short; checked = λ e. not_both e }

  pub told : {a : Refusal} {s c : List ℕ} → Checked t w k first x y y' a → s ≡ check_entries a → 2 ≤ length b → c ≡ s ++ drop (length s) b
      → Tells t w k first x y y' b true c
  told {a} found e fits kept = record { told = a; entries = answered e fits kept; checked = λ _. found }
