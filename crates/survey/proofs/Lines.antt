-- The digits of a number, and how many there are; and what survey_line answers, from what was written.
use Prim.Native.Nat.{ℕ, zero, suc, ◌+◌, ◌/◌, ◌%◌, ◌^◌, ◌≤◌, ◌<◌}
use mathlib.Core.Path.{◌≡◌, sym, ap, ◌∙◌}
use mathlib.Core.List.{List, [], ◌∷◌, ◌++◌}
use native.Mathlib.Decide.{dec_le}
use native.Mathlib.Nat.{pow-suc, div-lt_iff_lt-mul}
use native.Mathlib.Omega.{arith}
use lib.ListN.{length, length-append}
use borrow.Author.Tests.{lt-ltb, le-ltb}
use Rattle.std.specs.Prelude.{Result, Ok, Err, MatchResult, leb, refl}
use Rattle.counting.proofs.Sums.{split}
use Rattle.terms.specs.declared.Refusal.{Refusal}
use Rattle.terms.specs.Refusals.{refusal}
use Rattle.output.specs.Writing.{written_for, Wrote}
use Rattle.survey.specs.Line.{spelled, decimal, line_of, longest_line, Lined}

-- ---- digits

spelled_same : (f g x : ℕ) → x < f → x < g → spelled f x ≡ spelled g x
unfolding spelled
spelled_same zero g x h i = absurd (omega arith)
spelled_same (suc f) zero x h i = absurd (omega arith)
spelled_same (suc f) (suc g) x h i = elim (dec_le 10 x) [
  | yes ten ↦ rw (le-ltb x 10 ten, spelled_same f g (x / 10) (omega arith) (omega arith))
  | no one ↦ rw (lt-ltb x 10 (omega arith))
]

pub decimal_one : (x : ℕ) → x < 10 → decimal x ≡ (48 + x) ∷ []
unfolding spelled
decimal_one x h = rw (lt-ltb x 10 h)

pub decimal_more : (x : ℕ) → 10 ≤ x → decimal x ≡ decimal (x / 10) ++ ((48 + x % 10) ∷ [])
unfolding spelled
decimal_more x h = rw (le-ltb x 10 h, spelled_same x (suc (x / 10)) (x / 10) (omega arith) (omega arith))

-- one digit more than the number without its last
pub decimal_grows : (x : ℕ) → 10 ≤ x → length (decimal x) ≡ length (decimal (x / 10)) + 1
decimal_grows x h = ap length (decimal_more x h) ∙ length-append (decimal (x / 10)) ((48 + x % 10) ∷ [])

pub decimal_last : (x : ℕ) → x < 10 → decimal x ≡ (48 + x % 10) ∷ []
decimal_last x h = let same : x ≡ x % 10 = omega arith in decimal_one x h ∙ ap (λ (d : ℕ). (48 + d) ∷ []) same

pub decimal_length : (k x : ℕ) → x < 10 ^ suc k → length (decimal x) ≤ suc k
decimal_length zero x h = rw (decimal_one x h) (omega arith)
decimal_length (suc k) x h = elim (dec_le 10 x) [
  | yes ten ↦
      let less : x / 10 < 10 ^ suc k = (div-lt_iff_lt-mul {k = 10} {x = x} {y = 10 ^ suc k} (omega arith)).1 (rw pow-suc at h) in
      omega (arith, decimal_grows x ten, decimal_length k (x / 10) less)
  | no one ↦ omega (arith, ap length (decimal_one x (omega arith)))
]

-- the longest number of 64 bits
pub decimal_short : (x : ℕ) → x < 2 ^ 64 → length (decimal x) ≤ 20
decimal_short x h = decimal_length 19 x (omega (arith, h))

-- ---- what survey_line answers

-- what the buffer's answer becomes: the length needed alone, where it is refused
pub lined : (s : List ℕ) {before after : List ℕ} {r : Result ℕ Refusal} {told : Result ℕ ℕ} → length (line_of s) ≤ longest_line
    → Wrote (line_of s) before after r → MatchResult r (λ n. told ≡ Ok n) (λ e. told ≡ Err e.place) → Lined s before after told
unfolding written_for
lined s {before} {after} {r} {told} short w same =
    split (leb (length (line_of s)) (length before))
    (λ t.
    let is : r ≡ Ok (length (line_of s)) = w.answer ∙ rw t in
    rw (rw is at same) (record { needed = refl; short = short; written = sym t; bytes = w.buffer }))
    (λ t.
    let is : r ≡ Err (refusal 19 (length (line_of s))) = w.answer ∙ rw t in
    rw (rw is at same) (record { needed = refl; short = short; written = sym t; bytes = w.buffer }))
