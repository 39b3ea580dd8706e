-- What is built so far, and then more of it; and what the caller of a call that writes finds: in the buffer where the call was refused,
-- past what was written, and in front.
use Rattle.std.proofs.Common.{◌≡◌, ℕ, ◌+◌, ◌≤◌, ◌<◌, Bool, true, false, List, [], ◌∷◌, ◌++◌, length, take, drop, leb, sym, ◌∙◌, ap, subst}
use Rattle.std.proofs.Common.{arith, rules, Result, Ok, Err, OnErr, add-one, length-append, append_assoc}
use Rattle.std.proofs.Math.ListN.{set}
use Rattle.std.proofs.lemmas.List.{append-nil}
use Rattle.std.specs.Prelude.{OnOk}
use borrow.Author.Tests.{le-leb}
use lib.Seq.{length-take-le, take-suc-set, take-append_seam, drop-append_seam}
use Rattle.counting.proofs.Sums.{split}
use Rattle.terms.specs.declared.Refusal.{Refusal}
use Rattle.terms.specs.Refusals.{refusal}
use Rattle.output.specs.declared.Output.{Output}
use Rattle.output.specs.Writing.{written_over, written_for, written_length, written_in, Wrote}
use Rattle.output.specs.Building.{Says, Adds}

-- ---- what is built

-- a byte behind the first `used`
pub byte_added : (bytes : List ℕ) (used b : ℕ) → used < length bytes → take (used + 1) (set bytes used b) ≡ take used bytes ++ b ∷ []
byte_added bytes used b h = rw add-one (take-suc-set bytes used b h)

pub adds_adds : {out next last : Output} {x y : List ℕ} → Adds out x next → Adds next y last → Adds out (x ++ y) last
adds_adds {out} {next} {last} {x} {y} f g =
    record {
      size = omega (arith, f.size, g.size, length-append x y);
      bytes = g.bytes ∙ ap (λ (l : List ℕ). l ++ y) f.bytes ∙ append_assoc (take out.used out.bytes) x y;
    }

pub says_adds : {out next : Output} {l x : List ℕ} → Says out l → Adds out x next → Says next (l ++ x)
says_adds {out} {next} {l} {x} f g =
    record { size = omega (arith, f.size, g.size, length-append l x); bytes = g.bytes ∙ ap (λ (k : List ℕ). k ++ x) f.bytes }

pub adds_none : (out : Output) → Adds out [] out
adds_none out = record { size = omega arith; bytes = sym (append-nil (take out.used out.bytes)) }

pub adds_as : {out next : Output} {x y : List ℕ} → x ≡ y → Adds out x next → Adds out y next
adds_as {out} {next} e f = subst (λ (l : List ℕ). Adds out l next) e f

-- the bytes tell the size
pub adds_by : (out next : Output) {x : List ℕ} → out.used ≤ length out.bytes → next.used ≤ length next.bytes
    → take next.used next.bytes ≡ take out.used out.bytes ++ x → Adds out x next
adds_by out next {x} long fits e =
    let one = length-take-le out.used out.bytes long in
    let two = length-take-le next.used next.bytes fits in
    record { size = omega (arith, one, two, ap length e, length-append (take out.used out.bytes) x); bytes = e }

-- ---- the answer

pub wrote : (bytes before : List ℕ) {used : ℕ} → used ≡ length bytes → {after : List ℕ} → used ≤ length before
    → after ≡ bytes ++ drop used before → Wrote bytes before after (Ok used)
unfolding written_over written_for
wrote bytes before {used} size h e =
    let test = le-leb (length bytes) (length before) (omega arith) in
    record { answer = rw (test, size); buffer = rw test (e ∙ ap (λ (k : ℕ). bytes ++ drop k before) size) }

pub wrote_as : {bytes bytes' before after : List ℕ} {r : Result ℕ Refusal} → bytes ≡ bytes' → Wrote bytes before after r
    → Wrote bytes' before after r
wrote_as {before = before} {after = after} {r = r} e w = subst (λ (l : List ℕ). Wrote l before after r) e w

-- ---- what the caller finds

module _ {bytes before after : List ℕ} {r : Result ℕ Refusal} (w : Wrote bytes before after r) where
  abbrev room : Bool
  room = leb (length bytes) (length before)

  short : room ≡ false → (r ≡ Err (refusal 19 (length bytes))) × (after ≡ before)
  unfolding written_over written_for
  short t = (w.answer ∙ rw t, w.buffer ∙ rw t)

  enough : room ≡ true → (r ≡ Ok (length bytes)) × (after ≡ bytes ++ drop (length bytes) before)
  unfolding written_over written_for
  enough t = (w.answer ∙ rw t, w.buffer ∙ rw t)

  pub wrote_untouched : OnErr r (after ≡ before)
  wrote_untouched = split room (λ t. rw (enough t).0 (search rules)) (λ t. rw (short t).0 (short t).1)

  pub wrote_past : drop (written_length r) after ≡ drop (written_length r) before
  wrote_past =
      split room
      (λ t. rw ((enough t).0, (enough t).1) (drop-append_seam bytes (drop (length bytes) before)))
      (λ t. rw ((short t).0, (short t).1))

  pub wrote_front : OnOk r (written_in r after ≡ bytes)
  wrote_front =
      split room
      (λ t. rw ((enough t).0, (enough t).1) (take-append_seam bytes (drop (length bytes) before)))
      (λ t. rw (short t).0 (search rules))
