-- What a call that writes bytes to the front of a lent buffer answers, and what it leaves there.
--
--   written_over bytes before
--                           the buffer with the bytes written to its front; one that is too short is left as it is: "bytes past it are
--                           untouched", "a refused one alters no lent byte"
--   written_for bytes size  the answer where the buffer has so many bytes: "19 (place: the length needed), lent buffer too short"; else "an
--                           accepted call that writes a ticket gives the length written"
--   written_length r        the length that the answer gives; 0 where it is a refusal
--   written_in r after      what was written: so many bytes of the buffer as the answer says
--   Wrote bytes before after r
--                           the call answers r and leaves the buffer, which was before, as after
use Rattle.std.specs.Prelude.{ℕ, ◌≡◌, cond, List, ◌++◌, leb, length, take, drop, Result, Ok, Err}
use Rattle.terms.specs.declared.Refusal.{Refusal}
use Rattle.terms.specs.Refusals.{refusal, unless}

unfoldable pub written_over : List ℕ → List ℕ → List ℕ
written_over bytes before = cond (leb (length bytes) (length before)) (bytes ++ drop (length bytes) before) before

unfoldable pub written_for : List ℕ → ℕ → Result ℕ Refusal
written_for bytes size = unless (leb (length bytes) size) (Err (refusal 19 (length bytes))) (Ok (length bytes))

abbrev pub written_length : Result ℕ Refusal → ℕ
written_length (Ok n) = n
written_length (Err r) = 0

abbrev pub written_in : Result ℕ Refusal → List ℕ → List ℕ
written_in r after = take (written_length r) after

pub record Wrote (bytes before after : List ℕ) (r : Result ℕ Refusal) : Type 0 where
  pub answer : r ≡ written_for bytes (length before)
  pub buffer : after ≡ written_over bytes before
