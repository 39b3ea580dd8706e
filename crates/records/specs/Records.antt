-- The input of the vector programs: records, each a length of two bytes, so many bytes of a ticket, and what the program asks for beside
-- it.
--
--   number_at s b count     the number of count bytes at byte b, low byte first
--   ticket_end s b          where the ticket of the record that starts at byte b ends
--   record_at s b more      where that ticket stands; nothing at b where it and more bytes after it are not whole
--   Cut s b more r          r is that record, and in bounds: where it does not end at b itself, more bytes follow
--   Asked s more r ticket fields rest
--                           r is a record at the front of s: its ticket, the more bytes after it, and what follows them
--   HoldsWhatWasRead old new bytes
--                           of an input, the bytes that were to come, `old`, are now `new`, as far as they are known; those between stand
--                           at the start of bytes, however many they are
--   refusal_told r          the refusal that the outcome of a call tells; 0 and 0 where it is not refused
use Rattle.std.specs.Prelude.{Result, Ok, Err, ℕ, zero, suc, ◌+◌, ◌*◌, ◌≤◌, max, cond, List, ◌≡◌, leb, ◌<◌, length, get_or, take, drop}
use Rattle.std.specs.Prelude.{slice_range}
use Rattle.std.specs.Io.KnownBytes.{Consumes}
use Rattle.std.specs.declared.option.Option.{Option}
use Rattle.terms.specs.Limits.{byte_values}
use Rattle.terms.specs.Refusals.{refusal}
use Rattle.terms.specs.declared.Refusal.{Refusal}
use Rattle.records.specs.declared.Record.{Record}

abbrev pub number_at : List ℕ → ℕ → ℕ → ℕ
number_at s b zero = 0
number_at s b (suc c) = get_or s b 0 + byte_values * number_at s (b + 1) c

abbrev pub ticket_end : List ℕ → ℕ → ℕ
ticket_end s b = b + 2 + number_at s b 2

unfoldable pub record_at : List ℕ → ℕ → ℕ → Record
record_at s b more =
    cond (leb (ticket_end s b + more) (length s))
    (record { from = b + 2; end = ticket_end s b })
    (record { from = b; end = b })

pub record Cut (s : List ℕ) (b more : ℕ) (r : Record) : Type 0 where
  pub here : r ≡ record_at s b more
  pub begins : r.from ≤ r.end
  pub ends : b ≤ r.end
  pub inside : r.end ≤ length s
  pub room : r.end + more ≤ max (b + more) (length s)

pub record Asked (s : List ℕ) (more : ℕ) (r : Record) (ticket fields rest : List ℕ) : Type 0 where
  pub some : 0 < r.end
  pub ticket_is : ticket ≡ slice_range s r.from r.end
  pub fields_are : fields ≡ take more (drop r.end s)
  pub rest_is : rest ≡ drop more (drop r.end s)

abbrev pub HoldsWhatWasRead : Option (List ℕ) → Option (List ℕ) → List ℕ → Type 0
HoldsWhatWasRead old new bytes = (n : ℕ) × (n ≤ length bytes) × Consumes old new (take n bytes)

abbrev pub refusal_told : Result ℕ Refusal → Refusal
refusal_told (Ok length) = refusal 0 0
refusal_told (Err r) = r
