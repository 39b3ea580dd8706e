-- Tickets turned flat and flat ones turned into tickets (document 02, job 4): the calls' answers and their whole promise, said once for
-- both directions.
--
--   Form                   a way to write a problem down: what a list of bytes states, or its first refusal; and the bytes of a problem
--   ticket_form, flat_form the two ways
--   converted from to s    the bytes in the form `to` of what the bytes s state in the form `from`: "Convert either way"
--   converted_answer from to s size
--                          the answer where the lent buffer has so many bytes: "Errors: only 19, after the ticket's own"; else "the length
--                          written"
--   Converts from to s before after r
--                          the promise of a call that answers r and leaves the buffer, which was before, as after:
--     answer               the length, or the refusal's number and place
--     untouched            "a refused one alters no lent byte"
--     past                 "bytes past the answer stay"
--     bytes                what is written is s in the form `to`
--     same                 if s is accepted, that states what s states: kind, n, byte 2, the number of nets and every pin
--     back                 if s is accepted: "A ticket turned flat and back is the same bytes, and so is a flat one turned and back"
use Rattle.std.specs.Prelude.{ℕ, ◌≡◌, List, length, drop, Result, Err, OnOk, OnErr}
use Rattle.terms.specs.declared.Refusal.{Refusal}
use Rattle.terms.specs.Refusals.{accepted, unless}
use Rattle.problem.specs.declared.Problem.{Problem}
use Rattle.output.specs.Writing.{written_for, written_length, written_in}
use Rattle.ticket.specs.declared.Reading.{Reading}
use Rattle.ticket.specs.Read.{ticket_of}
use Rattle.ticket_bytes.specs.Bytes.{bytes_of}
use Rattle.flat_reader.specs.Flat.{flat_ticket_of}
use Rattle.flat_law.specs.FlatBytes.{flat_bytes_of}

pub record Form : Type 0 where
  pub reading : List ℕ → Reading
  pub bytes : Problem → List ℕ

abbrev pub ticket_form : Form
ticket_form = record { reading = ticket_of; bytes = bytes_of }

abbrev pub flat_form : Form
flat_form = record { reading = flat_ticket_of; bytes = flat_bytes_of }

abbrev pub converted : Form → Form → List ℕ → List ℕ
converted from to s = to.bytes (from.reading s).problem

abbrev pub converted_answer : Form → Form → List ℕ → ℕ → Result ℕ Refusal
converted_answer from to s size =
    unless (accepted (from.reading s).refusal) (Err (from.reading s).refusal) (written_for (converted from to s) size)

pub record Converts (from to : Form) (s before after : List ℕ) (r : Result ℕ Refusal) : Type 0 where
  pub answer : r ≡ converted_answer from to s (length before)
  pub untouched : OnErr r (after ≡ before)
  pub past : drop (written_length r) after ≡ drop (written_length r) before
  pub bytes : OnOk r (written_in r after ≡ converted from to s)
  pub same : (from.reading s).refusal.number ≡ 0 → to.reading (converted from to s) ≡ from.reading s
  pub back : (from.reading s).refusal.number ≡ 0 → converted to from (converted from to s) ≡ s
