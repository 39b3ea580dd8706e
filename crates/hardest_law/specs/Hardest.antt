-- The hardest box of a shape (document 02, job 3): the call's answer, and its whole promise.
--
--   BoxOf n w s         Read accepts the bytes s as a box of n columns and w tracks
--   FullBox n w s       the same, and "Every place of the ticket is filled"
--   survey_floor s      Survey's floor of a ticket
--   survey_layers s     the layers that Lay uses, as Survey has them
--   hardest_floor n w   "a ticket whose floor is the larger of 2q + 1 and q + 3"
--   is_shape n w        both sides are 1 to 90
--   full_length n w     "which fixes its length": bytes 0 to 3 and, for each side, its map and a net number for each place
--   hardest_answer n w size
--                       the answer where the lent buffer has so many bytes: "18 (place 0), a side outside 1 to 90; then 19 (place: the
--                       length needed), lent buffer too short"; "an accepted call that writes a ticket gives the length written"
--   WritesHardest n w before after r
--                       the promise of a call that answers r and leaves the buffer, which was before, as after:
--     answer            the length, or the refusal's number and place
--     untouched         "a refused one alters no lent byte"
--     past              "bytes past it are untouched"
--     full              Read accepts what is written, as a box of that shape with every place filled
--     floor             its floor
--     highest           "no box ticket of that shape has a higher floor": any list of bytes s that Read accepts as such a box
--     near              "So what we lay is never more than three layers above what that shape can force": any such box s
use Rattle.std.specs.Prelude.{ℕ, ◌+◌, ◌*◌, ◌≤◌, max, ◌≡◌, ◌≢◌, Bool, ◌&&◌, List, leb, length, drop, Result, Ok, Err, OnOk, OnErr}
use Rattle.counting.specs.Counting.{In}
use Rattle.terms.specs.Kinds.{Side, box, quotient}
use Rattle.terms.specs.Limits.{longest_side, within}
use Rattle.terms.specs.declared.Refusal.{Refusal}
use Rattle.terms.specs.Refusals.{refusal, unless}
use Rattle.grid.specs.Grid.{places}
use Rattle.problem.specs.Problem.{shape_of}
use Rattle.ticket_sides.specs.Format.{map_bytes}
use Rattle.ticket.specs.Read.{ticket_of, problem_of, ticket_pins}
use Rattle.survey.specs.Survey.{survey_of}
use Rattle.output.specs.Writing.{written_length, written_in}

pub record BoxOf (n w : ℕ) (s : List ℕ) : Type 0 where
  pub accepted : (ticket_of s).refusal.number ≡ 0
  pub kind : (problem_of s).kind ≡ box
  pub columns : (problem_of s).n.0 ≡ n
  pub tracks : (problem_of s).byte2 ≡ w

pub record FullBox (n w : ℕ) (s : List ℕ) : Type 0 where
  pub shape : BoxOf n w s
  pub everywhere : (side : Side) (a : ℕ) → In a (places (shape_of (problem_of s)) side) → ticket_pins s side a ≢ 0

abbrev pub survey_floor : List ℕ → ℕ
survey_floor s = (survey_of s).floor.0

abbrev pub survey_layers : List ℕ → ℕ
survey_layers s = (survey_of s).layers.0

abbrev pub hardest_floor : ℕ → ℕ → ℕ
hardest_floor n w = max (2 * quotient n w + 1) (quotient n w + 3)

abbrev pub is_shape : ℕ → ℕ → Bool
is_shape n w = within n longest_side && within w longest_side

abbrev pub full_length : ℕ → ℕ → ℕ
full_length n w = 4 + 2 * (map_bytes n + n) + 2 * (map_bytes w + w)

abbrev pub hardest_answer : ℕ → ℕ → ℕ → Result ℕ Refusal
hardest_answer n w size =
    unless (is_shape n w) (Err (refusal 18 0))
    (unless (leb (full_length n w) size) (Err (refusal 19 (full_length n w)))
    (Ok (full_length n w)))

pub record WritesHardest (n w : ℕ) (before after : List ℕ) (r : Result ℕ Refusal) : Type 0 where
  pub answer : r ≡ hardest_answer n w (length before)
  pub untouched : OnErr r (after ≡ before)
  pub past : drop (written_length r) after ≡ drop (written_length r) before
  pub full : OnOk r (FullBox n w (written_in r after))
  pub floor : OnOk r (survey_floor (written_in r after) ≡ hardest_floor n w)
  pub highest : (s : List ℕ) → BoxOf n w s → survey_floor s ≤ hardest_floor n w
  pub near : OnOk r ((s : List ℕ) → BoxOf n w s → survey_layers s ≤ survey_floor (written_in r after) + 3)
