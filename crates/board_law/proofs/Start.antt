-- A board that starts is sound and has no pins: it has the kind and the shape of an accepted call, or the refused call's row.
use Prim.Native.Nat.{ℕ, suc}
use mathlib.Core.Path.{◌≡◌, refl, sym}
use mathlib.Core.Bool.{Bool, true, false, cond}
use native.Mathlib.Omega.{arith}
use lib.Dec.{eqb, leb}
use Rattle.counting.specs.Counting.{In, bit}
use Rattle.counting.proofs.Sums.{split, sum_zero}
use Rattle.counting.proofs.Lists.{zeros_at}
use Rattle.terms.specs.Limits.{longest_side, largest_net}
use Rattle.terms.specs.Kinds.{Side, north, south, west, east, row, channel, box, two_layer, is_kind, largest_byte2}
use Rattle.terms.specs.Refusals.{accepted}
use Rattle.problem.specs.Problem.{pins_in, pin_count, net_count}
use Rattle.problem.proofs.Pinned.{no_pin}
use Rattle.ticket.specs.Read.{empty_pins}
use Rattle.board_law.specs.Edits.{is_board_kind, start_refusal, fresh, start_problem, Sound}
use Rattle.board_law.proofs.Accepted.{accepted_start}

-- a board's kind is a ticket's
pub board_kind : (kind : ℕ) → is_board_kind kind ≡ true → is_kind kind ≡ true
board_kind kind = by_tests (eqb kind row) (eqb kind channel) (eqb kind box) (eqb kind two_layer)
  where
    by_tests : (r c b t : Bool) → cond r true (cond c true (cond b true (cond t false false))) ≡ true
        → cond r true (cond c true (cond b true (cond t true false))) ≡ true
    by_tests true c b t e = refl
    by_tests false true b t e = refl
    by_tests false false true t e = refl
    by_tests false false false true e = refl
    by_tests false false false false e = e

no_pins : (s : Side) (a : ℕ) → pins_in empty_pins s a ≡ 0
no_pins north = zeros_at (suc longest_side)
no_pins south = zeros_at (suc longest_side)
no_pins west = zeros_at (suc longest_side)
no_pins east = zeros_at (suc longest_side)

no_nets_lem : net_count (pins_in empty_pins) ≡ 0
no_nets_lem =
    sum_zero (λ m. bit (leb 1 (pin_count (pins_in empty_pins) m))) largest_net
    (λ m i. rw (no_pin (pins_in empty_pins) m (λ s a e. omega (arith, no_pins s a))))

fresh_sound : (kind n byte2 : ℕ) → is_board_kind kind ≡ true → In n longest_side → In byte2 (largest_byte2 kind) → Sound (fresh kind n byte2)
fresh_sound kind n byte2 k i j =
    record {
      kind = k;
      good = record {
        kind = board_kind kind k;
        columns = i;
        byte2 = j;
        numbered = λ s a. omega (arith, no_pins s a);
        ends = λ s a past. no_pins s a;
        bare = λ s lacks. no_pins s;
        several = λ s a nz. absurd (nz (no_pins s a));
        nets = sym no_nets_lem;
      };
      sized = record { north = refl; south = refl; west = refl; east = refl };
    }

pub start_sound : (kind n byte2 : ℕ) → Sound (start_problem kind n byte2)
unfolding start_problem
start_sound kind n byte2 =
    split (accepted (start_refusal kind n byte2))
    (λ ok. let (k, i, j) = accepted_start kind n byte2 ok in rw ok (fresh_sound kind n byte2 k i j))
    (λ refused. rw refused (fresh_sound row 1 1 refl (omega arith) (omega arith)))

pub start_bare : (kind n byte2 : ℕ) (s : Side) (a : ℕ) → pins_in (start_problem kind n byte2).pins s a ≡ 0
unfolding start_problem
start_bare kind n byte2 s a =
    split (accepted (start_refusal kind n byte2)) (λ ok. rw ok (no_pins s a)) (λ refused. rw refused (no_pins s a))
