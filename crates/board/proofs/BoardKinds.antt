-- A board's kind, and the limits that a sound board keeps.
use Prim.Native.Nat.{ℕ, ◌≤◌, min}
use mathlib.Core.Path.{◌≡◌, refl, sym, ap, ◌∙◌}
use mathlib.Core.Logic.{◌≢◌}
use mathlib.Core.Bool.{Bool, true, false, cond, true≢false}
use native.Mathlib.Decide.{dec_le, ℕ_discrete}
use native.Mathlib.Omega.{arith}
use lib.Dec.{eqb, leb}
use borrow.Author.Tests.{eq-eqb, ne_eqb}
use Rattle.counting.specs.Counting.{In}
use Rattle.counting.proofs.Counts.{count_le}
use Rattle.terms.specs.Limits.{longest_side, largest_net, byte_values, within}
use Rattle.terms.specs.Kinds.{row, channel, box, two_layer, by_kind, largest_byte2}
use Rattle.terms.proofs.Laws.{Known, is_row, is_channel, is_box, is_two_layer, known, of_box, boxes_only}
use Rattle.terms.specs.Refusals.{refusal, accepted}
use Rattle.terms.specs.declared.Refusal.{Refusal}
use Rattle.problem.specs.declared.Problem.{Problem}
use Rattle.problem.specs.Problem.{pins_in, pin_count, width_of}
use Rattle.problem.proofs.Sizes.{byte2_in}
use Rattle.board_law.specs.Edits.{is_board_kind, start_refusal, fresh, start_problem, Sound}
use Rattle.board_law.proofs.Accepted.{accepted_start}
use Rattle.board_law.proofs.Start.{board_kind}

-- the table of ones is 1 just at a board's kind
pub ones : (kind : ℕ) → eqb (by_kind kind 0 1 1 1 0) 1 ≡ is_board_kind kind
ones kind = go (eqb kind row) (eqb kind channel) (eqb kind box) (eqb kind two_layer)
  where
    go : (a b c d : Bool)
        → eqb (cond a 1 (cond b 1 (cond c 1 (cond d 0 0)))) 1 ≡ cond a true (cond b true (cond c true (cond d false false)))
    go true b c d = refl
    go false true c d = refl
    go false false true d = refl
    go false false false true = refl
    go false false false false = refl

pub no_board : (kind : ℕ) → byte_values ≤ kind → is_board_kind kind ≡ false
no_board kind h =
    rw (
      ne_eqb kind row (λ e. omega arith),
      ne_eqb kind channel (λ e. omega arith),
      ne_eqb kind box (λ e. omega arith),
      ne_eqb kind two_layer (λ e. omega arith),
    )

pub small_kind : (kind : ℕ) → is_board_kind kind ≡ true → kind ≤ 255
small_kind kind e = elim (dec_le kind 255) [ yes h ↦ h | no h ↦ absurd (true≢false (sym e ∙ no_board kind (omega arith))) ]

-- ---- limits

width_small : (kind b : ℕ) → b ≤ longest_side → by_kind kind 1 1 1 b 1 ≤ longest_side
width_small kind b h = elim (ℕ_discrete kind box) [
  | yes e ↦ omega (arith, of_box kind 1 1 1 b 1 e)
  | no ne ↦ omega (arith, boxes_only kind 1 b ne)
]

nets_in : (q : Problem) → Sound q → q.nets ≤ largest_net
nets_in q sound = omega (arith, sound.good.nets, count_le (λ m. leb 1 (pin_count (pins_in q.pins) m)) largest_net)

-- the problem with each number at its limit at most
module _ (q : Problem) (n byte2 nets : ℕ) (e : n ≡ min q.n.0 longest_side) (f : byte2 ≡ min q.byte2 longest_side)
    (g : nets ≡ min q.nets largest_net) where
  abbrev limited : Problem
  limited = record { kind = q.kind; n = record { 0 = n }; byte2 = byte2; nets = nets; pins = q.pins }

  pub limits : ((n ≤ longest_side) × (width_of limited ≤ longest_side) × (nets ≤ largest_net)) × (Sound q → limited ≡ q)
  limits = ((omega arith, width_small q.kind byte2 (omega arith), omega arith), same)
    where
      same : Sound q → limited ≡ q
      same sound =
          let a : n ≡ q.n.0 = omega (arith, sound.good.columns) in
          let b : byte2 ≡ q.byte2 = omega (arith, byte2_in sound.good) in
          let c : nets ≡ q.nets = omega (arith, nets_in q sound) in
          λ i. record { kind = q.kind; n = record { 0 = a i }; byte2 = b i; nets = c i; pins = q.pins }

-- ---- the checks of a start, in their order

module _ (kind n byte2 : ℕ) where
  pub two : is_board_kind kind ≡ false → refusal 2 0 ≡ start_refusal kind n byte2
  two a = rw a

  module _ (a : is_board_kind kind ≡ true) where
    pub three : within n longest_side ≡ false → refusal 3 0 ≡ start_refusal kind n byte2
    three b = rw (a, b)

    module _ (b : within n longest_side ≡ true) where
      pub four : within byte2 (largest_byte2 kind) ≡ false → refusal 4 0 ≡ start_refusal kind n byte2
      four c = rw (a, b, c)

      pub none : within byte2 (largest_byte2 kind) ≡ true → refusal 0 0 ≡ start_refusal kind n byte2
      none c = rw (a, b, c)

  -- what the answer's number shows, and the board that a start gives
  module _ {r : Refusal} (answer : r ≡ start_refusal kind n byte2) where
    tested : accepted r ≡ accepted (start_refusal kind n byte2)
    tested = ap accepted answer

    pub start_refused : r.number ≢ 0 → start_problem kind n byte2 ≡ fresh row 1 1
    unfolding start_problem
    start_refused nz = rw (sym tested ∙ ne_eqb r.number 0 nz)

    pub start_accepted : r.number ≡ 0 → start_problem kind n byte2 ≡ fresh kind n byte2
    unfolding start_problem
    start_accepted z = rw (sym tested ∙ eq-eqb r.number 0 z)

    pub start_in : r.number ≡ 0 → (kind ≤ 255) × (byte2 ≤ 255)
    start_in z =
        let (k, i, j) = accepted_start kind n byte2 (sym tested ∙ eq-eqb r.number 0 z) in
        (small_kind kind k, small (known kind (board_kind kind k)) j)
      where
        small : {k : ℕ} → Known k → In byte2 (largest_byte2 k) → byte2 ≤ 255
        small is_row h = omega arith
        small is_channel h = omega arith
        small is_box h = omega arith
        small is_two_layer h = omega arith
