-- `board::start_refusal` meets its contract: the checks in their order.
use mathlib.Core.Path.{ap, ◌∙◌}
use native.Mathlib.Omega.{arith}
use borrow.Author.Rules.{rules}
use Rattle.terms.specs.Limits.{within}
use Rattle.ticket_sides.proofs.Flags.{failed, passed}
use Rattle.board.proofs.BoardKinds.{small_kind, two, three, four, none}
use Rattle.board.proofs.start_refusal.Statement.{statement}
use Rattle.board.proofs.start_refusal.Tie as tie

returns : tie.Need-returns-then-not-is_board_kind
returns c =
    let a = c.args in
    c.refuse.ensures ∙ two a.kind a.n a.byte2 (failed c.is_board_kind.ensures c.if-not-is_board_kind.true)

returns-2 : tie.Need-returns-then-not-is_within
returns-2 c =
    let a = c.args in
    c.refuse-then-not-is_within.ensures
    ∙ three a.kind a.n a.byte2 (passed c.is_board_kind.ensures c.if-not-is_board_kind.false)
    (failed c.is_within.ensures c.if-not-is_within.true)

cast-largest-byte2 : tie.Need-overflow_cast-kind
cast-largest-byte2 c =
    omega (arith, small_kind c.args.kind (passed c.is_board_kind.ensures c.if-not-is_board_kind.false))

returns-3 : tie.Need-returns-then-not-is_within-2
returns-3 c =
    let a = c.args in
    let tested = c.is_within-2.ensures ∙ ap (within a.byte2) c.largest_byte2.ensures in
    c.refuse-then-not-is_within-2.ensures
    ∙ four a.kind a.n a.byte2 (passed c.is_board_kind.ensures c.if-not-is_board_kind.false)
    (passed c.is_within.ensures c.if-not-is_within.false) (failed tested c.if-not-is_within-2.true)

returns-4 : tie.Need-returns
returns-4 c =
    let a = c.args in
    let tested = c.is_within-2.ensures ∙ ap (within a.byte2) c.largest_byte2.ensures in
    c.refuse-2.ensures
    ∙ none a.kind a.n a.byte2 (passed c.is_board_kind.ensures c.if-not-is_board_kind.false)
    (passed c.is_within.ensures c.if-not-is_within.false) (passed tested c.if-not-is_within-2.false)

pub start_refusal_spec : {M : Type 1} → statement M
start_refusal_spec =
    tie.close (tie.spec (λ c κs. search rules) (λ c κs. search rules) returns (λ c κs. search rules) (λ c κs. search rules) returns-2
    cast-largest-byte2 (λ c κs. search rules) (λ c κs. search rules) (λ c κs. search rules) returns-3 (λ c κs. search rules) returns-4)
