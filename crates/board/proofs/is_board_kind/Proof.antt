-- `board::is_board_kind` meets its contract: the table of ones is 1 just at a board's kind.
use Prim.Native.Nat.{ℕ}
use mathlib.Core.Path.{sym, ap, ◌∙◌}
use lib.Dec.{eqb}
use borrow.Author.Rules.{rules}
use Rattle.board.proofs.BoardKinds.{ones, no_board}
use Rattle.board.proofs.is_board_kind.Statement.{statement}
use Rattle.board.proofs.is_board_kind.Tie as tie

returns : tie.Need-returns-then-kind-ge-BYTE_VALUES
returns c = sym (no_board c.args.kind c.if-kind-ge-BYTE_VALUES.true)

returns-2 : tie.Need-returns
returns-2 c = ap (λ (x : ℕ). eqb x 1) c.by_kind.ensures ∙ ones c.args.kind

pub is_board_kind_spec : {M : Type 1} → statement M
is_board_kind_spec = tie.close (tie.spec returns (λ c. search rules) (λ c κs. search rules) returns-2)
