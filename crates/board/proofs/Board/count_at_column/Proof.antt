-- `board::Board::count_at_column` meets its contract.
use mathlib.Core.Path.{◌∙◌}
use borrow.Author.Rules.{rules}
use Rattle.board.proofs.StoredCounts.{column_at}
use Rattle.board.proofs.Board.count_at_column.Statement.{statement}
use Rattle.board.proofs.Board.count_at_column.Tie as tie

returns : tie.Need-returns
returns c =
    (c.count_at.ensures, λ sound counted. c.count_at.ensures ∙ column_at sound counted c.args.c)

pub count_at_column_spec : {M : Type 1} → statement M
count_at_column_spec = tie.close (tie.spec (λ c κs. search rules) returns)
