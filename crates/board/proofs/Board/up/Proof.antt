-- `board::Board::up` meets its contract: the largest stored figure, which is Survey's.
use mathlib.Core.Path.{◌∙◌}
use borrow.Author.Rules.{rules}
use Rattle.board_law.specs.Counts.{stored_up}
use Rattle.board_law.proofs.Stored.{stored_up_lem}
use Rattle.board.proofs.Board.up.Statement.{statement}
use Rattle.board.proofs.Board.up.Tie as tie

returns : tie.Need-returns
unfolding stored_up
returns c = let is = c.wide.ensures ∙ c.greatest.ensures in (is, λ sound counted. is ∙ stored_up_lem sound counted)

pub up_spec : {M : Type 1} → statement M
up_spec = tie.close (tie.spec (λ c κs. search rules) (λ c κs. search rules) returns)
