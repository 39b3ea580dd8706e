-- `board::Board::across` meets its contract: the largest stored figure, which is Survey's.
use mathlib.Core.Path.{◌∙◌}
use borrow.Author.Rules.{rules}
use Rattle.board_law.specs.Counts.{stored_across}
use Rattle.board_law.proofs.Stored.{stored_across_lem}
use Rattle.board.proofs.Board.across.Statement.{statement}
use Rattle.board.proofs.Board.across.Tie as tie

returns : tie.Need-returns
unfolding stored_across
returns c = let is = c.wide.ensures ∙ c.greatest.ensures in (is, λ sound counted. is ∙ stored_across_lem sound counted)

pub across_spec : {M : Type 1} → statement M
across_spec = tie.close (tie.spec (λ c κs. search rules) (λ c κs. search rules) returns)
