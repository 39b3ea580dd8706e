-- `board::Board::count_at_track` meets its contract.
use mathlib.Core.Path.{◌∙◌}
use borrow.Author.Rules.{rules}
use Rattle.board.proofs.StoredCounts.{track_at}
use Rattle.board.proofs.Board.count_at_track.Statement.{statement}
use Rattle.board.proofs.Board.count_at_track.Tie as tie

returns : tie.Need-returns
returns c =
    (c.count_at.ensures, λ sound counted. c.count_at.ensures ∙ track_at sound counted c.args.c)

pub count_at_track_spec : {M : Type 1} → statement M
count_at_track_spec = tie.close (tie.spec (λ c κs. search rules) returns)
