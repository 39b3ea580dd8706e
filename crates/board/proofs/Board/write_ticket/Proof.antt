-- `board::Board::write_ticket` meets its contract: what is written is the ticket of the board's problem.
use mathlib.Core.Path.{ap}
use borrow.Author.Rules.{rules}
use Rattle.output.proofs.Laws.{wrote_as}
use Rattle.ticket_bytes.specs.Bytes.{bytes_of}
use Rattle.board.proofs.Board.write_ticket.Statement.{statement}
use Rattle.board.proofs.Board.write_ticket.Tie as tie

returns : tie.Need-returns
returns c =
    λ sound. wrote_as (ap bytes_of (c.limited.ensures.1 sound)) c.write_ticket.ensures

pub write_ticket_spec : {M : Type 1} → statement M
write_ticket_spec = tie.close (tie.spec (λ c κs. search rules) (λ c κs. search rules) (λ c. search rules) returns)
