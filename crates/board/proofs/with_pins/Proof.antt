-- `board::with_pins` meets its contract: the lists are those that were passed, which have an entry for each place.
use mathlib.Core.Path.{refl}
use borrow.Author.Rules.{rules}
use Rattle.board.proofs.with_pins.Statement.{statement}
use Rattle.board.proofs.with_pins.Tie as tie

returns : tie.Need-returns
returns c = (refl, record { north = search rules; south = search rules; west = search rules; east = search rules })

pub with_pins_spec : {M : Type 1} → statement M
with_pins_spec = tie.close (tie.spec returns)
