-- `ticket_sides::has_spare` meets its contract, by `spare`: leading zeros against the bits that are used.
use mathlib.Core.Path.{sym}
use native.Mathlib.Omega.{arith}
use lib.Count.{leading_le}
use Rattle.ticket_sides.proofs.Bits.{spare}
use Rattle.ticket_sides.proofs.has_spare.Statement.{statement}
use Rattle.ticket_sides.proofs.has_spare.Tie as tie

cast-zeros : tie.Need-overflow_cast-zeros
cast-zeros c = omega (arith, leading_le 8 c.args.last)

add-result : tie.Need-overflow_add-result
add-result c = omega (arith, leading_le 8 c.args.last)

returns : tie.Need-returns
returns c = sym (spare c.args.last c.args.used c.ranges.last.fits)

pub has_spare_spec : {M : Type 1} → statement M
has_spare_spec = tie.close (tie.spec cast-zeros add-result returns)
