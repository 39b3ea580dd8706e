-- `terms::is_within` meets its contract: its two tests are those of `within`.
use borrow.Author.Tests.{le-leb, lt-leb}
use Rattle.terms.proofs.is_within.Statement.{statement}
use Rattle.terms.proofs.is_within.Tie as tie

returns : tie.Need-returns-then-a-lt1
returns c = simp (lt-leb _ _ c.if-a-lt1.true)

returns-2 : tie.Need-returns
returns-2 c = simp (le-leb _ _ c.if-a-lt1.false)

pub is_within_spec : {M : Type 1} → statement M
is_within_spec = tie.close (tie.spec returns returns-2)
