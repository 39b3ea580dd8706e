-- `board::limited` meets its contract: a sound board's numbers are within their limits already.
use Prim.Native.Nat.{ℕ, min}
use mathlib.Core.Path.{ap, ◌∙◌}
use borrow.Author.Rules.{rules}
use Rattle.terms.specs.Limits.{longest_side}
use Rattle.board.proofs.BoardKinds.{limits}
use Rattle.board.proofs.limited.Statement.{statement}
use Rattle.board.proofs.limited.Tie as tie

returns : tie.Need-returns
returns c =
    let long = c.smaller-n.ensures ∙ ap (λ (x : ℕ). min x longest_side) c.column_count.ensures in
    limits c.args.q _ _ _ long c.smaller_byte.ensures c.smaller_byte-2.ensures

pub limited_spec : {M : Type 1} → statement M
limited_spec =
    tie.close (tie.spec (λ c κs. search rules) (λ c κs. search rules) (λ c. search rules) (λ c κs. search rules) (λ c. search rules)
    (λ c κs. search rules) returns)
