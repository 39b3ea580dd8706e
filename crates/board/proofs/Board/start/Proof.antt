-- `board::Board::start` meets its contract: a fresh board, of the kind and shape asked for or the row of a refused start.
use mathlib.Core.Path.{sym, ◌∙◌, subst}
use native.Mathlib.Omega.{arith}
use borrow.Author.Rules.{rules}
use Rattle.board_law.specs.Edits.{Sound}
use Rattle.board_law.proofs.Start.{start_sound}
use Rattle.board.proofs.BoardKinds.{start_refused, start_accepted, start_in}
use Rattle.board.proofs.StoredCounts.{fresh_counted}
use Rattle.board.proofs.Board.start.Statement.{statement}
use Rattle.board.proofs.Board.start.Tie as tie

returns : tie.Need-returns-then-refusal-ne0
returns c =
    let a = c.args in
    let is = c.fresh.ensures.0 ∙ sym (start_refused a.kind a.n a.byte2 c.start_refusal-refusal.ensures c.if-refusal-ne0.true)
    in (
      c.start_refusal-refusal.ensures,
      (
        is,
        (
          subst Sound (sym is) (start_sound a.kind a.n a.byte2),
          fresh_counted a.kind a.n a.byte2 is c.fresh.ensures.1,
        ),
      ),
    )

cast-fresh : tie.Need-overflow_cast-kind
cast-fresh c =
    let a = c.args in
    omega (arith, (start_in a.kind a.n a.byte2 c.start_refusal-refusal.ensures c.if-refusal-ne0.false).0)

cast-fresh-2 : tie.Need-overflow_cast-byte2
cast-fresh-2 c =
    let a = c.args in
    omega (arith, (start_in a.kind a.n a.byte2 c.start_refusal-refusal.ensures c.if-refusal-ne0.false).1)

returns-2 : tie.Need-returns
returns-2 c =
    let a = c.args in
    let is = c.fresh-2.ensures.0 ∙ sym (start_accepted a.kind a.n a.byte2 c.start_refusal-refusal.ensures
    c.if-refusal-ne0.false) in (
      c.start_refusal-refusal.ensures,
      (
        is,
        (
          subst Sound (sym is) (start_sound a.kind a.n a.byte2),
          fresh_counted a.kind a.n a.byte2 is c.fresh-2.ensures.1,
        ),
      ),
    )

pub start_spec : {M : Type 1} → statement M
start_spec =
    tie.close (tie.spec (λ c κs. search rules) (λ c κs. search rules) returns cast-fresh cast-fresh-2 (λ c κs. search rules) returns-2)
