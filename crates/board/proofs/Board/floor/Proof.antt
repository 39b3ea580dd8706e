-- `board::Board::floor` meets its contract: the floor of the stored figures, which is Survey's.
use Prim.Native.Nat.{ℕ, min, max}
use mathlib.Core.Path.{ap, ◌∙◌}
use native.Mathlib.Omega.{arith}
use borrow.Author.Rules.{rules}
use Rattle.terms.specs.Limits.{longest_side, largest_net}
use Rattle.board.proofs.StoredCounts.{floor_of_lem}
use Rattle.board.proofs.Board.floor.Statement.{statement}
use Rattle.board.proofs.Board.floor.Tie as tie

rounded-up-requires : tie.Need-rounded_up-requires
rounded-up-requires c κs = (
  omega (arith, c.smaller-across.ensures),
  omega (
    arith,
    c.larger-w.ensures,
    c.smaller-2.ensures,
  ),
)

rounded-up-requires-2 : tie.Need-rounded_up-requires-2
rounded-up-requires-2 c κs = (
  omega (arith, c.smaller-up.ensures),
  omega (
    arith,
    c.larger-n.ensures,
    c.smaller.ensures,
  ),
)

floor-for-requires : tie.Need-floor_for-floor-requires
floor-for-requires c κs = (
  omega (arith, c.rounded_up.ensures.1, c.smaller-across.ensures),
  omega (arith, c.rounded_up-2.ensures.1, c.smaller-up.ensures),
)

returns : tie.Need-returns
returns c =
    let w = c.larger-w.ensures
    ∙ ap (max 1) (c.smaller-2.ensures ∙ ap (λ (x : ℕ). min x longest_side) c.wide.ensures) in
    let n = c.larger-n.ensures
    ∙ ap (max 1) (c.smaller.ensures ∙ ap (λ (x : ℕ). min x longest_side)
    c.column_count.ensures) in
    let across = c.smaller-across.ensures ∙ ap (λ (x : ℕ). min x largest_net)
    c.across.ensures.0 in
    let up = c.smaller-up.ensures ∙ ap (λ (x : ℕ). min x largest_net)
    c.up.ensures.0 in
    λ sound counted i. record {
      0 = floor_of_lem sound counted n w across up c.rounded_up.ensures.0
          c.rounded_up-2.ensures.0
          c.floor_for-floor.ensures c.by_kind.ensures i;
    }

pub floor_spec : {M : Type 1} → statement M
floor_spec = tie.close (tie.spec (λ c κs. search rules) (λ c κs. search rules) (λ c κs. search rules) (λ c κs. search rules) (λ c κs.
    search rules)
    (λ c κs. search rules) (λ c κs. search rules) (λ c κs. search rules) (λ c κs. search rules) (λ c κs. search rules) rounded-up-requires
    rounded-up-requires-2 floor-for-requires (λ c κs. search rules) returns)
