-- `answers::view_entries` meets its contract: a view that is not refused has counts for which start and length are defined.
use borrow.Author.Rules.{rules}
use native.Mathlib.Omega.{arith}
use Rattle.view.proofs.Views.{seen}
use Rattle.answers.proofs.Views.{entries_refused, entries_seen}
use Rattle.answers.proofs.view_entries.Statement.{statement}
use Rattle.answers.proofs.view_entries.Tie as tie

returns : tie.Need-returns-then-refusal-ne0
returns c = entries_refused _ _ _ _ _ _ c.layer_view_refusal-refusal.ensures c.if-refusal-ne0.true

index-of-requires : tie.Need-index_of-start-requires
index-of-requires c κs =
    let v = seen _ _ _ _ _ _ c.layer_view_refusal-refusal.ensures c.if-refusal-ne0.false in
    omega (arith, v.grid.long, v.grid.wide, v.grid.high, v.level)

area-requires : tie.Need-area-size-requires
area-requires c κs =
    let v = seen _ _ _ _ _ _ c.layer_view_refusal-refusal.ensures c.if-refusal-ne0.false in
    omega (arith, v.grid.long, v.grid.wide)

returns-2 : tie.Need-returns
returns-2 c =
    let given = c.layer_view_refusal-refusal.ensures in
    entries_seen _ _ _ _ _ _ given _ _ c.if-refusal-ne0.false c.index_of-start.ensures c.area-size.ensures

pub view_entries_spec : {M : Type 1} → statement M
view_entries_spec =
    tie.close (tie.spec (λ c κs. search rules) (λ c. search rules) returns index-of-requires area-requires (λ c. search rules)
    returns-2)
