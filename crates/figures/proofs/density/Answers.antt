-- `figures::density` meets its contract: the nets that begin and end as the tables say go over the columns that must pass them.
use Rattle.std.proofs.Common.{max, ap₂, ◌∙◌}
use Rattle.figures.proofs.Outer.{outer}
use Rattle.figures.proofs.Across.{ends, crossed_plain, crossed_box}
use Rattle.figures.proofs.density.Goals as goal

pub peak-most-requires-clause-ends : goal.peak-most-requires-clause-ends
peak-most-requires-clause-ends c =
    ends c.args.x.near.now c.args.x.far.now c.args.x.held c.extents_of-extents.ensures.begins c.extents_of-extents.ensures.ends

pub at_ends-requires-clause-ends_at : goal.at_ends-requires-clause-ends_at
at_ends-requires-clause-ends_at c =
    ends c.args.x.near.now c.args.x.far.now c.args.x.held c.extents_of-extents.ensures.begins c.extents_of-extents.ensures.ends

pub returns-then-boxed : goal.returns-then-boxed
returns-then-boxed c =
    let x = c.args.x in
    let e = c.extents_of-extents in
    rw c.if-boxed.true
    (crossed_box x.near.now x.far.now x.held e.ensures.begins e.ensures.ends
    (c.max.ensures ∙ ap₂ max c.peak-most.ensures c.at_ends.ensures ∙ outer e.result.from e.result.to x.places x.held.fits.0))

pub returns : goal.returns
returns c =
    let x = c.args.x in
    let e = c.extents_of-extents in
    rw c.if-boxed.false (crossed_plain x.near.now x.far.now x.held e.ensures.begins e.ensures.ends c.peak-most.ensures)
