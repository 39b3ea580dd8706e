-- `trunks::place_trunks`: what is listed can be packed, and keeps the promise.
use Rattle.trunks.proofs.Promise.{packable, promised}
use Rattle.trunks.proofs.place_trunks.Goals as goal

pub pack_spans-requires : goal.pack_spans-requires
pack_spans-requires c =
    rw c.as_slice.ensures.value
    (packable _ _ _ c.requires.1 c.requires.2 c.requires.3 c.args.spans.now.columns.one c.args.spans.now.columns.two _
    c.list_spans-list.ensures.few (rw c.column_count.ensures at c.list_spans-list.ensures.listed))

pub returns : goal.returns
returns c =
    rw (c.pack_spans.ensures, c.as_slice.ensures.value)
    (promised _ _ _ c.requires.1 c.requires.2 c.requires.3 c.args.spans.now.columns.one c.args.spans.now.columns.two _
    c.list_spans-list.ensures.few (rw c.column_count.ensures at c.list_spans-list.ensures.listed))
