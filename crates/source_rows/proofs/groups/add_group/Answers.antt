use Rattle.std.proofs.Common.{sym, subst}
use Rattle.row_search.specs.Choices.{AllBindsReady}
use Rattle.row_search.proofs.Known.{as-row, binds-ready}
use Rattle.source_rows.proofs.groups.add_group.Goals as goal

pub channels_of-requires : goal.channels_of-requires
channels_of-requires c =
    let p = c.in-Consume in
    subst AllBindsReady (sym c.deref.ensures.value) (binds-ready c.args.row.now p.id p.kind p.binds p.body (as-row c.args.row.now _ _ c.op.ensures.is p.is) c.op.ensures.storable)
