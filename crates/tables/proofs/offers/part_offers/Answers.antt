use Rattle.tables.proofs.Handing.{body-closed}
use Rattle.tables.proofs.offers.part_offers.Goals as goal

pub unfold_body-requires-clause-closed : goal.unfold_body-requires-clause-closed
unfold_body-requires-clause-closed c =
    let b = c.in-Receive in
    body-closed c.args.receive.now b.kind b.binds b.body c.args.values.now b.is c.requires.receive c.requires.values
