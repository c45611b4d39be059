use Rattle.std.proofs.Common.{sym, subst}
use Rattle.calculus.specs.Form.{term}
use Rattle.match_targets.specs.Targets.{AllReady}
use Rattle.match_targets.proofs.Readying.{data-ready}
use Rattle.tables.proofs.Handing.{ready_as}
use Rattle.tables.proofs.matches.match_send.Goals as goal

pub match_receive-requires-clause-args : goal.match_receive-requires-clause-args
match_receive-requires-clause-args c =
    subst (AllReady term) (sym c.deref.ensures.value)
    (data-ready c.in-Send.persistent c.in-Send.channel c.in-Send.args.items (ready_as _ _ c.in-Send.is c.requires.send))
