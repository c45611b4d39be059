use Rattle.std.proofs.Common.{arith}
use Rattle.match_targets.proofs.Repeating.{part-ready-at}
use Rattle.tables.proofs.matches.match_two.Goals as goal

pub match_send-requires-clause-send : goal.match_send-requires-clause-send
match_send-requires-clause-send c =
    part-ready-at c.args.process.now c.parts-parts.result.now 0 c.index-parts-0.result c.parts-parts.ensures.parts (omega arith) c.index-parts-0.is c.requires

pub match_send-requires-clause-receive : goal.match_send-requires-clause-receive
match_send-requires-clause-receive c =
    part-ready-at c.args.process.now c.parts-parts.result.now 1 c.index-parts-1.result c.parts-parts.ensures.parts (omega arith) c.index-parts-1.is c.requires
