use Rattle.std.proofs.Common.{arith}
use Rattle.match_targets.proofs.Repeating.{part-ready-at}
use Rattle.tables.proofs.matches.match_one.Goals as goal

pub match_target-requires : goal.match_target-requires
match_target-requires c =
    part-ready-at c.args.process.now c.parts-parts.result.now 0 c.index-parts-0.result c.parts-parts.ensures.parts (omega arith) c.index-parts-0.is c.requires
