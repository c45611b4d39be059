use Rattle.std.proofs.Common.{◌≤◌, length, arith}
use Rattle.gate_runs.proofs.Sources.{numberable}
use Rattle.gate_runs.proofs.direct.replayed.Goals as goal

pub replay-requires-clause-numberable : goal.replay-requires-clause-numberable
replay-requires-clause-numberable g c κs within =
    let short : length c.args.source.now ≤ 1048576 = omega (arith, c.if-source-gt-SOURCE_MAX.false) in
    numberable c.args.source.now c.in-Ok-term_of.term c.in-Ok-term_of.ensures.term short
