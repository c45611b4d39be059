use Rattle.std.proofs.Common.{arith}
use Rattle.printed_leaves.proofs.Singles.{name_pattern-others}
use Rattle.printed_leaves.proofs.shapes.is_bare.Goals as goal

pub returns-in_default-2 : goal.returns-in_default-2
returns-in_default-2 c = name_pattern-others c.parts.result.now c.args.t.now c.parts.ensures.parts (λ z. omega arith)
