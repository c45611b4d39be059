use Rattle.std.proofs.Common.{arith}
use Rattle.std.proofs.lemmas.Grind.{common_steps}
use Rattle.printed_leaves.proofs.Digits.{encoded}
use Rattle.printed_leaves.proofs.words.put_hex.Goals as goal

pub returns-clause-text : goal.returns-clause-text
returns-clause-text c = grind (arith, common_steps, encoded c.args.bytes.now (λ i. omega (arith, c.type_inv.bytes i)))
