use Rattle.std.proofs.Common.{sym, subst, arith}
use Rattle.calculus.specs.Operators.{seen}
use Rattle.value_ops.specs.Answers.{IsNoGround}
use Rattle.value_ops.proofs.Seeing.{other_parts}
use Rattle.value_ops.proofs.values.ground_of.Goals as goal

pub returns-in-empty : goal.returns-in-empty
returns-in-empty c = subst (λ t. IsNoGround (seen t)) (sym c.parts.ensures.parts) (other_parts c.parts.result.now (λ e. omega arith))

pub returns-in-len2-up : goal.returns-in-len2-up
returns-in-len2-up c = subst (λ t. IsNoGround (seen t)) (sym c.parts.ensures.parts) (other_parts c.parts.result.now (λ e. omega arith))
