use Rattle.std.proofs.Common.{subst, sym}
use Rattle.value_ops.specs.Answers.{IsNoCollection}
use Rattle.calculus.specs.Operators.{seen}
use Rattle.rho_eval.proofs.Operated.{no-collection}
use Rattle.rho_eval.proofs.operation.is_collection.Goals as goal

pub returns-then-parts-ne1 : goal.returns-then-parts-ne1
returns-then-parts-ne1 c = subst (λ t. IsNoCollection (seen t)) (sym c.parts-parts.ensures.parts) (no-collection c.parts-parts.result.now c.if-parts-ne1.true)
