use Rattle.rho_term.specs.Parts.{part_tree}
use Rattle.unfold.proofs.Cases.{value-given}
use Rattle.unfold.proofs.inner.value_inside.Goals as goal

pub returns-in-Unary-clause-closed : goal.returns-in-Unary-clause-closed
returns-in-Unary-clause-closed c =
    let b = c.args.budget in
    value-given (λ q. q.price) (λ q. q.value) b.prices.now b.cap b.price (part_tree c.args.part.now) c.eval_part-in-Unary.result c.requires.closed.1.0 c.eval_part-in-Unary.ensures
