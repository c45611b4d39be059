use Rattle.calculus.specs.Normal.{ascending}
use Rattle.code_order.proofs.order.sorted_terms.Goals as goal

pub sorted-requires : goal.sorted-requires
sorted-requires c = λ k d h. tt

pub returns : goal.returns
unfolding ascending
returns c = c.sorted.ensures
