use Rattle.std.proofs.Common.{◌∙◌, []}
use Rattle.value_ops.proofs.SameCodes.{equal_where_congruent}
use Rattle.value_ops.proofs.equality.are_equal.Goals as goal

pub returns : goal.returns
returns c = λ a b. c.is_eq.ensures ∙ equal_where_congruent c.args.left.now c.args.right.now c.cmp_terms.result a b (c.cmp_terms.ensures [] [] a.closed b.closed a.short b.short)
