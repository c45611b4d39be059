use Rattle.std.proofs.Common.{ap, subst}
use Rattle.calculus.specs.Operators.{seen, seen_part}
use Rattle.rho_term.specs.Parts.{part_tree}
use Rattle.coll_ops.specs.Views.{IsCollectionKind}
use Rattle.coll_ops.proofs.Viewing.{as-value, both-seen}
use Rattle.coll_ops.proofs.binary.kinds_binary.Goals as goal

pub parts_binary-requires-clause-collection : goal.parts_binary-requires-clause-collection
parts_binary-requires-clause-collection c = subst (λ t. IsCollectionKind (seen t)) c.in-Some.ensures.part c.requires.collection

pub parts_binary-requires-clause-left : goal.parts_binary-requires-clause-left
parts_binary-requires-clause-left c = as-value _ _ c.in-Some.ensures.part c.requires.left c.in-Some.ensures.normal

pub parts_binary-requires-clause-right : goal.parts_binary-requires-clause-right
parts_binary-requires-clause-right c = as-value _ _ c.in-Some-only_part.ensures.part c.requires.right c.in-Some-only_part.ensures.normal

pub returns : goal.returns
returns c =
    both-seen _ c.args.op (seen c.args.left.now) (seen c.args.right.now) (seen_part (part_tree c.in-Some.left.now)) (seen_part (part_tree c.in-Some-only_part.right.now)) c.parts_binary.result
    (ap seen c.in-Some.ensures.part) (ap seen c.in-Some-only_part.ensures.part) c.parts_binary.ensures
