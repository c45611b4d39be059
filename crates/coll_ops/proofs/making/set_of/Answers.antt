use Rattle.coll_ops.proofs.Steps.{made-is}
use Rattle.coll_ops.proofs.making.set_of.Goals as goal

pub returns : goal.returns
returns c = made-is _ _ _ _ _ c.made.ensures c.distinct-set.ensures
