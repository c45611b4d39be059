use Rattle.std.proofs.Common.{sym, subst}
use Rattle.coll_ops.specs.Views.{Tells}
use Rattle.coll_ops.proofs.Viewing.{by_kinds}
use Rattle.coll_ops.proofs.ops.coll_binary.Goals as goal

pub returns : goal.returns
returns c = c.answer.ensures _ (subst (λ a. Tells c.kinds_binary-told.new.maker.failed a c.kinds_binary-told.result) (sym (by_kinds c.args.op c.args.left.now c.args.right.now c.requires.operator)) c.kinds_binary-told.ensures)
