use Rattle.std.proofs.Common.{[], refl, sym, ap, ◌∙◌, codes}
use Rattle.calculus.specs.Methods.{methods}
use Rattle.calculus.specs.Operators.{a_set, of_list}
use Rattle.coll_ops.proofs.Arguments.{no-line, told}
use Rattle.coll_ops.proofs.Members.{in-order}
use Rattle.coll_ops.proofs.sets.set_plainly.Goals as goal

pub returns-in-toList : goal.returns-in-toList
returns-in-toList c =
    told _ c.args.name.now (codes "toList") [] (methods (a_set c.args.members.now)) c.list_of.result _ c.in-toList.is refl (λ h. c.list_of.ensures h ∙ ap of_list (sym (in-order c.args.members.now c.requires)))

pub returns-in_default : goal.returns-in_default
returns-in_default c = no-line c.args.name.now [] (methods (a_set c.args.members.now)) (c.in_default.not-size, (tt, (tt, (tt, (tt, (tt, (c.in_default.not-toList, tt)))))))
