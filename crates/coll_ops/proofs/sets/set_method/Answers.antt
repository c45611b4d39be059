use Rattle.std.proofs.Common.{◌≡◌, ◌<◌, [], ◌∷◌, length, arith}
use Rattle.calculus.specs.Operators.{a_set}
use Rattle.calculus.specs.Methods.{methods}
use Rattle.value_ops.specs.Answers.{IsOperand}
use Rattle.coll_ops.proofs.Arguments.{none-given, on-given, one-given, set-takes}
use Rattle.coll_ops.proofs.Comparing.{read}
use Rattle.coll_ops.proofs.Viewing.{set_up}
use Rattle.coll_ops.proofs.sets.set_method.Goals as goal

pub set_plainly-requires : goal.set_plainly-requires
set_plainly-requires c = set_up c.args.target.now c.args.members.now c.requires.target c.requires.value.normal

pub set_given-requires-clause-argument : goal.set_given-requires-clause-argument
set_given-requires-clause-argument c =
    let h : 0 < length c.args.args.now = omega arith in
    read IsOperand c.args.args.now 0 c.argument-item.result h c.argument-item.is c.requires.args

pub returns-in-empty : goal.returns-in-empty
returns-in-empty c =
    let e : length c.args.args.now ≡ 0 = omega arith in
    on-given _ c.args.name.now c.args.args.now [] (methods (a_set c.args.members.now)) c.set_plainly.result (none-given c.args.args.now e) c.set_plainly.ensures

pub returns-in-len1 : goal.returns-in-len1
returns-in-len1 c =
    let e : length c.args.args.now ≡ 1 = omega arith in
    on-given _ c.args.name.now c.args.args.now (c.argument-item.result ∷ []) (methods (a_set c.args.members.now)) c.set_given.result (one-given c.args.args.now c.argument-item.result e c.argument-item.is) c.set_given.ensures

pub returns-in_default : goal.returns-in_default
returns-in_default c =
    let e : 1 < length c.args.args.now = omega arith in
    set-takes c.args.name.now c.args.args.now c.args.members.now e
