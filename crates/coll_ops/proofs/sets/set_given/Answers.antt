use Rattle.std.proofs.Common.{[], ◌∷◌, ◌++◌, refl, sym, ap, ◌∙◌, codes}
use Rattle.calculus.specs.declared.plain.BinaryOp.TheVariants as op
use Rattle.calculus.specs.Methods.{methods}
use Rattle.calculus.specs.Operators.{a_set, of_bool, of_set, on_kinds, seen, without as those_without}
use Rattle.value_ops.specs.Answers.{IsOperand}
use Rattle.coll_ops.proofs.Arguments.{no-line, set-differs, set-united, told, told-by}
use Rattle.coll_ops.proofs.Members.{all-each, among}
use Rattle.coll_ops.proofs.Viewing.{one-member, seen_set, set-value}
use Rattle.coll_ops.proofs.sets.set_given.Goals as goal

pub union-requires : goal.union-requires
union-requires c = (
  set-value c.args.target.now c.args.members.now c.requires.target c.requires.value,
  one-member c.args.argument.now c.from_ref.result.now c.from_ref.ensures.value c.requires.argument,
)

pub difference-requires : goal.difference-requires
difference-requires c = (
  set-value c.args.target.now c.args.members.now c.requires.target c.requires.value,
  one-member c.args.argument.now c.from_ref-in-delete.result.now c.from_ref-in-delete.ensures.value c.requires.argument,
)

pub returns-in-contains : goal.returns-in-contains
returns-in-contains c =
    let t = c.args.argument.now in
    let ts = c.args.members.now in
    let a = set-value c.args.target.now ts c.requires.target c.requires.value in
    told _ c.args.name.now (codes "contains") (t ∷ []) (methods (a_set ts)) c.contains.result _ c.in-contains.is refl
    (λ h. c.contains.ensures h a c.requires.argument ∙ ap of_bool (sym (among t ts c.requires.argument (all-each IsOperand ts a.keys))))

pub returns-in-add : goal.returns-in-add
returns-in-add c =
    let ts = c.args.members.now in
    told _ c.args.name.now (codes "add") (c.args.argument.now ∷ []) (methods (a_set ts)) c.union.result _ c.in-add.is refl
    (λ h. c.union.ensures h ∙ ap (λ us. of_set (ts ++ us)) c.from_ref.ensures.value)

pub returns-in-delete : goal.returns-in-delete
returns-in-delete c =
    let ts = c.args.members.now in
    told _ c.args.name.now (codes "delete") (c.args.argument.now ∷ []) (methods (a_set ts)) c.difference.result _ c.in-delete.is refl
    (λ h. c.difference.ensures h ∙ ap (λ us. of_set (those_without us ts)) c.from_ref-in-delete.ensures.value)

pub returns-in-union : goal.returns-in-union
returns-in-union c =
    let t = c.args.argument.now in
    let ts = c.args.members.now in
    told-by _ c.args.name.now (codes "union") (t ∷ []) (methods (a_set ts)) (on_kinds op.Append (seen c.args.target.now) (seen t)) c.kinds_binary.result c.in-union.is
    (set-united ts (seen t) ∙ ap (λ s. on_kinds op.Append s (seen t)) (sym (seen_set c.args.target.now ts c.requires.target))) c.kinds_binary.ensures

pub returns-in-diff : goal.returns-in-diff
returns-in-diff c =
    let t = c.args.argument.now in
    let ts = c.args.members.now in
    told-by _ c.args.name.now (codes "diff") (t ∷ []) (methods (a_set ts)) (on_kinds op.Minus (seen c.args.target.now) (seen t)) c.kinds_binary-in-diff.result c.in-diff.is
    (set-differs ts (seen t) ∙ ap (λ s. on_kinds op.Minus s (seen t)) (sym (seen_set c.args.target.now ts c.requires.target))) c.kinds_binary-in-diff.ensures

pub returns-in_default : goal.returns-in_default
returns-in_default c =
    let d = c.in_default in
    no-line c.args.name.now (c.args.argument.now ∷ []) (methods (a_set c.args.members.now)) (tt, (d.not-contains, (d.not-add, (d.not-delete, (d.not-union, (d.not-diff, (tt, tt)))))))
