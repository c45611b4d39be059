use Rattle.std.proofs.Common.{[], ◌∷◌, map, refl, sym, ap, ◌∙◌, codes}
use Rattle.calculus.specs.declared.plain.BinaryOp.TheVariants as op
use Rattle.calculus.specs.Methods.{methods}
use Rattle.calculus.specs.Operators.{a_map, of_bool, on_kinds, seen}
use Rattle.rho_term.specs.Parts.{pair_tree}
use Rattle.value_ops.specs.Answers.{IsOperand}
use Rattle.coll_ops.proofs.Arguments.{map-united, no-line, told, told-by}
use Rattle.coll_ops.proofs.Members.{all-each, among-keys}
use Rattle.coll_ops.proofs.Viewing.{map-value, pairs-ascend, seen_map}
use Rattle.coll_ops.proofs.maps.map_given.Goals as goal

pub get-requires : goal.get-requires
get-requires c = (map-value c.args.target.now c.args.pairs.now c.requires.target c.requires.value, c.requires.argument)

pub without_key-requires : goal.without_key-requires
without_key-requires c = (map-value c.args.target.now c.args.pairs.now c.requires.target c.requires.value, c.requires.argument)

pub returns-in-contains : goal.returns-in-contains
returns-in-contains c =
    let t = c.args.argument.now in
    let ps = c.args.pairs.now in
    let a = pairs-ascend ps (map-value c.args.target.now ps c.requires.target c.requires.value) in
    told _ c.args.name.now (codes "contains") (t ∷ []) (methods (a_map (map pair_tree ps))) c.contains.result _ c.in-contains.is refl
    (λ h. c.contains.ensures h a c.requires.argument ∙ ap of_bool (sym (among-keys t ps c.requires.argument (all-each (λ p. IsOperand p.0) ps a.keys))))

pub returns-in-get : goal.returns-in-get
returns-in-get c = told _ c.args.name.now (codes "get") (c.args.argument.now ∷ []) (methods (a_map (map pair_tree c.args.pairs.now))) c.get.result _ c.in-get.is refl c.get.ensures

pub returns-in-delete : goal.returns-in-delete
returns-in-delete c = told _ c.args.name.now (codes "delete") (c.args.argument.now ∷ []) (methods (a_map (map pair_tree c.args.pairs.now))) c.without_key.result _ c.in-delete.is refl c.without_key.ensures

pub returns-in-union : goal.returns-in-union
returns-in-union c =
    let t = c.args.argument.now in
    let ps = map pair_tree c.args.pairs.now in
    told-by _ c.args.name.now (codes "union") (t ∷ []) (methods (a_map ps)) (on_kinds op.Append (seen c.args.target.now) (seen t)) c.kinds_binary.result c.in-union.is
    (map-united ps (seen t) ∙ ap (λ s. on_kinds op.Append s (seen t)) (sym (seen_map c.args.target.now ps c.requires.target))) c.kinds_binary.ensures

pub returns-in_default : goal.returns-in_default
returns-in_default c =
    let d = c.in_default in
    no-line c.args.name.now (c.args.argument.now ∷ []) (methods (a_map (map pair_tree c.args.pairs.now))) (tt, (d.not-contains, (d.not-get, (tt, (tt, (d.not-delete, (d.not-union, (tt, (tt, tt)))))))))
