use Rattle.std.proofs.Common.{[], map, refl, sym, ap, ◌∙◌, codes}
use Rattle.calculus.specs.Methods.{as_tuple, methods}
use Rattle.calculus.specs.Operators.{a_map, of_list}
use Rattle.rho_term.specs.Parts.{pair_tree}
use Rattle.coll_ops.proofs.Arguments.{no-line, told}
use Rattle.coll_ops.proofs.Members.{in-order}
use Rattle.coll_ops.proofs.maps.map_plainly.Goals as goal

pub returns-in-keys : goal.returns-in-keys
returns-in-keys c = told _ c.args.name.now (codes "keys") [] (methods (a_map (map pair_tree c.args.pairs.now))) c.keys.result _ c.in-keys.is refl c.keys.ensures

pub returns-in-toList : goal.returns-in-toList
returns-in-toList c =
    let ps = map pair_tree c.args.pairs.now in
    told _ c.args.name.now (codes "toList") [] (methods (a_map ps)) c.to_list.result _ c.in-toList.is refl (λ h. c.to_list.ensures h ∙ ap (λ l. of_list (map as_tuple l)) (sym (in-order ps c.requires.up)))

pub returns-in_default : goal.returns-in_default
returns-in_default c =
    let d = c.in_default in
    no-line c.args.name.now [] (methods (a_map (map pair_tree c.args.pairs.now))) (d.not-size, (tt, (tt, (tt, (tt, (tt, (tt, (d.not-keys, (d.not-toList, tt)))))))))
