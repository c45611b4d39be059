use Rattle.std.proofs.Common.{[], ◌∷◌, map, refl, codes}
use Rattle.calculus.specs.Methods.{methods}
use Rattle.calculus.specs.Operators.{a_map}
use Rattle.rho_term.specs.Parts.{pair_tree}
use Rattle.coll_ops.proofs.Arguments.{no-line, told}
use Rattle.coll_ops.proofs.maps.map_given_two.Goals as goal

pub returns-in-getOrElse : goal.returns-in-getOrElse
returns-in-getOrElse c = told _ c.args.name.now (codes "getOrElse") (c.args.key.now ∷ c.args.value.now ∷ []) (methods (a_map (map pair_tree c.args.pairs.now))) c.value_or.result _ c.in-getOrElse.is refl c.value_or.ensures

pub returns-in-set : goal.returns-in-set
returns-in-set c = told _ c.args.name.now (codes "set") (c.args.key.now ∷ c.args.value.now ∷ []) (methods (a_map (map pair_tree c.args.pairs.now))) c.set_pair.result _ c.in-set.is refl c.set_pair.ensures

pub returns-in_default : goal.returns-in_default
returns-in_default c =
    let d = c.in_default in
    no-line c.args.name.now (c.args.key.now ∷ c.args.value.now ∷ []) (methods (a_map (map pair_tree c.args.pairs.now))) (tt, (tt, (tt, (d.not-getOrElse, (d.not-set, (tt, (tt, (tt, (tt, tt)))))))))
