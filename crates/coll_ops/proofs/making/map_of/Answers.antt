use Rattle.std.proofs.Common.{◌≡◌, map}
use Rattle.calculus.specs.Normal.{ascending}
use Rattle.rho_term.specs.Parts.{pair_tree}
use Rattle.coll_ops.proofs.Members.{map-ordered}
use Rattle.coll_ops.proofs.Ordered.{map-ascends, map-keys, map-made}
use Rattle.coll_ops.proofs.Steps.{at_ok, made-is}
use Rattle.coll_ops.proofs.making.map_of.Goals as goal

pub value-map-requires : goal.value-map-requires
value-map-requires c = λ h.
    let e = c.last_of_each-kept.ensures h in
    let d = c.list-sorted.ensures e.0 in
    let s = at_ok (λ v. map pair_tree v.items ≡ ascending (map pair_tree c.args.pairs.items)) _ _ d.1 c.sorted_pairs-ordered.ensures in
    map-ordered c.list-sorted.result.items c.last_of_each-kept.result.items (map-keys c.args.pairs.items c.list-sorted.result.items s c.requires) (e.1 (map-ascends c.args.pairs.items c.list-sorted.result.items s c.requires))

pub returns : goal.returns
returns c = made-is _ _ _ _ _ c.made.ensures (λ h.
    let v = c.value-map.ensures h in
    let e = c.last_of_each-kept.ensures v.0 in
    let d = c.list-sorted.ensures e.0 in
    let s = at_ok (λ v. map pair_tree v.items ≡ ascending (map pair_tree c.args.pairs.items)) _ _ d.1 c.sorted_pairs-ordered.ensures in
    let a = map-ascends c.args.pairs.items c.list-sorted.result.items s c.requires in
    (d.0, map-made c.args.pairs.items c.list-sorted.result.items s c.requires c.last_of_each-kept.result.items c.value-map.result (e.1 a) v.1))
