use Rattle.std.proofs.Common.{◌≡◌}
use Rattle.calculus.specs.Normal.{ascending}
use Rattle.coll_ops.proofs.Members.{set-ordered}
use Rattle.coll_ops.proofs.Ordered.{set-ascends, set-made}
use Rattle.coll_ops.proofs.Steps.{at_ok}
use Rattle.coll_ops.proofs.making.distinct.Goals as goal

pub value-requires : goal.value-requires
value-requires c = λ h.
    let e = c.last_of_each-kept.ensures h in
    let d = c.list-sorted.ensures e.0 in
    let s = at_ok (λ v. v.items ≡ ascending c.args.members.items) _ _ d.1 c.sorted_terms-ordered.ensures in
    set-ordered c.list-sorted.result.items c.last_of_each-kept.result.items (e.1 (set-ascends c.args.members.items c.list-sorted.result.items s (c.requires d.0)))

pub returns : goal.returns
returns c = λ h.
    let v = c.value.ensures h in
    let e = c.last_of_each-kept.ensures v.0 in
    let d = c.list-sorted.ensures e.0 in
    let s = at_ok (λ v. v.items ≡ ascending c.args.members.items) _ _ d.1 c.sorted_terms-ordered.ensures in
    let a = set-ascends c.args.members.items c.list-sorted.result.items s (c.requires d.0) in
    (d.0, set-made c.args.members.items c.list-sorted.result.items s (c.requires d.0) c.last_of_each-kept.result.items c.value.result (e.1 a) v.1)
