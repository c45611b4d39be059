use Rattle.std.proofs.Common.{◌≡◌, length, ap, codes, arith}
use Rattle.calculus.specs.Methods.{among_methods, methods, nth_at, slice}
use Rattle.calculus.specs.Operators.{a_list, of_list, of_set, seen}
use Rattle.coll_ops.proofs.Arguments.{none-given, one-given, told, told-by, two-given}
use Rattle.coll_ops.proofs.lists.list_method.Goals as goal

pub returns-in-toSet-empty : goal.returns-in-toSet-empty
returns-in-toSet-empty c =
    let xs = c.args.args.now in
    let ms = methods (a_list c.args.members.now) in
    let e : length xs ≡ 0 = omega arith in
    told _ c.args.name.now (codes "toSet") xs ms c.to_set.result (of_set c.args.members.now) c.in-toSet-empty.is-toSet-0 (ap (λ z. among_methods (codes "toSet") z ms) (none-given xs e)) c.to_set.ensures

pub returns-in-nth-len1 : goal.returns-in-nth-len1
returns-in-nth-len1 c =
    let xs = c.args.args.now in
    let ms = methods (a_list c.args.members.now) in
    let x = c.index-item.result in
    let e : length xs ≡ 1 = omega arith in
    told-by _ c.args.name.now (codes "nth") xs ms (nth_at (λ t. t) c.args.members.now (seen x)) c.nth.result c.in-nth-len1.is-nth-0
    (ap (λ z. among_methods (codes "nth") z ms) (one-given xs x e c.index-item.is)) c.nth.ensures

pub returns-in-slice-len2 : goal.returns-in-slice-len2
returns-in-slice-len2 c =
    let xs = c.args.args.now in
    let ms = methods (a_list c.args.members.now) in
    let x = c.from-item.result in
    let y = c.to-item.result in
    let e : length xs ≡ 2 = omega arith in
    told-by _ c.args.name.now (codes "slice") xs ms (slice of_list c.args.members.now (seen x) (seen y)) c.slice.result c.in-slice-len2.is-slice-0
    (ap (λ z. among_methods (codes "slice") z ms) (two-given xs x y e c.from-item.is c.to-item.is)) c.slice.ensures
