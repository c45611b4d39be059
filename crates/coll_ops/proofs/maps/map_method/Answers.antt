use Rattle.std.proofs.Common.{◌≡◌, ◌<◌, [], ◌∷◌, length, map, arith}
use Rattle.calculus.specs.Operators.{a_map}
use Rattle.calculus.specs.Methods.{methods}
use Rattle.rho_term.specs.Parts.{pair_tree}
use Rattle.value_ops.specs.Answers.{IsOperand}
use Rattle.coll_ops.proofs.Arguments.{map-takes, none-given, on-given, one-given, two-given}
use Rattle.coll_ops.proofs.Comparing.{read}
use Rattle.coll_ops.proofs.Viewing.{map-value}
use Rattle.coll_ops.proofs.maps.map_method.Goals as goal

pub map_plainly-requires : goal.map_plainly-requires
map_plainly-requires c = map-value c.args.target.now c.args.pairs.now c.requires.target c.requires.value

pub map_given-requires-clause-argument : goal.map_given-requires-clause-argument
map_given-requires-clause-argument c =
    let h : 0 < length c.args.args.now = omega arith in
    read IsOperand c.args.args.now 0 c.key-item.result h c.key-item.is c.requires.args

pub map_given_two-requires : goal.map_given_two-requires
map_given_two-requires c =
    let h : 0 < length c.args.args.now = omega arith in
    (map-value c.args.target.now c.args.pairs.now c.requires.target c.requires.value, read IsOperand c.args.args.now 0 c.key-item-then-args-lt3.result h c.key-item-then-args-lt3.is c.requires.args)

pub returns-in-empty : goal.returns-in-empty
returns-in-empty c =
    let e : length c.args.args.now ≡ 0 = omega arith in
    on-given _ c.args.name.now c.args.args.now [] (methods (a_map (map pair_tree c.args.pairs.now))) c.map_plainly.result (none-given c.args.args.now e) c.map_plainly.ensures

pub returns-in-len1 : goal.returns-in-len1
returns-in-len1 c =
    let e : length c.args.args.now ≡ 1 = omega arith in
    on-given _ c.args.name.now c.args.args.now (c.key-item.result ∷ []) (methods (a_map (map pair_tree c.args.pairs.now))) c.map_given.result (one-given c.args.args.now c.key-item.result e c.key-item.is) c.map_given.ensures

pub returns-in-len2 : goal.returns-in-len2
returns-in-len2 c =
    let e : length c.args.args.now ≡ 2 = omega arith in
    on-given _ c.args.name.now c.args.args.now (c.key-item-then-args-lt3.result ∷ c.value-item.result ∷ []) (methods (a_map (map pair_tree c.args.pairs.now))) c.map_given_two.result
    (two-given c.args.args.now c.key-item-then-args-lt3.result c.value-item.result e c.key-item-then-args-lt3.is c.value-item.is) c.map_given_two.ensures

pub returns-in_default : goal.returns-in_default
returns-in_default c =
    let e : 2 < length c.args.args.now = omega arith in
    map-takes c.args.name.now c.args.args.now (map pair_tree c.args.pairs.now) e
