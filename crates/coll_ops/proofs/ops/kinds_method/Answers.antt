use Rattle.std.proofs.Common.{◌≡◌, ap, ◌∙◌, sym, map}
use Rattle.calculus.specs.Shape.{many, only}
use Rattle.calculus.specs.Tree.{list, tuple, set, dict}
use Rattle.calculus.specs.Operators.{seen, a_list, a_tuple, a_set, a_map}
use Rattle.rho_term.specs.Parts.{part_tree, pair_tree}
use Rattle.coll_ops.proofs.Viewing.{list_operands, seen_list, seen_map, seen_set, seen_tuple, target-seen}
use Rattle.coll_ops.proofs.ops.kinds_method.Goals as goal

pub list_method-requires : goal.list_method-requires
list_method-requires c =
    let e : c.args.target.now ≡ only (many list c.as_slice.result.now) = c.in-Some.ensures.part ∙ ap (λ p. only (part_tree p)) c.in-List.is ∙ ap (λ l. only (many list l)) (sym c.as_slice.ensures.value) in
    list_operands _ _ e c.requires.target

pub set_method-requires-clause-target : goal.set_method-requires-clause-target
set_method-requires-clause-target c = c.in-Some.ensures.part ∙ ap (λ p. only (part_tree p)) c.in-Set.is ∙ ap (λ l. only (many set l)) (sym c.as_slice-in-Set.ensures.value)

pub set_method-requires-clause-value : goal.set_method-requires-clause-value
set_method-requires-clause-value c = record { operand = c.requires.target; normal = c.in-Some.ensures.normal }

pub map_method-requires-clause-target : goal.map_method-requires-clause-target
map_method-requires-clause-target c = c.in-Some.ensures.part ∙ ap (λ p. only (part_tree p)) c.in-Map.is ∙ ap (λ l. only (many dict (map pair_tree l))) (sym c.as_slice-in-Map.ensures.value)

pub map_method-requires-clause-value : goal.map_method-requires-clause-value
map_method-requires-clause-value c = record { operand = c.requires.target; normal = c.in-Some.ensures.normal }

pub returns-in-List : goal.returns-in-List
returns-in-List c =
    let e : c.args.target.now ≡ only (many list c.as_slice.result.now) = c.in-Some.ensures.part ∙ ap (λ p. only (part_tree p)) c.in-List.is ∙ ap (λ l. only (many list l)) (sym c.as_slice.ensures.value) in
    target-seen _ c.args.name.now c.args.args.now (seen c.args.target.now) (a_list c.as_slice.result.now) c.list_method.result (seen_list _ _ e) c.list_method.ensures

pub returns-in-Tuple : goal.returns-in-Tuple
returns-in-Tuple c =
    let e : c.args.target.now ≡ only (many tuple c.as_slice-in-Tuple.result.now) = c.in-Some.ensures.part ∙ ap (λ p. only (part_tree p)) c.in-Tuple.is ∙ ap (λ l. only (many tuple l)) (sym c.as_slice-in-Tuple.ensures.value) in
    target-seen _ c.args.name.now c.args.args.now (seen c.args.target.now) (a_tuple c.as_slice-in-Tuple.result.now) c.tuple_method.result (seen_tuple _ _ e) c.tuple_method.ensures

pub returns-in-Set : goal.returns-in-Set
returns-in-Set c =
    let e : c.args.target.now ≡ only (many set c.as_slice-in-Set.result.now) = c.in-Some.ensures.part ∙ ap (λ p. only (part_tree p)) c.in-Set.is ∙ ap (λ l. only (many set l)) (sym c.as_slice-in-Set.ensures.value) in
    target-seen _ c.args.name.now c.args.args.now (seen c.args.target.now) (a_set c.as_slice-in-Set.result.now) c.set_method.result (seen_set _ _ e) c.set_method.ensures

pub returns-in-Map : goal.returns-in-Map
returns-in-Map c =
    let e : c.args.target.now ≡ only (many dict (map pair_tree c.as_slice-in-Map.result.now)) = c.in-Some.ensures.part ∙ ap (λ p. only (part_tree p)) c.in-Map.is ∙ ap (λ l. only (many dict (map pair_tree l))) (sym c.as_slice-in-Map.ensures.value) in
    target-seen _ c.args.name.now c.args.args.now (seen c.args.target.now) (a_map (map pair_tree c.as_slice-in-Map.result.now)) c.map_method.result (seen_map _ _ e) c.map_method.ensures
