use Rattle.std.proofs.Common.{map}
use Rattle.calculus.specs.Operators.{a_list, a_map, a_set, seen_part}
use Rattle.rho_term.specs.Parts.{part_tree, pair_tree}
use Rattle.coll_ops.proofs.Viewing.{both-seen, list-seen, map-part, map-seen, set-part, set-seen}
use Rattle.coll_ops.proofs.binary.parts_binary.Goals as goal

pub set_binary-requires : goal.set_binary-requires
set_binary-requires c = (
  set-part c.args.left.now _ c.as_slice-in-Set-Set.result.now c.in-Set-Set.is-0 c.as_slice-in-Set-Set.ensures.value c.requires.left,
  set-part c.args.right.now _ c.as_slice-in-Set-Set-2.result.now c.in-Set-Set.is-1 c.as_slice-in-Set-Set-2.ensures.value c.requires.right,
)

pub map_binary-requires : goal.map_binary-requires
map_binary-requires c = (
  map-part c.args.left.now _ c.as_slice-in-Map-Map.result.now c.in-Map-Map.is-0 c.as_slice-in-Map-Map.ensures.value c.requires.left,
  map-part c.args.right.now _ c.as_slice-in-Map-Map-2.result.now c.in-Map-Map.is-1 c.as_slice-in-Map-Map-2.ensures.value c.requires.right,
)

pub returns-in-List-List : goal.returns-in-List-List
returns-in-List-List c =
    both-seen _ c.args.op (seen_part (part_tree c.args.left.now)) (seen_part (part_tree c.args.right.now)) (a_list c.as_slice.result.now) (a_list c.as_slice-in-List-List.result.now) c.list_binary.result
    (list-seen c.args.left.now _ c.as_slice.result.now c.in-List-List.is-0 c.as_slice.ensures.value) (list-seen c.args.right.now _ c.as_slice-in-List-List.result.now c.in-List-List.is-1 c.as_slice-in-List-List.ensures.value) c.list_binary.ensures

pub returns-in-Set-Set : goal.returns-in-Set-Set
returns-in-Set-Set c =
    both-seen _ c.args.op (seen_part (part_tree c.args.left.now)) (seen_part (part_tree c.args.right.now)) (a_set c.as_slice-in-Set-Set.result.now) (a_set c.as_slice-in-Set-Set-2.result.now) c.set_binary.result
    (set-seen c.args.left.now _ c.as_slice-in-Set-Set.result.now c.in-Set-Set.is-0 c.as_slice-in-Set-Set.ensures.value) (set-seen c.args.right.now _ c.as_slice-in-Set-Set-2.result.now c.in-Set-Set.is-1 c.as_slice-in-Set-Set-2.ensures.value) c.set_binary.ensures

pub returns-in-Map-Map : goal.returns-in-Map-Map
returns-in-Map-Map c =
    both-seen _ c.args.op (seen_part (part_tree c.args.left.now)) (seen_part (part_tree c.args.right.now)) (a_map (map pair_tree c.as_slice-in-Map-Map.result.now)) (a_map (map pair_tree c.as_slice-in-Map-Map-2.result.now)) c.map_binary.result
    (map-seen c.args.left.now _ c.as_slice-in-Map-Map.result.now c.in-Map-Map.is-0 c.as_slice-in-Map-Map.ensures.value) (map-seen c.args.right.now _ c.as_slice-in-Map-Map-2.result.now c.in-Map-Map.is-1 c.as_slice-in-Map-Map-2.ensures.value) c.map_binary.ensures
