use Rattle.std.proofs.Common.{rules, ℕ, List, ◌≡◌, ◌<◌, ◌+◌, ◌-◌, ◌*◌, cond, sym, ap, subst, ◌∙◌, arith}
use Rattle.std.specs.Str.{bytes_eq}
use Rattle.std.proofs.lemmas.Result.{on_ok_weaker, on_err_weaker}
use Rattle.radix_root.specs.Groups.{given}
use Rattle.radix_root.specs.Leaves.{Leaves, digest_at}
use Rattle.radix_root.specs.Nodes.{Seen, leaves_of, AllShare, IsNode, IsFork}
use Rattle.radix_root.proofs.Wells.{fork-set, fork-put, leaves-set, shared-at, depth-at}
use Rattle.radix_root.proofs.node.+put.Goals as goal

pub Node::put-open-requires : goal.Node::put-open-requires
Node::put-open-requires g t c =
    let o = c.hold.ensures.other c.if-hold.false in
    omega (arith, o.1, ap (λ (s : Seen). s.depth) o.0)

pub Node::put-put_below-done-requires : goal.Node::put-put_below-done-requires
Node::put-put_below-done-requires g t c =
    let now = c.args.self.now in
    let items = c.in_ok-children.children.items in
    let same = (c.hold.ensures.other c.if-hold.false).0 in
    let deep : c.depth-depth.result ≡ now.depth = c.depth-depth.ensures ∙ c.open.ensures.depth ∙ ap (λ (s : Seen). s.depth) same in
    let fork : IsFork now.depth items = subst (λ (s : Seen). IsFork s.depth items) same c.in_ok-children.ensures.fork in
    let leaves : now.leaves ≡ leaves_of items = sym (c.in_ok-children.ensures.leaves ∙ ap (λ (s : Seen). s.leaves) same) in
    let shared = subst (AllShare now.depth c.args.group.now.key.0) leaves c.requires in
    let falls : 2 * (64 - c.depth-depth.result) < 2 * (64 - now.depth) + 1 = omega (arith, deep) in
    λ κs b. (search rules, (b, (subst (λ m. IsFork m items) (sym deep) fork, subst (λ m. AllShare m c.args.group.now.key.0 (leaves_of items)) (sym deep) shared)))

pub Node::put-settle-requires : goal.Node::put-settle-requires
Node::put-settle-requires g t c = subst (λ m. IsFork m c.put_below-done.new.children.items) c.depth-depth.ensures c.put_below-done.ensures.fork

pub Node::put-returns-then-hold-clause-groups : goal.Node::put-returns-then-hold-clause-groups
Node::put-returns-then-hold-clause-groups g t c = c.hold.ensures.groups c.if-hold.true

pub Node::put-returns-clause-node : goal.Node::put-returns-clause-node
Node::put-returns-clause-node g t c =
    let deep = c.open.ensures.depth ∙ ap (λ (s : Seen). s.depth) (c.hold.ensures.other c.if-hold.false).0 in
    subst (λ m. IsNode m c.settle.new.self) deep c.settle.ensures.node

pub Node::put-returns-clause-groups : goal.Node::put-returns-clause-groups
Node::put-returns-clause-groups g t c =
    let group = c.args.group.now in
    let leaves = c.in_ok-children.ensures.leaves ∙ ap (λ (s : Seen). s.leaves) (c.hold.ensures.other c.if-hold.false).0 in
    on_ok_weaker c.put_below-done.result
    (λ p k. ap (λ (ls : Leaves). digest_at ls k) c.settle.ensures.leaves ∙ p k ∙ ap (λ (ls : Leaves). cond (bytes_eq k group.key.0) (given group.digest) (digest_at ls k)) leaves)
    c.put_below-done.ensures.groups

pub Node::put-returns-clause-err : goal.Node::put-returns-clause-err
Node::put-returns-clause-err g t c =
    let leaves = c.in_ok-children.ensures.leaves ∙ ap (λ (s : Seen). s.leaves) (c.hold.ensures.other c.if-hold.false).0 in
    on_err_weaker c.put_below-done.result (λ p. c.settle.ensures.leaves ∙ p ∙ leaves) c.put_below-done.ensures.err

pub Node::put-returns-clause-counted : goal.Node::put-returns-clause-counted
Node::put-returns-clause-counted g t c =
    let deep = c.depth-depth.ensures ∙ c.open.ensures.depth ∙ ap (λ (s : Seen). s.depth) (c.hold.ensures.other c.if-hold.false).0 in
    omega (arith, c.put_below-done.ensures.counted, c.settle.ensures.counted, deep)

pub put_below-put-requires : goal.put_below-put-requires
put_below-put-requires g t c =
    let depth = c.args.depth in
    let key = c.args.group.now.key.0 in
    let half = c.half_at-half in
    let place = c.in_ok-place.place in
    let items = c.place_for.new.children.items in
    let o = c.index_mut.result.now in
    let at_place = sym c.index_mut.ensures.value in
    let fork = c.place_for.ensures.fork in
    let found = c.in_ok-place.ensures.place in
    let shared = subst (AllShare depth key) (sym c.place_for.ensures.leaves) c.requires.shared in
    let deep : o.depth ≡ depth + 1 = depth-at depth half.result place items o fork found at_place ∙ omega arith in
    let falls : 2 * (64 - o.depth) + 1 < 2 * (64 - depth) = omega (arith, deep, fork.within) in
    λ κs b. (search rules, (b, shared-at depth half.result key place items o fork shared half.ensures.half found at_place))

pub put_below-returns-clause-fork : goal.put_below-returns-clause-fork
put_below-returns-clause-fork g t c =
    let group = c.args.group.now in
    fork-put c.put.result c.args.depth c.half_at-half.result c.in_ok-place.place c.place_for.new.children.items c.index_mut.result.now c.put.new.self group.key.0 (given group.digest)
    c.place_for.ensures.fork c.half_at-half.ensures.half c.in_ok-place.ensures.place (sym c.index_mut.ensures.value) c.put.ensures.node c.put.ensures.half c.put.ensures.groups c.put.ensures.err

pub put_below-returns-clause-groups : goal.put_below-returns-clause-groups
put_below-returns-clause-groups g t c =
    let group = c.args.group.now in
    on_ok_weaker c.put.result
    (λ p k. (fork-set c.args.depth c.half_at-half.result c.in_ok-place.place c.place_for.new.children.items c.index_mut.result.now c.put.new.self group.key.0 (given group.digest)
    c.place_for.ensures.fork c.half_at-half.ensures.half c.in_ok-place.ensures.place (sym c.index_mut.ensures.value) c.put.ensures.node c.put.ensures.half p).1 k
    ∙ ap (λ (ls : Leaves). cond (bytes_eq k group.key.0) (given group.digest) (digest_at ls k)) c.place_for.ensures.leaves)
    c.put.ensures.groups

pub put_below-returns-clause-err : goal.put_below-returns-clause-err
put_below-returns-clause-err g t c =
    on_err_weaker c.put.result
    (λ p. leaves-set c.in_ok-place.place c.place_for.new.children.items c.index_mut.result.now c.put.new.self c.in_ok-place.ensures.within (sym c.index_mut.ensures.value) p ∙ c.place_for.ensures.leaves)
    c.put.ensures.err

pub put_below-returns-clause-counted : goal.put_below-returns-clause-counted
put_below-returns-clause-counted g t c =
    let deep = depth-at c.args.depth c.half_at-half.result c.in_ok-place.place c.place_for.new.children.items c.index_mut.result.now c.place_for.ensures.fork c.in_ok-place.ensures.place (sym c.index_mut.ensures.value) in
    omega (arith, c.put.ensures.counted, deep)

pub put_below-is_gone-requires : goal.put_below-is_gone-requires
put_below-is_gone-requires g t c = subst (IsFork c.args.depth) (sym c.as_slice.ensures.value) c.requires.fork

pub put_below-returns-then-is_gone-clause-groups : goal.put_below-returns-then-is_gone-clause-groups
put_below-returns-then-is_gone-clause-groups g t c =
    let group = c.args.group.now in
    subst (λ (cs : List Seen). (k : List ℕ) → digest_at (leaves_of cs) k ≡ cond (bytes_eq k group.key.0) (given group.digest) (digest_at (leaves_of cs) k))
    c.as_slice.ensures.value (c.is_gone.ensures c.if-is_gone.true)

pub put_below-returns-then-is_gone-clause-counted : goal.put_below-returns-then-is_gone-clause-counted
put_below-returns-then-is_gone-clause-counted g t c = omega (arith, c.requires.fork.within)
