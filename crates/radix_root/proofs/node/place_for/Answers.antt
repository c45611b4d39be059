use Rattle.std.proofs.Common.{rules, ◌∷◌, ◌≡◌, ◌+◌, suc, List, ◌++◌, [], ap, sym, subst, ◌∙◌, arith, append-nil, length}
use Rattle.radix_root.specs.Nodes.{Seen, leaves_of, NoneHas, IsPlace, IsFork, IsNode, AllHalf}
use Rattle.radix_root.proofs.Pushed.{leaves-push, fork-pushed, place-pushed}
use Rattle.radix_root.proofs.node.place_for.Goals as goal

pub returns-in_ok-push-in-None-clause-fork : goal.returns-in_ok-push-in-None-clause-fork
returns-in_ok-push-in-None-clause-fork c =
    let items = c.args.children.now.items in
    let none = subst (λ h. NoneHas h items) (sym c.empty.ensures.half) (subst (λ (cs : List Seen). NoneHas c.args.half cs) c.as_slice.ensures.value c.in-None.ensures.none) in
    let next : c.args.depth + 1 ≡ suc c.args.depth = omega arith in
    subst (IsFork c.args.depth) (sym c.in_ok-push-in-None.ensures.items)
    (fork-pushed c.args.depth items c.empty.result c.requires none (subst (λ m. IsNode m c.empty.result) next c.empty.ensures.node) (subst (AllHalf c.args.depth c.empty.result.half) (sym c.empty.ensures.leaves) tt))

pub returns-in_ok-push-in-None-clause-leaves : goal.returns-in_ok-push-in-None-clause-leaves
returns-in_ok-push-in-None-clause-leaves c =
    let items = c.args.children.now.items in
    ap leaves_of c.in_ok-push-in-None.ensures.items ∙ leaves-push items c.empty.result ∙ ap (λ ls. leaves_of items ++ ls) c.empty.ensures.leaves ∙ append-nil (leaves_of items)

pub returns-in_ok-push-in-None-clause-place : goal.returns-in_ok-push-in-None-clause-place
returns-in_ok-push-in-None-clause-place c =
    let items = c.args.children.now.items in
    let none = subst (λ (cs : List Seen). NoneHas c.args.half cs) c.as_slice.ensures.value c.in-None.ensures.none in
    let long : length items ≡ c.len-place.result = search rules in
    let after : IsPlace c.args.half (items ++ c.empty.result ∷ []) (length items) = place-pushed c.args.half items c.empty.result none c.empty.ensures.half in
    subst (λ i. IsPlace c.args.half c.push.new.self.items i) long (subst (λ (cs : List Seen). IsPlace c.args.half cs (length items)) (sym c.in_ok-push-in-None.ensures.items) after)
