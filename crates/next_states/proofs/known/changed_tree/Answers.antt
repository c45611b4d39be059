use Rattle.std.proofs.Common.{◌-◌, List, [], map, sym, ◌∙◌, ap}
use Rattle.std.proofs.lemmas.Result.{IfOk-weaker}
use Rattle.radix_root.specs.Groups.{digest_after}
use Rattle.radix_root.specs.Leaves.{digest_at}
use Rattle.radix_root.specs.declared.group.Group.{Group}
use Rattle.next_states.specs.Pairs.{Pair}
use Rattle.checkpoint.specs.Made.{AreFor}
use Rattle.next_states.specs.Walks.{Has, pair_in}
use Rattle.checkpoint.proofs.Apart.{so-or-not}
use Rattle.next_states.proofs.Pairs.{both-within}
use Rattle.next_states.proofs.Walking.{keeps-after}
use Rattle.next_states.proofs.known.changed_tree.Goals as goal

pub returns-clause-made : goal.returns-clause-made
returns-clause-made g c =
    let put = c.gather.ensures (sym c.has_failed.ensures ∙ c.if-has_failed.false) in
    let made : AreFor (Has c.args.changed) (c.with_groups.new.steps - c.args.steps.now) = record {
      keys = map (λ (g : Group). g.key.0) c.in_ok-groups.groups.items;
      once = c.in_ok-groups.ensures.once;
      so = λ k m. put.1.only k (c.in_ok-groups.ensures.only k m);
      within = both-within c.in_ok-groups.groups.items _ c.args.steps.now c.into_groups.new.steps c.with_groups.new.steps c.as_slice.ensures.value c.in_ok-groups.ensures.counted c.with_groups.ensures.counted;
    } in
    so-or-not c.with_groups.result made

pub returns-clause-tree : goal.returns-clause-tree
returns-clause-tree g c =
    let put = c.gather.ensures (sym c.has_failed.ensures ∙ c.if-has_failed.false) in
    let ps : List Pair = map pair_in c.args.keyed.now in
    IfOk-weaker c.with_groups.result _ _
    (λ t h all keeps covers.
    keeps-after ps all c.in_ok-groups.groups.items c.args.tree t c.args.changed
    (c.in_ok-groups.ensures.right ps (put.1.holds [] c.requires))
    (λ k m. c.in_ok-groups.ensures.each k (put.1.others k m))
    (λ k. h k ∙ ap (λ (gs : List Group). digest_after gs (digest_at c.args.tree k) k) c.as_slice.ensures.value)
    keeps covers)
    c.with_groups.ensures.groups
