use Rattle.std.proofs.Common.{◌≤◌, ◌*◌, ◌-◌, List, length, arith, ap, ◌∙◌}
use Rattle.std.proofs.lemmas.Result.{IfOk-weaker}
use Rattle.radix_root.specs.Groups.{digest_after}
use Rattle.radix_root.specs.Leaves.{Leaves, digest_at}
use Rattle.radix_root.specs.declared.group.Group.{Group}
use Rattle.checkpoint.proofs.Apart.{made-for, so-or-not}
use Rattle.checkpoint.proofs.groups.counted_tree.Goals as goal

pub returns-clause-tree : goal.returns-clause-tree
returns-clause-tree g c =
    IfOk-weaker c.with_groups.result _ _
    (λ t h k. h k ∙ ap (λ (gs : List Group). digest_after gs (digest_at c.new.result k) k) c.as_slice.ensures.value
    ∙ ap (λ (ls : Leaves). digest_after c.in_ok-groups.groups.items (digest_at ls k) k) c.new.ensures ∙ c.in_ok-groups.ensures.give k)
    c.with_groups.ensures.groups

pub returns-clause-made : goal.returns-clause-made
returns-clause-made g c =
    let groups = c.in_ok-groups.groups.items in
    let within : c.with_groups.new.steps - c.args.steps.now ≤ 65 * length groups = omega (arith, c.in_ok-groups.ensures.counted, c.with_groups.ensures.counted, ap length c.as_slice.ensures.value) in
    so-or-not c.with_groups.result (made-for groups c.args.rows.now (c.with_groups.new.steps - c.args.steps.now) c.in_ok-groups.ensures.apart within)
