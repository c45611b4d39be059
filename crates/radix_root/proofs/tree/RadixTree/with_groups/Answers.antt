use Rattle.std.proofs.Common.{◌≤◌, ◌+◌, ◌-◌, ◌*◌, [], length, ap, sym, subst, ◌∙◌}
use Rattle.radix_root.specs.Groups.{digest_after}
use Rattle.radix_root.specs.Leaves.{Leaves, digest_at}
use Rattle.radix_root.specs.Nodes.{IsNode}
use Rattle.radix_root.proofs.Wells.{share-none}
use Rattle.radix_root.proofs.Given.{none-shared}
use Rattle.radix_root.proofs.tree.RadixTree.with_groups.Goals as goal

pub give_all-requires-clause-node : goal.give_all-requires-clause-node
give_all-requires-clause-node g c = subst (λ m. IsNode m c.self.inside.root) (sym c.self.invariant.depth) c.self.invariant

pub give_all-requires-clause-shared : goal.give_all-requires-clause-shared
give_all-requires-clause-shared g c = record {
  one = [];
  leaves = share-none c.self.inside.root.depth [] c.self.inside.root.leaves c.self.invariant.depth;
  groups = none-shared c.self.inside.root.depth [] c.args.groups.now c.self.invariant.depth;
}

pub returns-clause-groups : goal.returns-clause-groups
returns-clause-groups g c = λ k. c.in_ok-give_all.ensures.groups k ∙ ap (λ (ls : Leaves). digest_after c.args.groups.now (digest_at ls k) k) c.self.view_is

pub returns-clause-counted : goal.returns-clause-counted
returns-clause-counted g c = subst (λ m. c.give_all.new.steps ≤ c.args.steps.now + (64 - m) * length c.args.groups.now) c.self.invariant.depth c.give_all.ensures.counted

pub returns-in_err-give_all-clause-counted : goal.returns-in_err-give_all-clause-counted
returns-in_err-give_all-clause-counted g c = subst (λ m. c.give_all.new.steps ≤ c.args.steps.now + (64 - m) * length c.args.groups.now) c.self.invariant.depth c.give_all.ensures.counted
