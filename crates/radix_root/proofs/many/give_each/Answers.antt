use Rattle.std.proofs.Common.{◌≡◌, ◌≤◌, ◌+◌, ◌-◌, suc, List, length, [], ◌∷◌, None, cond, take, get_or, ap, sym, subst, ◌∙◌, arith}
use Rattle.std.proofs.Math.Seq.{take-length}
use Rattle.std.specs.Str.{bytes_eq}
use Rattle.radix_root.specs.declared.group.Group.{Group}
use Rattle.radix_root.specs.Leaves.{digest_at}
use Rattle.radix_root.specs.Nodes.{IsNode, AllShare, Shares}
use Rattle.radix_root.specs.Groups.{given, digest_after}
use Rattle.radix_root.proofs.Given.{groups-at, all-shared, keys-after, after-more}
use Rattle.radix_root.proofs.Counting.{one-more, within-all}
use Rattle.radix_root.proofs.many.give_each.Goals as goal

pub put-requires : goal.put-requires
put-requires g c =
    let none : Group = record { key = record { 0 = [] }; digest = None } in
    let inv = c.loop-group.invariant in
    let depth = c.args.node.now.depth in
    let group = get_or c.args.groups.now c.loop-group.group-index none in
    let one = groups-at (Shares depth inv.shared.one) c.args.groups.now c.loop-group.group-index none inv.shared.groups c.loop-group-test.true in
    subst (λ m. AllShare m group.key.0 c.loop-group.node.leaves) (sym inv.node.depth) (all-shared depth inv.shared.one group.key.0 c.loop-group.node.leaves one inv.shared.leaves)

pub loop-group-preserved : goal.loop-group-preserved
loop-group-preserved g c =
    let none : Group = record { key = record { 0 = [] }; digest = None } in
    let inv = c.loop-group.invariant in
    let depth = c.args.node.now.depth in
    let groups = c.args.groups.now in
    let i = c.loop-group.group-index in
    let group = get_or groups i none in
    let one = groups-at (Shares depth inv.shared.one) groups i none inv.shared.groups c.loop-group-test.true in
    let node = subst (λ m. IsNode m c.put.new.self) inv.node.depth c.put.ensures.node in
    let next : suc i ≡ i + 1 = omega arith in
    record {
      node = node;
      half = c.put.ensures.half ∙ inv.half;
      shared = record {
        one = inv.shared.one;
        leaves = keys-after (Shares depth inv.shared.one) c.loop-group.node.leaves c.put.new.self.leaves (group ∷ []) node.leaves (one, tt) inv.shared.leaves c.in_ok-put.ensures.groups;
        groups = inv.shared.groups;
      };
      given = λ k.
          c.in_ok-put.ensures.groups k
          ∙ ap (λ v. cond (bytes_eq k group.key.0) (given group.digest) v) (inv.given k)
          ∙ sym (after-more groups i none (digest_at c.args.node.now.leaves k) k c.loop-group-test.true)
          ∙ ap (λ n. digest_after (take n groups) (digest_at c.args.node.now.leaves k) k) next;
      counted = one-more (64 - depth) i c.args.steps.now c.loop-group.steps c.put.new.steps inv.counted (omega (arith, c.put.ensures.counted, inv.node.depth));
    }

pub returns-in_err-put-clause-counted : goal.returns-in_err-put-clause-counted
returns-in_err-put-clause-counted g c =
    let inv = c.loop-group.invariant in
    let depth = c.args.node.now.depth in
    let i = c.loop-group.group-index in
    let len = length c.args.groups.now in
    let last = one-more (64 - depth) i c.args.steps.now c.loop-group.steps c.put.new.steps inv.counted (omega (arith, c.put.ensures.counted, inv.node.depth)) in
    let within : i + 1 ≤ len = omega arith in
    within-all (64 - depth) (i + 1) len c.args.steps.now c.put.new.steps within last

pub returns-clause-counted : goal.returns-clause-counted
returns-clause-counted g c =
    let i = c.loop-group.group-index in
    let len = length c.args.groups.now in
    let within : i ≤ len = omega arith in
    within-all (64 - c.args.node.now.depth) i len c.args.steps.now c.loop-group.steps within c.loop-group.invariant.counted

pub returns-clause-groups : goal.returns-clause-groups
returns-clause-groups g c = λ k.
    let groups = c.args.groups.now in
    let all : c.loop-group.group-index ≡ length groups = omega arith in
    c.loop-group.invariant.given k
    ∙ ap (λ (gs : List Group). digest_after gs (digest_at c.args.node.now.leaves k) k) (ap (λ n. take n groups) all ∙ take-length groups)
