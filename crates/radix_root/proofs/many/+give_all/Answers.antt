use Rattle.std.proofs.Common.{rules, ◌≡◌, ◌<◌, ◌≤◌, ◌+◌, ◌-◌, ◌*◌, List, ◌++◌, length, length-append, take, sym, ap, subst, ◌∙◌, arith}
use Rattle.std.proofs.lemmas.Result.{on_ok_weaker}
use Rattle.radix_root.specs.declared.group.Group.{Group}
use Rattle.radix_root.specs.Leaves.{Leaves, digest_at, half_of}
use Rattle.radix_root.specs.Nodes.{leaves_of, IsNode, Shares}
use Rattle.radix_root.specs.Groups.{AllGroups, ShareAll, digest_after}
use Rattle.radix_root.proofs.Forks.{children-leaves}
use Rattle.radix_root.proofs.Places.{child-at}
use Rattle.radix_root.proofs.Wells.{both-ok}
use Rattle.radix_root.proofs.Counting.{run-more, one-deeper, whole-more}
use Rattle.radix_root.proofs.Given.{run-shared, run-given, groups-first, groups-last, keys-after, after-join, pieces}
use Rattle.radix_root.proofs.many.+give_all.Goals as goal

pub give_all-returns-clause-groups : goal.give_all-returns-clause-groups
give_all-returns-clause-groups g t c = λ k.
    ap (λ (ls : Leaves). digest_at ls k) c.settle.ensures.leaves
    ∙ c.in_ok-give_runs.ensures.groups k
    ∙ ap (λ (ls : Leaves). digest_after c.args.groups.now (digest_at ls k) k) c.in_ok-children.ensures.leaves

pub give_run-give_all-requires : goal.give_run-give_all-requires
give_run-give_all-requires g t c =
    let o = c.index_mut.result.now in
    let items = c.place_for.new.children.items in
    let fork = c.place_for.ensures.fork in
    let found = c.in_ok-place.ensures in
    let at_place = sym c.index_mut.ensures.value in
    let node = (child-at c.args.depth c.in_ok-place.place items o fork.children found.within at_place).0 in
    let deep : o.depth ≡ c.args.depth + 1 = node.depth ∙ omega arith in
    let falls : 3 * (64 - o.depth) + 2 < 3 * (64 - c.args.depth) = omega (arith, deep, c.requires.fork.within) in
    let shared = subst (λ (ls : Leaves). ShareAll c.args.depth ls c.args.run.now) (sym c.place_for.ensures.leaves) c.requires.shared in
    λ κs b. (
      search rules,
      (b, (subst (λ m. IsNode m o) (sym node.depth) node, run-shared c.args.depth c.args.half c.in_ok-place.place items o c.args.run.now fork shared c.requires.half c.requires.some found.place at_place)),
    )

pub give_run-returns-clause-fork : goal.give_run-returns-clause-fork
give_run-returns-clause-fork g t c =
    let fork = c.place_for.ensures.fork in
    let found = c.in_ok-place.ensures in
    on_ok_weaker c.give_all.result
    (λ p. (run-given c.args.depth c.args.half c.in_ok-place.place c.place_for.new.children.items c.index_mut.result.now c.give_all.new.node c.args.run.now fork c.requires.half found.place (sym c.index_mut.ensures.value) p.0 p.1.0 p.1.1).0)
    (both-ok _ _ c.give_all.result c.give_all.ensures.node (both-ok _ _ c.give_all.result c.give_all.ensures.half c.give_all.ensures.groups))

pub give_run-returns-clause-groups : goal.give_run-returns-clause-groups
give_run-returns-clause-groups g t c =
    let fork = c.place_for.ensures.fork in
    let found = c.in_ok-place.ensures in
    on_ok_weaker c.give_all.result
    (λ p k. (run-given c.args.depth c.args.half c.in_ok-place.place c.place_for.new.children.items c.index_mut.result.now c.give_all.new.node c.args.run.now fork c.requires.half found.place (sym c.index_mut.ensures.value) p.0 p.1.0 p.1.1).1 k
    ∙ ap (λ (ls : Leaves). digest_after c.args.run.now (digest_at ls k) k) c.place_for.ensures.leaves)
    (both-ok _ _ c.give_all.result c.give_all.ensures.node (both-ok _ _ c.give_all.result c.give_all.ensures.half c.give_all.ensures.groups))

pub give_runs-give_run-requires : goal.give_runs-give_run-requires
give_runs-give_run-requires g t c =
    let inv = c.loop-rest.invariant in
    let first = c.first_run-half in
    let front = c.split_at.ensures.front in
    let falls : 3 * (64 - c.args.depth) < 3 * (64 - c.args.depth) + 1 = omega arith in
    let shared : ShareAll c.args.depth (leaves_of c.loop-rest.children.items) (take first.result.1 c.loop-rest.rest.now) =
    record { one = inv.shared.one; leaves = inv.shared.leaves; groups = groups-first (Shares c.args.depth inv.shared.one) first.result.1 c.loop-rest.rest.now inv.shared.groups } in
    λ κs b. (
      search rules,
      (b, (inv.fork, (subst (ShareAll c.args.depth (leaves_of c.loop-rest.children.items)) (sym front) shared, (subst (AllGroups (λ k. half_of c.args.depth k ≡ first.result.0)) (sym front) first.ensures.half, omega (arith, c.split_at.ensures.front_len, first.ensures.some))))),
    )

pub give_runs-loop-rest-preserved : goal.give_runs-loop-rest-preserved
give_runs-loop-rest-preserved g t c =
    let inv = c.loop-rest.invariant in
    let len = c.first_run-half.result.1 in
    let rest = c.loop-rest.rest.now in
    let run = c.split_at.result.0.now in
    let others = c.split_at.result.1.now in
    let old = c.loop-rest.children.items in
    let new = c.give_run.new.children.items in
    let given = c.in_ok-give_run.ensures in
    let one = inv.shared.one in
    let first = subst (AllGroups (Shares c.args.depth one)) (sym c.split_at.ensures.front) (groups-first (Shares c.args.depth one) len rest inv.shared.groups) in
    let last = subst (AllGroups (Shares c.args.depth one)) (sym c.split_at.ensures.back) (groups-last (Shares c.args.depth one) len rest inv.shared.groups) in
    let all : run ++ others ≡ rest = ap (λ gs. gs ++ others) c.split_at.ensures.front ∙ ap (λ gs. take len rest ++ gs) c.split_at.ensures.back ∙ pieces len rest in
    record {
      fork = given.fork;
      shared = record {
        one = one;
        leaves = keys-after (Shares c.args.depth one) (leaves_of old) (leaves_of new) run (children-leaves c.args.depth new given.fork.children) first inv.shared.leaves given.groups;
        groups = last;
      };
      given = λ k.
          ap (λ v. digest_after others v k) (given.groups k)
          ∙ sym (after-join run others (digest_at (leaves_of old) k) k)
          ∙ ap (λ (gs : List Group). digest_after gs (digest_at (leaves_of old) k) k) all
          ∙ inv.given k;
      counted = run-more (63 - c.args.depth) (length run) (length others) (length rest) (c.args.steps.now + (63 - c.args.depth) * length c.args.groups.now) c.loop-rest.steps c.give_run.new.steps
          (ap length (sym all) ∙ length-append run others) inv.counted given.counted;
    }

pub give_run-returns-clause-counted : goal.give_run-returns-clause-counted
give_run-returns-clause-counted g t c =
    let o = c.index_mut.result.now in
    let fork = c.place_for.ensures.fork in
    let found = c.in_ok-place.ensures in
    let node = (child-at c.args.depth c.in_ok-place.place c.place_for.new.children.items o fork.children found.within (sym c.index_mut.ensures.value)).0 in
    let deep : o.depth ≡ c.args.depth + 1 = node.depth ∙ omega arith in
    one-deeper c.args.depth o.depth (length c.args.run.now) c.args.steps.now c.give_all.new.steps deep c.give_all.ensures.counted

pub give_all-returns-clause-counted : goal.give_all-returns-clause-counted
give_all-returns-clause-counted g t c =
    let len = length c.args.groups.now in
    let deep : c.depth-depth.result < 64 = omega arith in
    let some : 1 ≤ len = omega arith in
    subst (λ m. c.settle.new.steps ≤ c.args.steps.now + (64 - m) * len) c.depth-depth.ensures
    (whole-more c.depth-depth.result len c.args.steps.now c.give_runs.new.steps c.settle.new.steps deep some c.give_runs.ensures.counted c.settle.ensures.counted)

pub give_all-returns-in_err-give_runs-clause-counted : goal.give_all-returns-in_err-give_runs-clause-counted
give_all-returns-in_err-give_runs-clause-counted g t c =
    let len = length c.args.groups.now in
    let deep : c.depth-depth.result < 64 = omega arith in
    let some : 1 ≤ len = omega arith in
    let last : c.give_runs.new.steps ≤ c.give_runs.new.steps + 1 = omega arith in
    subst (λ m. c.give_runs.new.steps ≤ c.args.steps.now + (64 - m) * len) c.depth-depth.ensures
    (whole-more c.depth-depth.result len c.args.steps.now c.give_runs.new.steps c.give_runs.new.steps deep some c.give_runs.ensures.counted last)
