use Rattle.std.proofs.Common.{ap, ◌∙◌, arith}
use Rattle.std.specs.Prelude.{Some}
use Rattle.replay_slots.specs.Hands.{InHand, shard_at}
use Rattle.replay_slots.proofs.Stepping.{one-length}
use Rattle.replay_slots.proofs.Placing.{filed-set, set-here, set-others}
use Rattle.replay_shards.proofs.held.ReplayHeld.add.Goals as goal

pub invariant_of-self : goal.invariant_of-self
invariant_of-self c =
    let slots = c.self.inside.slots.items in
    let w = Some c.shard.inside.kept in (
      one-length slots c.args.number w ∙ c.self.invariant.0,
      filed-set slots c.args.number w c.shard.invariant c.self.invariant.1,
      λ k out. let e = c.widened-low.ensures k out in set-others slots c.args.number k w e.0 ∙ c.self.invariant.2 k e.1,
    )

pub returns-clause-here : goal.returns-clause-here
returns-clause-here c =
    let slots = c.self.inside.slots.items in
    set-here slots c.args.number (Some c.shard.inside.kept) (omega (arith, c.requires.low, c.self.invariant.0)) ∙ ap (λ x. Some x) c.shard.view_is

pub returns-clause-others : goal.returns-clause-others
returns-clause-others c k d = set-others c.self.inside.slots.items c.args.number k (Some c.shard.inside.kept) d ∙ ap (λ (h : InHand). shard_at h k) c.self.view_is
