use Rattle.std.proofs.Common.{subst}
use Rattle.event_log.specs.View.{steps_of}
use Rattle.replay_slots.specs.Hands.{all_shown, parts_of}
use Rattle.replay_shards.specs.Ready.{StartsEarly}
use Rattle.replay_shards.proofs.Lacking.{but-none, but-first}
use Rattle.replay_shards.proofs.early.but_early.Goals as goal

pub returns-then-not-starts_early : goal.returns-then-not-starts_early
returns-then-not-starts_early c = but-none _ _ _ c.args.next.items

pub returns : goal.returns
returns c =
    but-first (steps_of c.args.steps.now) (all_shown (parts_of c.args.slots.now)) c.args.receiver.now.0 c.args.next.items c.remove.new.self.items
    (subst (λ ts. StartsEarly (steps_of c.args.steps.now) (all_shown (parts_of c.args.slots.now)) c.args.receiver.now.0 ts) c.as_slice.ensures.value (c.starts_early.ensures c.if-not-starts_early.false)) c.remove.ensures.items
