use denote.Exit.{no}
use denote.Param.Send.{arg_send, arg_sync, param_send, param_sync}
use Rattle.std.proofs.Common.{ap, subst, ◌∙◌}
use Rattle.calculus.specs.Storing.{shard}
use Rattle.group_locks.specs.Seats.{held_by, since_of}
use Rattle.replay_hub.specs.declared.deed.Task.TheVariants.{Index}
use Rattle.replay_hub.specs.Values.{has_bit, values}
use Rattle.replay_worker.specs.declared.tables.Looked.{Looked}
use Rattle.replay_worker.specs.Looking.{Shows}
use Rattle.replay_worker.proofs.Crossing.{entry-send, entry-sync}
use Rattle.replay_worker.proofs.Hands.{hand-bits, or-bits, since-none}
use Rattle.replay_worker.proofs.Rounds.{returned, taken}
use Rattle.replay_worker.proofs.trying.try_step.Goals as goal

pub look-requires-clause-shards : goal.look-requires-clause-shards
look-requires-clause-shards g c =
    let t = g.J.ReplayTerms in
    let m = values t.deploy t.steps t.row_of t.channel_of t.part_of in
    let state = c.take_group.new.self.state in
    let hand = t.in_hand c.take_group.new.held in
    let e = c.take_group.ensures in
    let can = taken c.args.hub.now.table.shared.table_id c.loop.seat.state state e.hub (Index c.args.tried) (t.in_hand c.loop.held) hand e.tally e.works e.room m c.loop.shards c.loop.invariant.ready e.since e.turns e.carries in
    hand-bits (held_by state) c.loop.shards e.turns m (since_of state) hand c.loop.auto.shards-fits.fits can.holds.carries

pub do_step-requires-clause-work : goal.do_step-requires-clause-work
do_step-requires-clause-work g c κs within =
    let t = g.J.ReplayTerms in
    let state = c.take_group.new.self.state in
    let hand = t.in_hand c.take_group.new.held in
    let e = c.take_group.ensures in
    let can = taken c.args.hub.now.table.shared.table_id c.loop.seat.state state e.hub (Index c.args.tried) (t.in_hand c.loop.held) hand e.tally e.works e.room
    (values t.deploy t.steps t.row_of t.channel_of t.part_of) c.loop.shards c.loop.invariant.ready e.since e.turns e.carries in
    let doing = subst (λ (z : Looked _ _). Shows t.deploy t.steps t.row_of t.channel_of t.part_of hand (has_bit c.loop.shards) c.args.tried z) c.in-Ok-Fits.field-0-is c.in-Ok-Fits.ensures in
    (c.args.tried, can, doing)

pub idle-requires-clause-draws : goal.idle-requires-clause-draws
idle-requires-clause-draws g c κs within =
    let t = g.J.ReplayTerms in
    let e = c.take_group.ensures in
    taken c.args.hub.now.table.shared.table_id c.loop.seat.state c.take_group.new.self.state e.hub (Index c.args.tried) (t.in_hand c.loop.held) (t.in_hand c.take_group.new.held) e.tally e.works e.room
    (values t.deploy t.steps t.row_of t.channel_of t.part_of) c.loop.shards c.loop.invariant.ready e.since e.turns e.carries

pub give_group-requires-clause-hub : goal.give_group-requires-clause-hub
give_group-requires-clause-hub g c κs within = c.take_group.ensures.hub ∙ c.loop.invariant.ready.rest.0

pub give_group-requires-clause-carries : goal.give_group-requires-clause-carries
give_group-requires-clause-carries g c κs within =
    let t = g.J.ReplayTerms in
    let state = c.take_group.new.self.state in
    let e = c.take_group.ensures in
    since-none (values t.deploy t.steps t.row_of t.channel_of t.part_of) (since_of state) (held_by state) (t.in_hand c.take_group.new.held) e.since e.carries

pub give_up-requires-in-Err-clause-seat : goal.give_up-requires-in-Err-clause-seat
give_up-requires-in-Err-clause-seat g c κs within =
    let r = c.loop.invariant.ready in
    let a = c.take_group.ensures in
    let b = c.give_group.ensures in
    ((b.hub ∙ (a.hub ∙ r.rest.0), b.free), ap (λ t. t.due) b.tally ∙ (ap (λ t. t.due) a.tally ∙ r.charged))

pub give_group-requires-in-Ok-Wider-clause-hub : goal.give_group-requires-in-Ok-Wider-clause-hub
give_group-requires-in-Ok-Wider-clause-hub g c κs within = c.take_group.ensures.hub ∙ c.loop.invariant.ready.rest.0

pub give_group-requires-in-Ok-Wider-clause-carries : goal.give_group-requires-in-Ok-Wider-clause-carries
give_group-requires-in-Ok-Wider-clause-carries g c κs within =
    let t = g.J.ReplayTerms in
    let state = c.take_group.new.self.state in
    let e = c.take_group.ensures in
    since-none (values t.deploy t.steps t.row_of t.channel_of t.part_of) (since_of state) (held_by state) (t.in_hand c.take_group.new.held) e.since e.carries

pub loop-preserved : goal.loop-preserved
loop-preserved g c =
    let t = g.J.ReplayTerms in
    let m = values t.deploy t.steps t.row_of t.channel_of t.part_of in
    let home = c.args.hub.now.table.shared.table_id in
    let job = Index c.args.tried in
    let mid = c.take_group.new.self.state in
    let hand = t.in_hand c.take_group.new.held in
    let a = c.take_group.ensures in
    let b = c.give_group-in-Ok-Wider.ensures in
    let can = taken home c.loop.seat.state mid a.hub job (t.in_hand c.loop.held) hand a.tally a.works a.room m c.loop.shards c.loop.invariant.ready a.since a.turns a.carries in
    record {
      ready = returned home mid c.give_group-in-Ok-Wider.new.self.state b.hub job hand (t.in_hand c.give_group-in-Ok-Wider.new.held) b.tally b.works b.room m c.loop.shards can b.free b.empty;
      own = or-bits c.loop.shards c.in-Ok-Wider.more (shard (t.channel_of c.args.tried.channel)) c.loop.invariant.own;
    }

pub give_up-requires-clause-seat : goal.give_up-requires-clause-seat
give_up-requires-clause-seat g c κs within = (c.requires.ready.rest, c.requires.ready.charged)

pub take_group-requires-clause-hub : goal.take_group-requires-clause-hub
take_group-requires-clause-hub g c κs within = c.loop.invariant.ready.rest.0

pub take_group-requires-clause-free : goal.take_group-requires-clause-free
take_group-requires-clause-free g c κs within = c.loop.invariant.ready.rest.1

pub take_group-requires-clause-empty : goal.take_group-requires-clause-empty
take_group-requires-clause-empty g c κs within = c.loop.invariant.ready.empty

pub look-requires-clause-knows : goal.look-requires-clause-knows
look-requires-clause-knows g c = c.requires.knows

pub look-requires-clause-own : goal.look-requires-clause-own
look-requires-clause-own g c = c.loop.invariant.own

pub do_step-requires-clause-knows : goal.do_step-requires-clause-knows
do_step-requires-clause-knows g c κs within = c.requires.knows

pub idle-requires-clause-idle : goal.idle-requires-clause-idle
idle-requires-clause-idle g c κs within =
    let t = g.J.ReplayTerms in
    subst (λ (z : Looked _ _). Shows t.deploy t.steps t.row_of t.channel_of t.part_of (t.in_hand c.take_group.new.held) (has_bit c.loop.shards) c.args.tried z) c.in-Ok-Idle.field-0-is c.in-Ok-Idle.ensures

pub loop-init : goal.loop-init
loop-init g c = record { ready = c.requires.ready; own = c.in-Ok.ensures }

pub returns-in_default-clause-ended : goal.returns-in_default-clause-ended
returns-in_default-clause-ended g c = c.give_up.ensures

pub returns-in_default-clause-empty : goal.returns-in_default-clause-empty
returns-in_default-clause-empty g c = c.requires.ready.empty

pub returns-in-Err-clause-ended : goal.returns-in-Err-clause-ended
returns-in-Err-clause-ended g c = c.give_up-in-Err.ensures

pub returns-in-Err-clause-empty : goal.returns-in-Err-clause-empty
returns-in-Err-clause-empty g c = c.give_group.ensures.empty

pub returns-in-Ok-Fits-clause-ended : goal.returns-in-Ok-Fits-clause-ended
returns-in-Ok-Fits-clause-ended g c = c.do_step.ensures.ended

pub returns-in-Ok-Fits-clause-empty : goal.returns-in-Ok-Fits-clause-empty
returns-in-Ok-Fits-clause-empty g c = c.do_step.ensures.empty

pub returns-in-Ok-Idle-clause-ended : goal.returns-in-Ok-Idle-clause-ended
returns-in-Ok-Idle-clause-ended g c = c.idle.ensures.ended

pub returns-in-Ok-Idle-clause-empty : goal.returns-in-Ok-Idle-clause-empty
returns-in-Ok-Idle-clause-empty g c = c.idle.ensures.empty

pub take_group-requires-send-S-Entry : goal.take_group-requires-send-S-Entry
take_group-requires-send-S-Entry g c κs within = param_send _ _ (arg_send _ no _ (entry-send _ _ c.type_bounds.send-J-Row c.type_bounds.send-J-Channel))

pub take_group-requires-sync-S-Entry : goal.take_group-requires-sync-S-Entry
take_group-requires-sync-S-Entry g c κs within = param_sync _ _ (arg_sync _ no _ (entry-sync _ _ c.type_bounds.sync-J-Row c.type_bounds.sync-J-Channel))

pub give_group-requires-send-S-Entry : goal.give_group-requires-send-S-Entry
give_group-requires-send-S-Entry g c κs within = param_send _ _ (arg_send _ no _ (entry-send _ _ c.type_bounds.send-J-Row c.type_bounds.send-J-Channel))

pub give_group-requires-sync-S-Entry : goal.give_group-requires-sync-S-Entry
give_group-requires-sync-S-Entry g c κs within = param_sync _ _ (arg_sync _ no _ (entry-sync _ _ c.type_bounds.sync-J-Row c.type_bounds.sync-J-Channel))

pub give_group-requires-in-Ok-Wider-send-S-Entry : goal.give_group-requires-in-Ok-Wider-send-S-Entry
give_group-requires-in-Ok-Wider-send-S-Entry g c κs within = param_send _ _ (arg_send _ no _ (entry-send _ _ c.type_bounds.send-J-Row c.type_bounds.send-J-Channel))

pub give_group-requires-in-Ok-Wider-sync-S-Entry : goal.give_group-requires-in-Ok-Wider-sync-S-Entry
give_group-requires-in-Ok-Wider-sync-S-Entry g c κs within = param_sync _ _ (arg_sync _ no _ (entry-sync _ _ c.type_bounds.sync-J-Row c.type_bounds.sync-J-Channel))
