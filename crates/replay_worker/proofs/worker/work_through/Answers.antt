use denote.Exit.{no}
use denote.Param.Send.{arg_send, arg_sync, param_send, param_sync}
use Rattle.std.proofs.Common.{inr, arith, ◌∙◌}
use Rattle.replay_worker.proofs.Crossing.{entry-send, entry-sync}
use Rattle.replay_worker.proofs.Rounds.{readied}
use Rattle.replay_worker.proofs.worker.work_through.Goals as goal

pub do_task-requires-clause-ready : goal.do_task-requires-clause-ready
do_task-requires-clause-ready g c κs within =
    let e = c.take_op.ensures in
    let i = c.loop.invariant in
    readied c.args.hub.now.table.shared.table_id c.loop.seat.state c.take_op.new.self.state e.hub c.in-Some-take_op.task _ i.idle.0 e.held e.charged.1 c.in-Some-take_op.ensures.taken c.in-Some-take_op.ensures.new.0 (c.in-Some-take_op.ensures.go.0, c.in-Some-take_op.ensures.go.1) i.empty

pub returns-then-not-do_task-clause-rest : goal.returns-then-not-do_task-clause-rest
returns-then-not-do_task-clause-rest g c = c.do_task.ensures.ended.rest

pub returns-then-not-do_task-clause-cause : goal.returns-then-not-do_task-clause-cause
returns-then-not-do_task-clause-cause g c = inr (inr (c.do_task.ensures.ended.stopped c.if-not-do_task.true))

pub loop-preserved : goal.loop-preserved
loop-preserved g c =
    let e = c.do_task.ensures.ended in
    record { idle = (e.rest, e.charged, e.left c.if-not-do_task.false); empty = c.do_task.ensures.empty }

pub stop-requires-clause-hub : goal.stop-requires-clause-hub
stop-requires-clause-hub g c κs within = c.requires.seat.0.0

pub take_op-requires-clause-hub : goal.take_op-requires-clause-hub
take_op-requires-clause-hub g c κs within = c.loop.invariant.idle.0.0

pub take_op-requires-clause-idle : goal.take_op-requires-clause-idle
take_op-requires-clause-idle g c κs within = c.loop.invariant.idle.2

pub take_op-requires-clause-charged : goal.take_op-requires-clause-charged
take_op-requires-clause-charged g c κs within = c.loop.invariant.idle.1

pub do_task-requires-clause-knows : goal.do_task-requires-clause-knows
do_task-requires-clause-knows g c κs within = c.requires.knows

pub loop-init : goal.loop-init
loop-init g c = record { idle = c.requires.seat; empty = c.in-Ok.ensures }

pub returns-in_default-clause-rest : goal.returns-in_default-clause-rest
returns-in_default-clause-rest g c = (c.stop.ensures.hub ∙ c.requires.seat.0.0, c.stop.ensures.held ∙ c.requires.seat.0.1)

pub returns-in_default-clause-cause : goal.returns-in_default-clause-cause
returns-in_default-clause-cause g c = inr (inr (omega (arith, c.stop.ensures.stops)))

pub returns-in_default-take_op-clause-rest : goal.returns-in_default-take_op-clause-rest
returns-in_default-take_op-clause-rest g c = (c.take_op.ensures.hub ∙ c.loop.invariant.idle.0.0, c.take_op.ensures.held ∙ c.loop.invariant.idle.0.1)

pub stop-requires-send-S-Entry : goal.stop-requires-send-S-Entry
stop-requires-send-S-Entry g c κs within = param_send _ _ (arg_send _ no _ (entry-send _ _ c.type_bounds.send-J-Row c.type_bounds.send-J-Channel))

pub stop-requires-sync-S-Entry : goal.stop-requires-sync-S-Entry
stop-requires-sync-S-Entry g c κs within = param_sync _ _ (arg_sync _ no _ (entry-sync _ _ c.type_bounds.sync-J-Row c.type_bounds.sync-J-Channel))

pub take_op-requires-send-S-Entry : goal.take_op-requires-send-S-Entry
take_op-requires-send-S-Entry g c κs within = param_send _ _ (arg_send _ no _ (entry-send _ _ c.type_bounds.send-J-Row c.type_bounds.send-J-Channel))

pub take_op-requires-sync-S-Entry : goal.take_op-requires-sync-S-Entry
take_op-requires-sync-S-Entry g c κs within = param_sync _ _ (arg_sync _ no _ (entry-sync _ _ c.type_bounds.sync-J-Row c.type_bounds.sync-J-Channel))
