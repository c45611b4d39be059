use Rattle.std.proofs.Common.{subst}
use Rattle.replay_hub.specs.declared.deed.Task.{Task}
use Rattle.replay_worker.specs.Seats.{IsReady}
use Rattle.replay_worker.proofs.worker.do_task.Goals as goal

pub bring_in-requires-clause-ready : goal.bring_in-requires-clause-ready
bring_in-requires-clause-ready g c κs within =
    subst (λ (w : Task _ _). IsReady c.args.hub.now.table.shared.table_id w c.args.seat.now.state (g.J.ReplayTerms.in_hand c.args.held.now)) c.in-Arrive.is c.requires.ready

pub try_step-requires-clause-ready : goal.try_step-requires-clause-ready
try_step-requires-clause-ready g c κs within =
    subst (λ (w : Task _ _). IsReady c.args.hub.now.table.shared.table_id w c.args.seat.now.state (g.J.ReplayTerms.in_hand c.args.held.now)) c.in-Index.is c.requires.ready
