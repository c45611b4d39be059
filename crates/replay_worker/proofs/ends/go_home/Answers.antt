use denote.Exit.{no}
use denote.Param.Send.{arg_send, arg_sync, param_send, param_sync}
use Rattle.std.proofs.Common.{ap, sym, ◌∙◌}
use Rattle.hub_rule.specs.Counts.{things_of}
use Rattle.replay_worker.proofs.Crossing.{entry-send, entry-sync}
use Rattle.replay_worker.proofs.Rounds.{drawn-of, emptied}
use Rattle.replay_worker.proofs.ends.go_home.Goals as goal

pub give_group-requires-clause-hub : goal.give_group-requires-clause-hub
give_group-requires-clause-hub g c κs within = c.requires.holds.hub

pub give_group-requires-clause-carries : goal.give_group-requires-clause-carries
give_group-requires-clause-carries g c κs within = c.requires.holds.carries

pub give_up-requires-clause-seat : goal.give_up-requires-clause-seat
give_up-requires-clause-seat g c κs within =
    let e = c.give_group.ensures in
    ((e.hub ∙ c.requires.holds.hub, e.free), ap (λ t. t.due) e.tally ∙ c.requires.holds.charged)

pub leave_ops-requires-clause-hub : goal.leave_ops-requires-clause-hub
leave_ops-requires-clause-hub g c κs within = c.give_group.ensures.hub ∙ c.requires.holds.hub

pub leave_ops-requires-clause-ops : goal.leave_ops-requires-clause-ops
leave_ops-requires-clause-ops g c κs within =
    let d = drawn-of (λ v. v.items) c.args.drawn c.in-Some.tasks c.in-Some.is c.args.seat.now.state c.requires.drawn in
    d.offered ∙ ap (λ p. things_of p.offered) (sym c.give_group.ensures.works)

pub give_up-requires-in-Err-clause-seat : goal.give_up-requires-in-Err-clause-seat
give_up-requires-in-Err-clause-seat g c κs within =
    let a = c.give_group.ensures in
    let e = c.leave_ops.ensures in
    ((e.hub ∙ (a.hub ∙ c.requires.holds.hub), e.held ∙ a.free), ap (λ t. t.due) e.tally ∙ (ap (λ t. t.due) a.tally ∙ c.requires.holds.charged))

pub returns-in-Ok-clause-ended : goal.returns-in-Ok-clause-ended
returns-in-Ok-clause-ended g c =
    let a = c.give_group.ensures in
    let e = c.leave_ops.ensures in
    let d = drawn-of (λ v. v.items) c.args.drawn c.in-Some.tasks c.in-Some.is c.args.seat.now.state c.requires.drawn in
    emptied c.args.hub.now.table.shared.table_id c.give_group.new.self.state c.leave_ops.new.self.state e.hub (a.hub ∙ c.requires.holds.hub, a.free) (ap (λ t. t.due) a.tally ∙ c.requires.holds.charged)
    (ap (λ p. p.taken) a.works ∙ d.ended) e.held (ap (λ t. t.due) e.tally) e.taken.0 c.in-Ok.ensures.left

pub returns-in_default-clause-ended : goal.returns-in_default-clause-ended
returns-in_default-clause-ended g c = c.give_up.ensures

pub returns-in_default-clause-empty : goal.returns-in_default-clause-empty
returns-in_default-clause-empty g c = c.give_group.ensures.empty

pub returns-in-Ok-clause-empty : goal.returns-in-Ok-clause-empty
returns-in-Ok-clause-empty g c = c.give_group.ensures.empty

pub returns-in-Err-clause-ended : goal.returns-in-Err-clause-ended
returns-in-Err-clause-ended g c = c.give_up-in-Err.ensures

pub returns-in-Err-clause-empty : goal.returns-in-Err-clause-empty
returns-in-Err-clause-empty g c = c.give_group.ensures.empty

pub give_group-requires-send-S-Entry : goal.give_group-requires-send-S-Entry
give_group-requires-send-S-Entry g c κs within = param_send _ _ (arg_send _ no _ (entry-send _ _ c.type_bounds.send-J-Row c.type_bounds.send-J-Channel))

pub give_group-requires-sync-S-Entry : goal.give_group-requires-sync-S-Entry
give_group-requires-sync-S-Entry g c κs within = param_sync _ _ (arg_sync _ no _ (entry-sync _ _ c.type_bounds.sync-J-Row c.type_bounds.sync-J-Channel))

pub leave_ops-requires-send-S-Entry : goal.leave_ops-requires-send-S-Entry
leave_ops-requires-send-S-Entry g c κs within = param_send _ _ (arg_send _ no _ (entry-send _ _ c.type_bounds.send-J-Row c.type_bounds.send-J-Channel))

pub leave_ops-requires-sync-S-Entry : goal.leave_ops-requires-sync-S-Entry
leave_ops-requires-sync-S-Entry g c κs within = param_sync _ _ (arg_sync _ no _ (entry-sync _ _ c.type_bounds.sync-J-Row c.type_bounds.sync-J-Channel))
