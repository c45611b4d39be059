use denote.Exit.{no}
use denote.Param.Send.{arg_send, arg_sync, param_send, param_sync}
use Rattle.play_hub.proofs.Crossing.{entry-send, entry-sync}
use Rattle.space_row.proofs.Crossing.{row-send, row-sync}
use Rattle.std.proofs.Common.{◌∙◌, sym, ap, subst, length, drop, Option, ℕ}
use Rattle.std.specs.List.{slice_get}
use Rattle.group_locks.specs.Seats.{drawn_by}
use Rattle.play_draws.specs.Making.{IsAgain}
use Rattle.play_draws.proofs.Lists.{last-at}
use Rattle.play_worker.proofs.Seats.{stays-on}
use Rattle.play_worker.proofs.turn.settle.Goals as goal

pub charge-requires-send-S-Work : goal.charge-requires-send-S-Work
charge-requires-send-S-Work g c κs within = param_send _ _ (arg_send _ no _ row-send)

pub charge-requires-send-S-Entry : goal.charge-requires-send-S-Entry
charge-requires-send-S-Entry g c κs within = param_send _ _ (arg_send _ no _ entry-send)

pub charge-requires-sync-S-Work : goal.charge-requires-sync-S-Work
charge-requires-sync-S-Work g c κs within = param_sync _ _ (arg_sync _ no _ row-sync)

pub charge-requires-sync-S-Entry : goal.charge-requires-sync-S-Entry
charge-requires-sync-S-Entry g c κs within = param_sync _ _ (arg_sync _ no _ entry-sync)

pub stop-requires-send-S-Work : goal.stop-requires-send-S-Work
stop-requires-send-S-Work g c κs within = param_send _ _ (arg_send _ no _ row-send)

pub stop-requires-send-S-Entry : goal.stop-requires-send-S-Entry
stop-requires-send-S-Entry g c κs within = param_send _ _ (arg_send _ no _ entry-send)

pub stop-requires-sync-S-Work : goal.stop-requires-sync-S-Work
stop-requires-sync-S-Work g c κs within = param_sync _ _ (arg_sync _ no _ row-sync)

pub stop-requires-sync-S-Entry : goal.stop-requires-sync-S-Entry
stop-requires-sync-S-Entry g c κs within = param_sync _ _ (arg_sync _ no _ entry-sync)

pub leave_ops-requires-send-S-Work : goal.leave_ops-requires-send-S-Work
leave_ops-requires-send-S-Work g c κs within = param_send _ _ (arg_send _ no _ row-send)

pub leave_ops-requires-send-S-Entry : goal.leave_ops-requires-send-S-Entry
leave_ops-requires-send-S-Entry g c κs within = param_send _ _ (arg_send _ no _ entry-send)

pub leave_ops-requires-sync-S-Work : goal.leave_ops-requires-sync-S-Work
leave_ops-requires-sync-S-Work g c κs within = param_sync _ _ (arg_sync _ no _ row-sync)

pub leave_ops-requires-sync-S-Entry : goal.leave_ops-requires-sync-S-Entry
leave_ops-requires-sync-S-Entry g c κs within = param_sync _ _ (arg_sync _ no _ entry-sync)

pub stop-requires-in_default-send-S-Work : goal.stop-requires-in_default-send-S-Work
stop-requires-in_default-send-S-Work g c κs within = param_send _ _ (arg_send _ no _ row-send)

pub stop-requires-in_default-send-S-Entry : goal.stop-requires-in_default-send-S-Entry
stop-requires-in_default-send-S-Entry g c κs within = param_send _ _ (arg_send _ no _ entry-send)

pub stop-requires-in_default-sync-S-Work : goal.stop-requires-in_default-sync-S-Work
stop-requires-in_default-sync-S-Work g c κs within = param_sync _ _ (arg_sync _ no _ row-sync)

pub stop-requires-in_default-sync-S-Entry : goal.stop-requires-in_default-sync-S-Entry
stop-requires-in_default-sync-S-Entry g c κs within = param_sync _ _ (arg_sync _ no _ entry-sync)

pub stop-requires-clause-fault : goal.stop-requires-clause-fault
stop-requires-clause-fault g c κs within _ =
    let before = c.requires.drawn.0 in
    let d = c.requires.drawn.2 in
    (length (drawn_by before), (d.number, d.entry), ap (λ l. slice_get l (length (drawn_by before))) (c.charge.ensures.drawn ∙ d.drawn) ∙ last-at (drawn_by before) (d.number, d.entry), sym d.fault ∙ c.if-faulty.true)

pub returns-else-ends-clause-more : goal.returns-else-ends-clause-more
returns-else-ends-clause-more g c again e =
    let new = c.leave_ops.new.self.state in
    let k = stays-on c.args.taken.from c.args.taken.op.now c.requires.drawn.0 c.args.seat.now.state new c.args.drawn c.requires.drawn.1 c.requires.drawn.2 c.if-ends.false
    (c.leave_ops.ensures.taken.0 ∙ ap (λ p. p.taken) c.charge.ensures.works) (c.leave_ops.ensures.taken.1 ∙ ap (λ p. p.took) c.charge.ensures.works) c.in-Ok.ensures.left
    (ap (λ t. t.due) c.leave_ops.ensures.tally ∙ c.charge.ensures.due) (c.leave_ops.ensures.drawn ∙ c.charge.ensures.drawn) in
    (k.0, subst (λ (a : Option ℕ). IsAgain (drop c.args.taken.from (drawn_by new)) a) (cc e) k.1)
