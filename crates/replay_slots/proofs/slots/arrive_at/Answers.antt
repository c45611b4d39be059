use Rattle.std.proofs.lemmas.Result.{on_err_weaker}
use Rattle.std.proofs.Common.{arith}
use Rattle.replay_slots.proofs.Placing.{filed-set, there-filed}
use Rattle.replay_slots.proofs.Within.{set-same}
use Rattle.replay_slots.proofs.slots.arrive_at.Goals as goal

pub returns-clause-back : goal.returns-clause-back
returns-clause-back c = on_err_weaker c.arrive_one.result (λ e. set-same c.args.slots.now.items c.args.number c.arrive_one.new.slot c.index_mut.result.now c.index_mut.ensures.value e) c.arrive_one.ensures.back

pub returns-clause-filed : goal.returns-clause-filed
returns-clause-filed c f =
    let slots = c.args.slots.now.items in
    filed-set slots c.args.number c.arrive_one.new.slot (c.arrive_one.ensures.filed (there-filed slots c.args.number c.index_mut.result.now (omega (arith, c.requires.low.0, c.requires.low.1)) c.index_mut.ensures.value f)) f
