use denote.Exit.{no}
use denote.Param.Send.{arg_send, arg_sync, param_send, param_sync}
use Rattle.play_hub.proofs.Crossing.{entry-send, entry-sync}
use Rattle.space_row.proofs.Crossing.{row-send, row-sync}
use Rattle.std.proofs.Common.{ℕ, List, drop, length, subst, sym}
use Rattle.play_hub.specs.declared.entry.PlayEntry.{PlayEntry}
use Rattle.play_draws.specs.Making.{IsAgain}
use Rattle.play_worker.proofs.worker.work_on.Goals as goal

pub drawn-from-requires-send-S-Work : goal.drawn-from-requires-send-S-Work
drawn-from-requires-send-S-Work g c κs within = param_send _ _ (arg_send _ no _ row-send)

pub drawn-from-requires-send-S-Entry : goal.drawn-from-requires-send-S-Entry
drawn-from-requires-send-S-Entry g c κs within = param_send _ _ (arg_send _ no _ entry-send)

pub drawn-from-requires-sync-S-Work : goal.drawn-from-requires-sync-S-Work
drawn-from-requires-sync-S-Work g c κs within = param_sync _ _ (arg_sync _ no _ row-sync)

pub drawn-from-requires-sync-S-Entry : goal.drawn-from-requires-sync-S-Entry
drawn-from-requires-sync-S-Entry g c κs within = param_sync _ _ (arg_sync _ no _ entry-sync)

pub may_draw_more-requires-clause-work : goal.may_draw_more-requires-clause-work
may_draw_more-requires-clause-work g c κs within = (c.take_turn.ensures.more c.in-More.next c.in-More.is).0

pub loop-preserved : goal.loop-preserved
loop-preserved g c =
    let kept = c.may_draw_more.ensures in
    let more = c.take_turn.ensures.more c.in-More.next c.in-More.is in
    let on = kept.work c.if-not-may_draw_more.false in
    record {
      rest = kept.rest.0;
      empty = c.take_turn.ensures.empty;
      work = on.0;
      leave = on.1;
      again = subst (λ (l : List (ℕ × PlayEntry)). IsAgain (drop (length c.drawn-from.result.now) l) c.in-More.next) (sym kept.drawn) more.1;
    }
