use denote.Exit.{no}
use denote.Param.Send.{arg_send, arg_sync, param_send, param_sync}
use Rattle.play_hub.proofs.Crossing.{entry-send, entry-sync}
use Rattle.space_row.proofs.Crossing.{row-send, row-sync}
use Rattle.std.proofs.Common.{◌≡◌, ◌∙◌, ℕ, List, sym, subst, arith}
use Rattle.std.proofs.lemmas.Nat.{le_or_l}
use Rattle.std.proofs.lemmas.Nat.Bits.{bit_at_above}
use Rattle.group_locks.specs.Seats.{held_by}
use Rattle.play_hub.specs.declared.entry.PlayEntry.{PlayEntry}
use Rattle.play_draws.specs.Turns.{HandCarries}
use Rattle.play_worker.proofs.Groups.{shown-held}
use Rattle.play_worker.proofs.group.take_shown.Goals as goal

pub take_group-requires-send-S-Work : goal.take_group-requires-send-S-Work
take_group-requires-send-S-Work g c κs within = param_send _ _ (arg_send _ no _ row-send)

pub take_group-requires-send-S-Entry : goal.take_group-requires-send-S-Entry
take_group-requires-send-S-Entry g c κs within = param_send _ _ (arg_send _ no _ entry-send)

pub take_group-requires-sync-S-Work : goal.take_group-requires-sync-S-Work
take_group-requires-sync-S-Work g c κs within = param_sync _ _ (arg_sync _ no _ row-sync)

pub take_group-requires-sync-S-Entry : goal.take_group-requires-sync-S-Entry
take_group-requires-sync-S-Entry g c κs within = param_sync _ _ (arg_sync _ no _ entry-sync)

pub give_group-requires-send-S-Work : goal.give_group-requires-send-S-Work
give_group-requires-send-S-Work g c κs within = param_send _ _ (arg_send _ no _ row-send)

pub give_group-requires-send-S-Entry : goal.give_group-requires-send-S-Entry
give_group-requires-send-S-Entry g c κs within = param_send _ _ (arg_send _ no _ entry-send)

pub give_group-requires-sync-S-Work : goal.give_group-requires-sync-S-Work
give_group-requires-sync-S-Work g c κs within = param_sync _ _ (arg_sync _ no _ row-sync)

pub give_group-requires-sync-S-Entry : goal.give_group-requires-sync-S-Entry
give_group-requires-sync-S-Entry g c κs within = param_sync _ _ (arg_sync _ no _ entry-sync)

pub give_group-requires-in-loop-shown-send-S-Work : goal.give_group-requires-in-loop-shown-send-S-Work
give_group-requires-in-loop-shown-send-S-Work g c κs within = param_send _ _ (arg_send _ no _ row-send)

pub give_group-requires-in-loop-shown-send-S-Entry : goal.give_group-requires-in-loop-shown-send-S-Entry
give_group-requires-in-loop-shown-send-S-Entry g c κs within = param_send _ _ (arg_send _ no _ entry-send)

pub give_group-requires-in-loop-shown-sync-S-Work : goal.give_group-requires-in-loop-shown-sync-S-Work
give_group-requires-in-loop-shown-sync-S-Work g c κs within = param_sync _ _ (arg_sync _ no _ row-sync)

pub give_group-requires-in-loop-shown-sync-S-Entry : goal.give_group-requires-in-loop-shown-sync-S-Entry
give_group-requires-in-loop-shown-sync-S-Entry g c κs within = param_sync _ _ (arg_sync _ no _ entry-sync)

pub give_group-requires-clause-carries : goal.give_group-requires-clause-carries
give_group-requires-clause-carries g c κs within =
    subst (λ (es : List PlayEntry). HandCarries g.T.ShardTables.rows g.J.PlayTerms.deploy g.J.PlayTerms.source es (held_by c.take_group.new.self.state) (g.T.ShardTables.in_hand c.take_group.new.held)) (sym c.take_group.ensures.since) c.take_group.ensures.carries

pub give_group-requires-in-loop-shown-clause-carries : goal.give_group-requires-in-loop-shown-clause-carries
give_group-requires-in-loop-shown-clause-carries g c κs within =
    subst (λ (es : List PlayEntry). HandCarries g.T.ShardTables.rows g.J.PlayTerms.deploy g.J.PlayTerms.source es (held_by c.take_group.new.self.state) (g.T.ShardTables.in_hand c.take_group.new.held)) (sym c.take_group.ensures.since) c.take_group.ensures.carries

pub returns-then-more-group-clause-here : goal.returns-then-more-group-clause-here
returns-then-more-group-clause-here g c = record {
  carries = c.take_group.ensures.carries;
  turns = c.take_group.ensures.turns;
  low = λ k le. c.take_group.ensures.turns k ∙ bit_at_above c.loop-shown.group 64 k (omega (arith, c.loop-shown.auto.group-fits)) le;
  shown = λ all are k s. shown-held all c.args.op.now c.loop-shown.group c.in-Ok.shown (c.in-Ok.ensures all are) c.if-more-group.true k s;
}

pub loop-shown-smaller : goal.loop-shown-smaller
loop-shown-smaller g c = omega (arith, le_or_l c.loop-shown.group c.in-Ok.shown, c.if-more-group.false, c.loop-shown.auto.group-fits)
