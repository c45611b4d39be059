use denote.Exit.{no}
use denote.Param.Send.{arg_send, arg_sync, param_send, param_sync}
use Rattle.play_hub.proofs.Crossing.{entry-send, entry-sync}
use Rattle.std.proofs.Common.{◌≡◌, ℕ, List, Option, None, refl, sym, subst}
use Rattle.calculus.specs.Rows.{Row as Stored}
use Rattle.group_locks.specs.Seats.{held_by, since_of, took_by}
use Rattle.events.specs.Allowed.{IdsTell, MeetsNothing, rows_at_hand}
use Rattle.space_row.proofs.Crossing.{row-send, row-sync}
use Rattle.shard_tables.specs.Hands.{AreInHand, AreMade, GainsRow}
use Rattle.play_hub.specs.declared.entry.PlayEntry.{PlayEntry}
use Rattle.play_draws.specs.Turns.{HoldsGroup}
use Rattle.play_draws.proofs.Hands.{stored-told, stored-carried}
use Rattle.play_draws.proofs.drawing.draw_stored.Goals as goal

pub commit-requires-send-S-Work : goal.commit-requires-send-S-Work
commit-requires-send-S-Work g c κs within = param_send _ _ (arg_send _ no _ row-send)

pub commit-requires-sync-S-Work : goal.commit-requires-sync-S-Work
commit-requires-sync-S-Work g c κs within = param_sync _ _ (arg_sync _ no _ row-sync)

pub commit-requires-send-S-Entry : goal.commit-requires-send-S-Entry
commit-requires-send-S-Entry g c κs within = param_send _ _ (arg_send _ no _ entry-send)

pub commit-requires-sync-S-Entry : goal.commit-requires-sync-S-Entry
commit-requires-sync-S-Entry g c κs within = param_sync _ _ (arg_sync _ no _ entry-sync)

pub commit-requires-clause-allowed : goal.commit-requires-clause-allowed
commit-requires-clause-allowed g c κs within =
    let rows = g.T.ShardTables.rows in
    let before = g.T.ShardTables.in_hand c.args.held.now in
    let held = held_by c.args.seat.now.state in
    let d = g.J.PlayTerms.deploy in
    let s = g.J.PlayTerms.source in
    let e : PlayEntry = record { operation = c.of.result; made = None; touched = c.args.group } in
    let group = subst (λ (o : Stored). HoldsGroup rows d s o c.args.group held before) (sym c.of.ensures) c.requires.group in
    let lonely = subst (λ (o : Stored). (all : List Stored) → AreInHand rows before all → IdsTell (rows_at_hand all o) → MeetsNothing all o) (sym c.of.ensures) c.requires.lonely in
    stored-told rows d s e held before group refl (since_of c.args.seat.now.state) (took_by c.args.seat.now.state) c.requires.since lonely

pub commit-requires-clause-carries : goal.commit-requires-clause-carries
commit-requires-clause-carries g c κs within =
    let rows = g.T.ShardTables.rows in
    let before = g.T.ShardTables.in_hand c.args.held.now in
    let after = g.T.ShardTables.in_hand c.put.new.held in
    let held = held_by c.args.seat.now.state in
    let d = g.J.PlayTerms.deploy in
    let s = g.J.PlayTerms.source in
    let e : PlayEntry = record { operation = c.of.result; made = None; touched = c.args.group } in
    let group = subst (λ (o : Stored). HoldsGroup rows d s o c.args.group held before) (sym c.of.ensures) c.requires.group in
    let made = subst (λ (o : Stored). AreMade rows (GainsRow o) before after) (sym c.of.ensures) c.in_ok-put.ensures.put in
    stored-carried rows d s e held before group refl (since_of c.args.seat.now.state) after c.requires.since made
