use denote.Exit.{no}
use denote.Param.Send.{arg_send, arg_sync, param_send, param_sync}
use Rattle.play_hub.proofs.Crossing.{entry-send, entry-sync}
use Rattle.space_row.proofs.Crossing.{row-send, row-sync}
use Rattle.std.proofs.Common.{◌≡◌, ◌∙◌, ℕ, List, Some, refl, sym, ap, subst, drop, map, arith}
use Rattle.std.proofs.Math.Nat.{min-eq_left}
use Rattle.calculus.specs.declared.ids.Digest.{Digest}
use Rattle.calculus.specs.Rows.{Row as Stored}
use Rattle.calculus.specs.Steps.{is_one_of}
use Rattle.hub_rule.specs.Counts.{things_of}
use Rattle.hub_rule.specs.Rule.{kept_if}
use Rattle.group_locks.specs.Seats.{held_by, since_of, drawn_by, took_by, taken_by}
use Rattle.hub_rule.proofs.Offers.{things_numbered}
use Rattle.found_rows.specs.AtHand.{MeetsAtHand}
use Rattle.shard_tables.specs.Hands.{AreInHand, AreMade, LosesRows}
use Rattle.play_hub.specs.declared.entry.PlayEntry.{PlayEntry}
use Rattle.play_draws.specs.Turns.{HoldsGroup}
use Rattle.play_draws.proofs.Hands.{within, ready-told, ready-carried}
use Rattle.play_draws.proofs.drawing.draw_ready.Goals as goal

pub commit-requires-send-S-Work : goal.commit-requires-send-S-Work
commit-requires-send-S-Work g c κs within = param_send _ _ (arg_send _ no _ row-send)

pub commit-requires-sync-S-Work : goal.commit-requires-sync-S-Work
commit-requires-sync-S-Work g c κs within = param_sync _ _ (arg_sync _ no _ row-sync)

pub commit-requires-send-S-Entry : goal.commit-requires-send-S-Entry
commit-requires-send-S-Entry g c κs within = param_send _ _ (arg_send _ no _ entry-send)

pub commit-requires-sync-S-Entry : goal.commit-requires-sync-S-Entry
commit-requires-sync-S-Entry g c κs within = param_sync _ _ (arg_sync _ no _ entry-sync)

pub commit-requires-clause-within : goal.commit-requires-clause-within
commit-requires-clause-within g c κs w k b =
    let rows = g.T.ShardTables.rows in
    let before = g.T.ShardTables.in_hand c.args.held.now in
    let held = held_by c.args.seat.now.state in
    let d = g.J.PlayTerms.deploy in
    let s = g.J.PlayTerms.source in
    let e : PlayEntry = record { operation = c.of.result; made = Some c.args.ready.made; touched = c.args.group } in
    within rows d s e held before (subst (λ (o : Stored). HoldsGroup rows d s o c.args.group held before) (sym c.of.ensures) c.requires.group) k b

pub commit-requires-clause-allowed : goal.commit-requires-clause-allowed
commit-requires-clause-allowed g c κs w =
    let rows = g.T.ShardTables.rows in
    let before = g.T.ShardTables.in_hand c.args.held.now in
    let held = held_by c.args.seat.now.state in
    let d = g.J.PlayTerms.deploy in
    let s = g.J.PlayTerms.source in
    let e : PlayEntry = record { operation = c.of.result; made = Some c.args.ready.made; touched = c.args.group } in
    let group = subst (λ (o : Stored). HoldsGroup rows d s o c.args.group held before) (sym c.of.ensures) c.requires.group in
    let r = c.requires.ready in
    let meets = subst (λ (o : Stored). (all : List Stored) → AreInHand rows before all → MeetsAtHand all o r.0) (sym c.of.ensures) r.1 in
    ready-told rows d s e held before group c.args.ready r.0 (drop c.args.taken.from (drawn_by c.args.seat.now.state)) r.2 refl (since_of c.args.seat.now.state) (took_by c.args.seat.now.state) c.requires.since c.requires.work.took meets

pub commit-requires-clause-carries : goal.commit-requires-clause-carries
commit-requires-clause-carries g c κs w =
    let rows = g.T.ShardTables.rows in
    let before = g.T.ShardTables.in_hand c.args.held.now in
    let after = g.T.ShardTables.in_hand c.take_out.new.held in
    let held = held_by c.args.seat.now.state in
    let d = g.J.PlayTerms.deploy in
    let s = g.J.PlayTerms.source in
    let e : PlayEntry = record { operation = c.of.result; made = Some c.args.ready.made; touched = c.args.group } in
    let group = subst (λ (o : Stored). HoldsGroup rows d s o c.args.group held before) (sym c.of.ensures) c.requires.group in
    let r = c.requires.ready in
    let made = subst (λ (ds : List Digest). AreMade rows (LosesRows (map (λ d. d.0) ds)) before after) c.as_slice.ensures.value c.take_out.ensures in
    ready-carried rows d s e held before group c.args.ready r.0 (drop c.args.taken.from (drawn_by c.args.seat.now.state)) r.2 refl (since_of c.args.seat.now.state) after c.requires.since made

pub returns-clause-drawn : goal.returns-clause-drawn
returns-clause-drawn g c =
    let r = c.requires.ready in
    let e : PlayEntry = record { operation = c.of.result; made = Some c.args.ready.made; touched = c.args.group } in
    let o = c.commit.ensures.offered in
    let ids : List Digest → List (List ℕ) = λ ds. map (λ d. d.0) ds in
    let ended : is_one_of c.of.result.value.id (ids c.args.ready.made.gone.value.items) ≡ c.is_one_of-ends.result =
    ap (λ (z : Stored). is_one_of z.id (ids c.args.ready.made.gone.value.items)) c.of.ensures ∙ ap (λ v. is_one_of c.args.taken.op.now.id (ids v.items)) (r.2.seen ∙ sym r.2.gone)
    ∙ ap (λ (x : List ℕ). is_one_of x (ids c.args.ready.gone.items)) (sym c.id.ensures) ∙ ap (λ (ds : List Digest). is_one_of c.id.result.0 (ids ds)) (sym c.as_slice-2.ensures.value) ∙ sym c.is_one_of-ends.ensures in
    record {
      number = c.commit.result;
      entry = e;
      home = c.commit.ensures.hub;
      drawn = c.commit.ensures.drawn;
      due = c.commit.ensures.due;
      taken = c.commit.ensures.taken ∙ ap (λ b. kept_if b (taken_by c.args.seat.now.state)) ended;
      offered = ap {A = List (ℕ × Stored)} things_of o.1 ∙ things_numbered o.0 _ ∙ ap (λ v. v.items) r.2.offered;
      took = c.commit.ensures.took;
      price = sym (min-eq_left r.2.cheap);
      fault = c.is_some-faulty.ensures;
      again = r.2.again c.commit.result e refl;
    }
