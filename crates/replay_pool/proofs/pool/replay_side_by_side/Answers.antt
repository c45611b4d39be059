use denote.Exit.{no}
use denote.Param.{param}
use denote.Param.Send.{arg_send, arg_sync, param_send, param_sync}
use Rattle.std.proofs.Common.{rules, ◌≡◌, false, ap, arith}
use Rattle.std.specs.Prelude.{is_some}
use Rattle.hub_rule.specs.Works.{hand}
use Rattle.hub_rule.specs.declared.view.Pile.{Pile}
use Rattle.hub_rule.specs.declared.view.Tally.{Tally}
use Rattle.replay_pool.proofs.Crossing.{entry-send, entry-sync}
use Rattle.replay_pool.proofs.Stops.{no-stop}
use Rattle.replay_pool.proofs.pool.replay_side_by_side.Goals as goal

pub start-requires-send-S-Entry : goal.start-requires-send-S-Entry
start-requires-send-S-Entry g c κs within = param_send _ _ (arg_send _ no _ (entry-send (param 3 g.row.J-Row) (param 4 g.row.J-Channel)))

pub start-requires-sync-S-Entry : goal.start-requires-sync-S-Entry
start-requires-sync-S-Entry g c κs within = param_sync _ _ (arg_sync _ no _ (entry-sync (param 3 g.row.J-Row) (param 4 g.row.J-Channel)))

pub work_all-requires-clause-seats : goal.work_all-requires-clause-seats
work_all-requires-clause-seats g c κs within = λ k d lt.
    let n = c.in_ok-hub.ensures.drawn k d lt in (c.in_ok-hub.ensures.rest k d lt, ap {A = Tally _} (λ t. t.due) n.1, ap {A = Pile _ _} (λ p. hand p) n.2)

pub close_replay-requires-clause-seats : goal.close_replay-requires-clause-seats
close_replay-requires-clause-seats g c κs within = λ k d lt. (c.in_ok-seats.ensures.each k d lt).0

pub returns : goal.returns
returns g c =
    let still : is_some c.in-Ok.closed.stop ≡ false = search rules in
    let none = no-stop c.in-Ok.closed.stop still in
    let over = c.in-Ok.ensures.ended (omega (arith, c.in_ok-seats.ensures.count, c.in_ok-hub.ensures.count, c.args.crew.now.range.0)) c.in_ok-hub.ensures.terms.0 (λ k d lt. (c.in_ok-seats.ensures.each k d lt).1) none in
    record { decides = λ w u fits differs. c.in-Ok.ensures.decides w u fits differs over.0 over.1 }
