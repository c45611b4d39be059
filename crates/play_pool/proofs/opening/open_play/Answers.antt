use denote.Exit.{no}
use denote.Param.Send.{arg_send, arg_sync, param_send, param_sync}
use Rattle.play_hub.proofs.Crossing.{entry-send, entry-sync}
use Rattle.space_row.proofs.Crossing.{row-send, row-sync}
use Rattle.std.proofs.Common.{ap}
use Rattle.std.proofs.lemmas.Result.{IfOk-weaker}
use Rattle.hub_rule.specs.Works.{hand}
use Rattle.hub_rule.specs.declared.view.Pile.{Pile}
use Rattle.hub_rule.specs.declared.view.Tally.{Tally}
use Rattle.play_pool.proofs.Opens.{opens, both-ok}
use Rattle.play_pool.proofs.opening.open_play.Goals as goal

pub start-requires-send-S-Work : goal.start-requires-send-S-Work
start-requires-send-S-Work g c κs within = param_send _ _ (arg_send _ no _ row-send)

pub start-requires-send-S-Entry : goal.start-requires-send-S-Entry
start-requires-send-S-Entry g c κs within = param_send _ _ (arg_send _ no _ entry-send)

pub start-requires-sync-S-Work : goal.start-requires-sync-S-Work
start-requires-sync-S-Work g c κs within = param_sync _ _ (arg_sync _ no _ row-sync)

pub start-requires-sync-S-Entry : goal.start-requires-sync-S-Entry
start-requires-sync-S-Entry g c κs within = param_sync _ _ (arg_sync _ no _ entry-sync)

pub start-requires-clause-opens : goal.start-requires-clause-opens
start-requires-clause-opens g c κs within =
    opens g.J.PlayTerms.deploy g.J.PlayTerms.source g.T.ShardTables.rows c.args.base.items c.in_ok-shards.shards.items c.args.offers.items c.requires.base c.in_ok-shards.ensures.rows c.requires.offers

pub returns-clause-idle : goal.returns-clause-idle
returns-clause-idle g c =
    IfOk-weaker c.start.result _ _ (λ p h k d lt. (let n = h.1 k d lt in (h.0 k d lt, ap {A = Tally _} (λ t. t.due) n.1, ap {A = Pile _ _} (λ q. hand q) n.2))) (both-ok c.start.result _ _ c.start.ensures.rest c.start.ensures.drawn)

pub returns-clause-count : goal.returns-clause-count
returns-clause-count g c = both-ok c.start.result _ _ c.start.ensures.count c.start.ensures.key
