use denote.Exit.{no}
use denote.Param.Send.{arg_send, arg_sync, param_send, param_sync}
use Rattle.play_hub.proofs.Crossing.{entry-send, entry-sync}
use Rattle.space_row.proofs.Crossing.{row-send, row-sync}
use Rattle.std.proofs.Common.{rules, ◌≡◌, false}
use Rattle.group_locks.specs.Seats.{limit_of, opened_shards, opened_works, spent_of}
use Rattle.play_pool.proofs.Closes.{closes}
use Rattle.play_pool.proofs.closing.close_play.Goals as goal

pub close-requires-send-S-Work : goal.close-requires-send-S-Work
close-requires-send-S-Work g c κs within = param_send _ _ (arg_send _ no _ row-send)

pub close-requires-send-S-Entry : goal.close-requires-send-S-Entry
close-requires-send-S-Entry g c κs within = param_send _ _ (arg_send _ no _ entry-send)

pub close-requires-sync-S-Work : goal.close-requires-sync-S-Work
close-requires-sync-S-Work g c κs within = param_sync _ _ (arg_sync _ no _ row-sync)

pub close-requires-sync-S-Entry : goal.close-requires-sync-S-Entry
close-requires-sync-S-Entry g c κs within = param_sync _ _ (arg_sync _ no _ entry-sync)

pub close-requires-clause-seats : goal.close-requires-clause-seats
close-requires-clause-seats g c κs within = λ k d lt. (c.requires.seats k d lt).0

pub returns : goal.returns
returns g c =
    let key = c.args.hub.table.shared.key in
    let k = c.in-Ok.ensures in
    let r = c.in-Ok.closed in
    let w = c.requires.workers in
    let t = c.requires.terms in
    let other : c.is_want_of_memory.result ≡ false = search rules in
    record {
      shards = k.shards;
      closes = closes g.J.PlayTerms.deploy g.J.PlayTerms.source g.T.ShardTables.rows (λ s. s.state) (opened_shards key) (opened_works key) r.entries.items r.shards.items r.left.items c.args.seats.items k.ran k.once k.drawn k.last
          r.charged (spent_of key) (limit_of key) t.0 t.1 (λ i d lt. (c.requires.seats i d lt).1) k.paid k.bounded c.args.workers w.0 w.1 c.requires.comm r.stop (c.is_want_of_memory.ensures other) (λ i d lt. (c.requires.seats i d lt).2) k.empty k.over k.stop k.fault;
    }
